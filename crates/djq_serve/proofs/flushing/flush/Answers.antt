-- A visit goes to the first session to which something is due, and leaves fewer visits ahead.
use Rattle.std.proofs.Common.{◌≡◌, ◌∙◌, None, refl, sym, rules}
use Rattle.djq_serve.proofs.Sessions.{due_open, due_above}
use Rattle.djq_serve.proofs.Visits.{flush_begun, flush_more, flush_done}
use Rattle.djq_serve.proofs.flushing.flush.Goals as goal

pub visits-init : goal.visits-init
visits-init g c = record
    { flushing = flush_begun _ (g.M.Machine.state c.args.machine.now) c.requires.agrees; faults = refl }

pub visit-from-requires-clause-open : goal.visit-from-requires-clause-open
visit-from-requires-clause-open g c = due_open (g.M.Machine.state c.visits.machine) c.visits.from c.in-Some.id
    (sym c.due.ensures ∙ c.in-Some.is)

pub visits-smaller : goal.visits-smaller
visits-smaller g c = c.visit-from.ensures.nearer c.visits.from
    (due_above (g.M.Machine.state c.visits.machine) c.visits.from c.in-Some.id (sym c.due.ensures ∙ c.in-Some.is))

pub visits-preserved : goal.visits-preserved
visits-preserved g c =
    let state = g.M.Machine.state in
    record {
      flushing = flush_more _ _ _ (state c.args.machine.now) (state c.visits.machine) (state c.visit-from.new.machine)
          c.visits.from c.in-Some.id c.visit-from.result
          c.visits.invariant.flushing (sym c.due.ensures ∙ c.in-Some.is) c.visit-from.ensures.goes
          c.visit-from.ensures.agrees c.visit-from.ensures.spares;
      faults = c.visit-from.ensures.faults ∙ c.visits.invariant.faults;
    }

pub returns-clause-flushes : goal.returns-clause-flushes
returns-clause-flushes g c =
    let state = g.M.Machine.state in
    let none : c.due.result ≡ None = search rules in
    flush_done _ _ (state c.args.machine.now) (state c.visits.machine) c.visits.from c.visits.invariant.flushing
    (sym c.due.ensures ∙ none)
