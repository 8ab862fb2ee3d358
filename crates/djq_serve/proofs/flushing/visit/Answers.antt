-- Where nothing is pending the session has ended, and is closed; else the send's answer says how it goes on.
use Rattle.std.proofs.Common.{◌≡◌, ◌+◌, ◌<◌, ◌∙◌, ℕ, [], length, sym, ap, rules, arith}
use Rattle.djq_machine.specs.Step.{took}
use Rattle.djq_machine.specs.Run.{pending_of}
use Rattle.djq_run_laws.proofs.Sessions.{step_ids}
use Rattle.djq_serve.proofs.Going.{tells_send, tells_more}
use Rattle.djq_serve.proofs.Moving.{visit_blocked, visit_gone, visit_closes}
use Rattle.djq_serve.proofs.Sessions.{agrees_same, due_ended, open_at_hub, took_nearer}
use Rattle.djq_serve.proofs.Sessions.{closed_nearer}
use Rattle.djq_serve.proofs.Working.{took_spares, closed_spares, spares_same}
use Rattle.djq_serve.proofs.Visits.{empty, at_place, offers_all, takes_some}
use Rattle.djq_serve.proofs.flushing.visit.Goals as goal

pub send-requires-clause-is_open : goal.send-requires-clause-is_open
send-requires-clause-is_open g c = open_at_hub (g.M.Machine.state c.args.machine.now) (g.H.Hub.ids c.args.hub.now)
    c.args.id c.requires.agrees c.requires.open

-- Nothing is pending, and the session is closed.

pub returns-then-is_empty-clause-goes : goal.returns-then-is_empty-clause-goes
returns-then-is_empty-clause-goes g c most from next due =
    let state = g.M.Machine.state in
    let old = state c.args.machine.now in
    let same : c.from-next.result ≡ c.args.id = search rules in
    let none : pending_of old c.args.id ≡ [] = sym c.pending-pending.ensures
    ∙ empty c.pending-pending.result.now (search rules) in
    at_place most _ _ old (state c.close.new.machine) from (c.args.id + 1) (c.from-next.result + 1) next
    (ap (λ (n : ℕ). n + 1) same)
    (visit_closes most _ _ old (state c.close.new.machine) from next c.args.id due none
    (due_ended old from c.args.id due none) c.close.ensures.makes c.close.ensures.told)

pub returns-then-is_empty-clause-nearer : goal.returns-then-is_empty-clause-nearer
returns-then-is_empty-clause-nearer g c =
    let state = g.M.Machine.state in
    let same : c.from-next.result ≡ c.args.id = search rules in
    closed_nearer (state c.args.machine.now) (state c.close.new.machine) c.args.id (c.from-next.result + 1) _
    (search rules) (ap (λ (n : ℕ). n + 1) same) c.close.ensures.makes

pub returns-then-is_empty-clause-spares : goal.returns-then-is_empty-clause-spares
returns-then-is_empty-clause-spares g c =
    let state = g.M.Machine.state in
    closed_spares (state c.args.machine.now) c.args.id _ (state c.close.new.machine) c.close.ensures.makes

-- Bytes were taken.

pub returns-in-Took-clause-goes : goal.returns-in-Took-clause-goes
returns-in-Took-clause-goes g c most from next due =
    let state = g.M.Machine.state in
    let sent = c.in-Took.ensures in
    let same : c.from.result ≡ c.args.id = search rules in
    at_place most _ _ (state c.args.machine.now) (state c.took.new.self) from c.args.id c.from.result next same
    (takes_some most _ _ (state c.args.machine.now) (state c.took.new.self) c.args.id c.in-Took.count _
    c.pending-pending.ensures sent.takes.0 sent.takes.1 c.took.ensures
    (tells_send _ _ _ _ _ _ c.args.id _ _ sent.past sent.script sent.ids) from next due)

pub returns-in-Took-clause-nearer : goal.returns-in-Took-clause-nearer
returns-in-Took-clause-nearer g c =
    let state = g.M.Machine.state in
    let sent = c.in-Took.ensures in
    let same : c.from.result ≡ c.args.id = search rules in
    took_nearer (state c.args.machine.now) (state c.took.new.self) c.args.id c.from.result c.in-Took.count _ same
    c.pending-pending.ensures sent.takes.0 sent.takes.1 c.took.ensures

pub returns-in-Took-clause-agrees : goal.returns-in-Took-clause-agrees
returns-in-Took-clause-agrees g c =
    let state = g.M.Machine.state in
    agrees_same (state c.args.machine.now) (state c.took.new.self) _ _
    (step_ids _ (took c.args.id _) c.took.ensures.effect _ c.took.ensures.step) c.in-Took.ensures.ids
    c.requires.agrees

pub returns-in-Took-clause-spares : goal.returns-in-Took-clause-spares
returns-in-Took-clause-spares g c =
    let state = g.M.Machine.state in
    took_spares (state c.args.machine.now) c.args.id _ (state c.took.new.self) c.took.ensures

-- None are taken now.

pub returns-in-Again-clause-goes : goal.returns-in-Again-clause-goes
returns-in-Again-clause-goes g c most from next due =
    let old = g.M.Machine.state c.args.machine.now in
    let sent = c.in-Again.ensures in
    let same : c.from-next.result ≡ c.args.id = search rules in
    let some : 0 < length c.pending-pending.result.now = search rules in
    at_place most _ _ old old from (c.args.id + 1) (c.from-next.result + 1) next (ap (λ (n : ℕ). n + 1) same)
    (visit_blocked most _ _ old from next c.args.id due (omega (arith, some, ap length c.pending-pending.ensures))
    (offers_all _ _ c.args.id _ _ _ c.pending-pending.ensures
    (tells_send _ _ _ _ _ _ c.args.id _ _ sent.past sent.script sent.ids)))

-- The session is gone, and is closed.

pub returns-in-Gone-clause-goes : goal.returns-in-Gone-clause-goes
returns-in-Gone-clause-goes g c most from next due =
    let state = g.M.Machine.state in
    let old = state c.args.machine.now in
    let new = state c.close-in-Gone.new.machine in
    let sent = c.in-Gone.ensures in
    let same : c.from-next.result ≡ c.args.id = search rules in
    let some : 0 < length c.pending-pending.result.now = search rules in
    at_place most _ _ old new from (c.args.id + 1) (c.from-next.result + 1) next (ap (λ (n : ℕ). n + 1) same)
    (visit_gone most _ _ old new from next c.args.id due (omega (arith, some, ap length c.pending-pending.ensures))
    c.close-in-Gone.ensures.makes
    (tells_more _ _ _ _ _
    (offers_all _ _ c.args.id _ _ _ c.pending-pending.ensures
    (tells_send _ _ _ _ _ _ c.args.id _ _ sent.past sent.script sent.ids))
    c.close-in-Gone.ensures.told))

pub returns-in-Gone-clause-nearer : goal.returns-in-Gone-clause-nearer
returns-in-Gone-clause-nearer g c =
    let state = g.M.Machine.state in
    let same : c.from-next.result ≡ c.args.id = search rules in
    closed_nearer (state c.args.machine.now) (state c.close-in-Gone.new.machine) c.args.id (c.from-next.result + 1) _
    (search rules) (ap (λ (n : ℕ). n + 1) same) c.close-in-Gone.ensures.makes

pub returns-in-Gone-clause-spares : goal.returns-in-Gone-clause-spares
returns-in-Gone-clause-spares g c =
    let state = g.M.Machine.state in
    closed_spares (state c.args.machine.now) c.args.id _ (state c.close-in-Gone.new.machine)
    c.close-in-Gone.ensures.makes

pub returns-in-Again-clause-spares : goal.returns-in-Again-clause-spares
returns-in-Again-clause-spares g c = spares_same (g.M.Machine.state c.args.machine.now)
