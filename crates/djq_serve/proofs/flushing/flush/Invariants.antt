use Rattle.std.proofs.Common.{◌≡◌}
use Rattle.djq_serve.specs.Told.{hub_shown}
use Rattle.djq_serve.specs.Kept.{flush_ahead}
use Rattle.djq_serve.proofs.Visits.{Flushing}
use Rattle.djq_serve.proofs.flushing.flush.Given as goal

abbrev pub invariant-visits : goal.invariant-visits
invariant-visits g l =
    let state = g.M.Machine.state in
    let past = g.H.Hub.past in
    let script = g.H.Hub.script in
    let ids = g.H.Hub.ids in
    record {
      flushing : Flushing (hub_shown (past l.fn.hub) (script l.fn.hub) (ids l.fn.hub))
          (hub_shown (past l.hub) (script l.hub) (ids l.hub)) (state l.fn.machine) (state l.machine) l.from;
      faults : g.H.Hub.faults l.hub ≡ g.H.Hub.faults l.fn.hub;
    }

abbrev pub decreases-visits : goal.decreases-visits
decreases-visits g l = flush_ahead (g.M.Machine.state l.machine) l.from
