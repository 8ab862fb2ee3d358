use Rattle.std.proofs.Common.{◌≡◌, ◌<◌, ◌≤◌, ◌-◌, length}
use Rattle.djq_io.specs.declared.limits.TheConstants.{READ_BYTES}
use Rattle.djq_run_laws.specs.Holding.{HoldLines}
use Rattle.djq_serve.specs.Told.{hub_shown}
use Rattle.djq_serve.specs.Kept.{Agrees}
use Rattle.djq_serve.specs.Parts.{RestCounts}
use Rattle.djq_serve.proofs.Turns.{Gathering}
use Rattle.djq_serve.proofs.gathering.gather.Given as goal

abbrev pub invariant-turns : goal.invariant-turns
invariant-turns g l =
    let state = g.M.Machine.state in
    let past = g.H.Hub.past in
    let script = g.H.Hub.script in
    let ids = g.H.Hub.ids in
    record {
      gathering : Gathering l.limit l.taken l.rest (hub_shown (past l.fn.hub) (script l.fn.hub) (ids l.fn.hub))
          (hub_shown (past l.hub) (script l.hub) (ids l.hub)) (state l.fn.machine) (state l.machine);
      some : 0 < l.taken;
      within : l.taken ≤ l.limit;
      agrees : Agrees (state l.machine) (ids l.hub);
      hold : HoldLines (state l.machine);
      counts : RestCounts l.rest (g.H.Hub.faults l.fn.hub) (g.H.Hub.faults l.hub);
      room : length l.buffer ≡ READ_BYTES;
    }

abbrev pub decreases-turns : goal.decreases-turns
decreases-turns g l = l.limit - l.taken
