use Rattle.std.proofs.Common.{◌≡◌, ◌≤◌, ◌-◌, length}
use Rattle.std.specs.Prelude.{None}
use Rattle.djq_machine.specs.Call.{counts}
use Rattle.djq_io.specs.declared.limits.TheConstants.{READ_BYTES}
use Rattle.djq_run_laws.specs.Holding.{HoldLines}
use Rattle.djq_serve.specs.Told.{hub_shown}
use Rattle.djq_serve.specs.Goes.{log_place}
use Rattle.djq_serve.specs.Kept.{Agrees}
use Rattle.djq_serve.proofs.Rounds.{Taking}
use Rattle.djq_serve.proofs.serving.take_rounds.Given as goal

abbrev pub invariant-rounds : goal.invariant-rounds
invariant-rounds g l =
    let state = g.M.Machine.state in
    let past = g.H.Hub.past in
    let script = g.H.Hub.script in
    let ids = g.H.Hub.ids in
    record {
      agrees : Agrees (state l.machine) (ids l.hub);
      hold : HoldLines (state l.machine);
      within : l.left ≤ l.turns;
      taking : Taking l.most (hub_shown (past l.fn.hub) (script l.fn.hub) (ids l.fn.hub))
          (hub_shown (past l.hub) (script l.hub) (ids l.hub))
          (counts l.fn.steps.listing l.fn.steps.update l.fn.steps.rows)
          (counts l.steps.listing l.steps.update l.steps.rows)
          (state l.fn.machine) (state l.machine) (log_place l.fn.log (g.D.Disk.told l.fn.disk))
          (log_place l.log (g.D.Disk.told l.disk)) (l.turns - l.left);
      faults : g.H.Hub.faults l.hub ≡ g.H.Hub.faults l.fn.hub;
      disk : g.D.Disk.faults l.disk ≡ g.D.Disk.faults l.fn.disk;
      is_open : g.D.Disk.is_open l.disk ≡ g.D.Disk.is_open l.fn.disk;
      nowhere : l.fn.log ≡ None → l.log ≡ None;
      room : length l.buffer ≡ READ_BYTES;
    }

abbrev pub decreases-rounds : goal.decreases-rounds
decreases-rounds g l = l.left
