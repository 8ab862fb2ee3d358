use Rattle.std.proofs.Common.{◌≡◌, ◌<◌, ◌⊎◌, [], true}
use Rattle.std.specs.Prelude.{None}
use Rattle.std.specs.List.{AllByRecursion}
use Rattle.djq_journal.specs.Format.{IsJournalLine}
use Rattle.djq_machine.specs.Call.{counts}
use Rattle.djq_run_laws.specs.Holding.{HoldLines}
use Rattle.djq_serve.specs.declared.limits.TheConstants.{COMMIT_LINES}
use Rattle.djq_serve.specs.Told.{hub_shown}
use Rattle.djq_serve.specs.Goes.{log_place}
use Rattle.djq_serve.specs.Kept.{Agrees, work}
use Rattle.djq_serve.proofs.Lining.{Lining}
use Rattle.djq_serve.proofs.running.run_lines.Given as goal

-- The lines so far were run, and those of the open commit are to be logged.
abbrev pub invariant-lines : goal.invariant-lines
invariant-lines g l =
    let state = g.M.Machine.state in
    let commit = g.M.Machine.commit in
    let past = g.H.Hub.past in
    let script = g.H.Hub.script in
    let ids = g.H.Hub.ids in
    record {
      lining : Lining (hub_shown (past l.fn.hub) (script l.fn.hub) (ids l.fn.hub))
          (hub_shown (past l.hub) (script l.hub) (ids l.hub))
          (counts l.fn.steps.listing l.fn.steps.update l.fn.steps.rows)
          (counts l.steps.listing l.steps.update l.steps.rows)
          (state l.fn.machine) (state l.machine) l.from l.count
          (log_place l.fn.log (g.D.Disk.told l.fn.disk)) (log_place l.log (g.D.Disk.told l.disk)) (commit l.machine);
      few : l.count < COMMIT_LINES;
      are : AllByRecursion IsJournalLine (commit l.machine);
      room : (commit l.machine ≡ []) ⊎ (g.M.Machine.room l.machine ≡ true);
      hold : HoldLines (state l.machine);
      agrees : Agrees (state l.machine) (ids l.hub);
      faults : g.H.Hub.faults l.hub ≡ g.H.Hub.faults l.fn.hub;
      disk : g.D.Disk.faults l.disk ≡ g.D.Disk.faults l.fn.disk;
      is_open : g.D.Disk.is_open l.disk ≡ g.D.Disk.is_open l.fn.disk;
      nowhere : l.fn.log ≡ None → l.log ≡ None;
    }

abbrev pub decreases-lines : goal.decreases-lines
decreases-lines g l = work (g.M.Machine.state l.machine)
