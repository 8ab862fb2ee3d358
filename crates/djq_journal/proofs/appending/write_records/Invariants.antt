use Rattle.std.proofs.Common.{◌≡◌, ◌-◌, ◌≤◌, ℕ, List, length, take, true}
use Rattle.djq_disk.specs.History.{WhereHistoryTold}
use Rattle.djq_journal.specs.Standing.{IsIdle}
use Rattle.djq_journal.specs.Staging.{Stages, StagesLines}
use Rattle.djq_journal.specs.Passing.{HasPassed}
use Rattle.djq_journal.specs.declared.limits.TheConstants.{PIECE_BYTES}
use Rattle.djq_journal.proofs.appending.write_records.Given as goal

-- The lines so far are laid out, as bytes that were written behind the gate and bytes that are gathered,
-- and no fault was met.
abbrev pub invariant-loop-line : goal.invariant-loop-line
invariant-loop-line g l = record {
  size : length l.buf ≡ PIECE_BYTES;
  within : l.filled ≤ PIECE_BYTES;
  written : List ℕ;
  gathers : StagesLines (g.G.Group.lines l.group) l.i l.gate l.at written (take l.filled l.buf);
  is_open : g.D.Disk.is_open l.disk ≡ true;
  told : (lines : List (List ℕ)) → WhereHistoryTold (g.D.Disk.told l.fn.disk) (g.D.Disk.told l.disk)
      (λ o n. IsIdle lines l.gate o.file → Stages lines l.gate written o n);
  moments : WhereHistoryTold (g.D.Disk.told l.fn.disk) (g.D.Disk.told l.disk) HasPassed;
  faults : g.D.Disk.faults l.disk ≡ g.D.Disk.faults l.fn.disk;
}

abbrev pub decreases-loop-line : goal.decreases-loop-line
decreases-loop-line g l = length (g.G.Group.lines l.group) - l.i
