use Rattle.std.proofs.Common.{◌≡◌, ◌+◌, ◌-◌, ◌≤◌, length, take, true}
use Rattle.djq_disk.specs.History.{WhereHistoryTold}
use Rattle.djq_disk.specs.declared.disk.DiskDid.TheVariants.{Done}
use Rattle.djq_log_format.specs.Format.{record_body}
use Rattle.djq_log_file.specs.Laying.{LaysMore, end_of_gathering}
use Rattle.djq_log_file.proofs.appending.put_lines.Given as goal

-- The entries of the lines so far are laid, and no fault was met.
abbrev pub invariant-loop-line : goal.invariant-loop-line
invariant-loop-line g l = record {
  end : end_of_gathering l.writer ≡ end_of_gathering l.fn.writer + length (record_body (take l.i (g.G.Group.lines l.group)));
  few : l.i ≤ length (record_body (take l.i (g.G.Group.lines l.group)));
  is_open : g.D.Disk.is_open l.disk ≡ true;
  told : WhereHistoryTold (g.D.Disk.told l.fn.disk) (g.D.Disk.told l.disk)
      (LaysMore Done (record_body (take l.i (g.G.Group.lines l.group))) l.fn.writer l.writer);
  faults : g.D.Disk.faults l.disk ≡ g.D.Disk.faults l.fn.disk;
}

abbrev pub decreases-loop-line : goal.decreases-loop-line
decreases-loop-line g l = length (g.G.Group.lines l.group) - l.i
