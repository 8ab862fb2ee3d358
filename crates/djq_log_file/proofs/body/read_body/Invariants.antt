use Rattle.std.proofs.Common.{◌≡◌, ◌+◌, ◌-◌, ◌≤◌, ℕ, List, ◌++◌, length, drop, true}
use Rattle.std.specs.List.{AllByRecursion}
use Rattle.djq_disk.specs.History.{WhereHistoryTold}
use Rattle.djq_log_format.specs.Format.{IsLogLine, record_body}
use Rattle.djq_log_format.specs.Encoding.{measured}
use Rattle.djq_log_file.specs.Window.{ReadsThrough}
use Rattle.djq_log_file.proofs.body.read_body.Given as goal

-- The entries so far are those of lines, which are measured, and no fault was met.
abbrev pub invariant-loop-done : goal.invariant-loop-done
invariant-loop-done g l = record {
  lines : List (List ℕ);
  are_lines : AllByRecursion IsLogLine lines;
  size : l.done ≡ length (record_body lines);
  within : l.done ≤ l.size;
  place : l.at + l.done ≤ 18446744073709551615;
  is_measured : l.measure ≡ measured l.digest lines;
  room : 65535 ≤ length l.buf;
  is_open : g.D.Disk.is_open l.disk ≡ true;
  told : WhereHistoryTold (g.D.Disk.told l.fn.disk) (g.D.Disk.told l.disk)
      (ReadsThrough (λ bytes. drop l.at bytes ≡ record_body lines ++ drop l.done (drop l.at bytes)) l.fn.window l.window);
  faults : g.D.Disk.faults l.disk ≡ g.D.Disk.faults l.fn.disk;
}

abbrev pub decreases-loop-done : goal.decreases-loop-done
decreases-loop-done g l = l.size - l.done
