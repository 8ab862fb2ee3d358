use Rattle.std.proofs.Common.{◌≡◌, ◌+◌, ◌-◌, ◌≤◌, length, take, drop, true}
use Rattle.djq_disk.specs.History.{WhereHistoryTold}
use Rattle.djq_log_file.specs.Window.{ReadsThrough}
use Rattle.djq_log_file.proofs.window.Window.fill.Given as goal

-- The buffer has the file's bytes as far as it was filled, and no fault was met.
abbrev pub invariant-loop-done : goal.invariant-loop-done
invariant-loop-done g l = record {
  within : l.done ≤ length l.buf;
  fits : l.at + l.done ≤ 18446744073709551615;
  is_open : g.D.Disk.is_open l.disk ≡ true;
  told : WhereHistoryTold (g.D.Disk.told l.fn.disk) (g.D.Disk.told l.disk)
      (ReadsThrough (λ bytes. take l.done l.buf ≡ take l.done (drop l.at bytes)) l.fn.self l.self);
  faults : g.D.Disk.faults l.disk ≡ g.D.Disk.faults l.fn.disk;
}

abbrev pub decreases-loop-done : goal.decreases-loop-done
decreases-loop-done g l = length l.initial.buf - l.done
