use Rattle.std.proofs.Common.{◌≡◌, ◌≤◌, ◌+◌, length}
use Rattle.djq_schedule.specs.Schedule.{schedule_lines}
use Rattle.djq_schedule.proofs.schedule.count_lines.Given as goal

abbrev pub invariant-lines : goal.invariant-lines
invariant-lines l = record {
  counted : length (schedule_lines l.bytes) ≡ l.count + length (schedule_lines l.rest);
  few : l.count + length l.rest ≤ length l.bytes;
}

abbrev pub decreases-lines : goal.decreases-lines
decreases-lines l = length l.rest
