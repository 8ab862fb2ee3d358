use Rattle.std.proofs.Common.{◌≡◌, ◌≤◌, length}
use Rattle.djq_schedule.specs.Schedule.{id_from}
use Rattle.djq_schedule.proofs.line.read_id.Given as goal

abbrev pub invariant-digits : goal.invariant-digits
invariant-digits l = record {
  value : id_from l.id l.rest ≡ id_from 0 l.digits;
  small : l.id ≤ 1000000;
}

abbrev pub decreases-digits : goal.decreases-digits
decreases-digits l = length l.rest
