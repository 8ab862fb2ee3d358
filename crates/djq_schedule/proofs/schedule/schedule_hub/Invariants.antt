use Rattle.std.proofs.Common.{length}
use Rattle.djq_schedule.proofs.Schedules.{Making}
use Rattle.djq_schedule.proofs.schedule.schedule_hub.Given as goal

abbrev pub invariant-lines : goal.invariant-lines
invariant-lines l = record { making : Making l.bytes l.hub l.seen l.number l.rest }

abbrev pub decreases-lines : goal.decreases-lines
decreases-lines l = length l.rest
