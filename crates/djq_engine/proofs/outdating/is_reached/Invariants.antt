use Rattle.std.proofs.Common.{◌≡◌, false, take}
use Rattle.djq_reach.specs.Places.{is_reader}
use Rattle.djq_reach.specs.Grouping.{reached}
use Rattle.djq_engine.proofs.outdating.is_reached.Given as goal

abbrev pub invariant-loop-nth : goal.invariant-loop-nth
invariant-loop-nth l = is_reader (reached l.readers.items (take l.nth l.groups)) l.place ≡ false
