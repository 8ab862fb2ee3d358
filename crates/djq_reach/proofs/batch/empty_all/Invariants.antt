use Rattle.std.proofs.Common.{take}
use Rattle.djq_reach.specs.Places.{is_reader}
use Rattle.djq_reach.specs.Grouping.{Clears, reached}
use Rattle.djq_reach.proofs.batch.empty_all.Given as goal

abbrev pub invariant-loop-nth : goal.invariant-loop-nth
invariant-loop-nth l = Clears (is_reader (reached l.readers (take l.nth l.groups))) l.fn.logs.items l.logs.items
