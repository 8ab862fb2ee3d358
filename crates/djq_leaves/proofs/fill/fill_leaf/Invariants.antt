use Rattle.std.proofs.Common.{length}
use Rattle.djq_leaves.specs.Building.{LeafHasTaken}
use Rattle.djq_leaves.proofs.fill.fill_leaf.Given as goal

abbrev pub invariant-rows : goal.invariant-rows
invariant-rows g l = LeafHasTaken l.catalog l.relation l.pattern l.leaf l.walk l.fn.reducts l.reducts

abbrev pub decreases-rows : goal.decreases-rows
decreases-rows g l = length l.walk
