use Rattle.std.proofs.Common.{◌+◌, ◌*◌, ◌≤◌, take}
use Rattle.djq_propagate.specs.Batches.{HaveGone}
use Rattle.djq_propagate.specs.Sizes.{size}
use Rattle.djq_propagate.specs.Walks.{Fewer}
use Rattle.djq_propagate.proofs.many.remove_all.Given as goal

abbrev pub invariant-loop-i : goal.invariant-loop-i
invariant-loop-i g l = record {
  gone : HaveGone l.tree l.fn.tables.items l.tables.items l.leaf (take l.i l.tuples);
  lesser : Fewer l.fn.tables.items l.tables.items;
  counted : l.tally + 5 * size l.tables.items ≤ l.fn.tally + 5 * size l.fn.tables.items;
}
