-- The row has so many copies left.
use Rattle.std.proofs.Common.{◌≡◌, ◌≤◌, ◌-◌}
use Rattle.djq_transaction.specs.Applied.{SetsCopiesAt}
use Rattle.djq_transaction.proofs.copies.delete_copies.Given as goal

abbrev pub invariant-loop-left : goal.invariant-loop-left
invariant-loop-left g l = record {
  set : SetsCopiesAt l.fn.catalog l.id.at l.cells l.left l.catalog.relations;
  low : l.to ≤ l.left;
  texts : l.catalog.texts ≡ l.fn.catalog.texts;
}

abbrev pub decreases-loop-left : goal.decreases-loop-left
decreases-loop-left g l = l.left - l.to
