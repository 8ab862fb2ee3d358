-- The row has so many copies.
use Rattle.std.proofs.Common.{◌≡◌}
use Rattle.djq_transaction.specs.Applied.{SetsCopiesAt}
use Rattle.djq_transaction.proofs.copies.add_copies.Given as goal

abbrev pub invariant-loop-count : goal.invariant-loop-count
invariant-loop-count g l = record {
  set : SetsCopiesAt l.fn.catalog l.id.at l.cells l._count l.catalog.relations;
  texts : l.catalog.texts ≡ l.fn.catalog.texts;
}
