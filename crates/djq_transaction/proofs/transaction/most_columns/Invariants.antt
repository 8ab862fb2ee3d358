-- No relation up to a place has more columns.
use Rattle.std.specs.Prelude.{ℕ, ◌<◌, ◌≤◌, length}
use Rattle.djq_database.specs.Catalog.{relation_at}
use Rattle.djq_index.specs.declared.cells.TheConstants.{CELLS}
use Rattle.djq_transaction.proofs.transaction.most_columns.Given as goal

abbrev pub invariant-loop-at : goal.invariant-loop-at
invariant-loop-at l = record {
  most : (i : ℕ) → i < l.at → length (relation_at l.catalog.relations i).types ≤ l.most;
  few : l.most ≤ CELLS;
}
