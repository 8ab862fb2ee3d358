use Rattle.std.proofs.Common.{◌≡◌, take}
use Rattle.djq_database.specs.Cells.{cells_of, HaveCells}
use Rattle.djq_database.proofs.catalog.Catalog.write_cells.Given as goal

abbrev pub invariant-loop-at : goal.invariant-loop-at
invariant-loop-at l = record {
  have : HaveCells l.self.texts (take l.at l.row);
  told : l.cells ≡ cells_of l.self.texts (take l.at l.row);
}
