use Rattle.std.proofs.Common.{◌≡◌, take}
use Rattle.djq_model.specs.Known.{texts_in, all_learned}
use Rattle.djq_database.specs.Cells.{cells_of, HaveCells}
use Rattle.djq_database.proofs.catalog.Catalog.intern_cells.Given as goal

abbrev pub invariant-loop-at : goal.invariant-loop-at
invariant-loop-at l = record {
  learned : l.self.texts ≡ all_learned l.fn.self.texts (texts_in (take l.at l.row));
  have : HaveCells l.self.texts (take l.at l.row);
  told : l.cells ≡ cells_of l.self.texts (take l.at l.row);
  relations : l.self.relations ≡ l.fn.self.relations;
}
