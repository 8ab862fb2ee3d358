use Rattle.std.proofs.Common.{◌≡◌, take}
use Rattle.djq_database.specs.Cells.{cells_of}
use Rattle.djq_binder.specs.Asked.{constants_in}
use Rattle.djq_leaves.proofs.bind.compared_cells.Given as goal

abbrev pub invariant-comparisons : goal.invariant-comparisons
invariant-comparisons l =
    l.cells.items ≡ cells_of l.catalog.texts (constants_in (take l.i l.comparisons))
