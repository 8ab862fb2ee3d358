-- The constants of all comparisons have cells, so the one at the index has.
use Rattle.djq_leaves.proofs.LeafRows.{compared_at}
use Rattle.djq_leaves.proofs.bind.compared_cells.Goals as goal

pub value_cell-requires : goal.value_cell-requires
value_cell-requires c =
    compared_at c.args.catalog.now.texts c.args.comparisons.now c.comparisons.i
    c.index-comparisons-i.result c.requires c.comparisons-test.true
