-- The relation's rows in cells are those that stand for one of its rows, at the same place.
use Rattle.djq_leaves.proofs.Fills.{leaf_filled}
use Rattle.djq_leaves.proofs.changes.leaf_is_filled.Goals as goal

pub returns : goal.returns
returns c = leaf_filled
