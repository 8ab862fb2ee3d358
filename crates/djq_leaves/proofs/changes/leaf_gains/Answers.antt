-- A row of both lists is of the first or of the second, so its tuples were held before or are gained.
use Rattle.djq_leaves.proofs.Fills.{leaf_gains}
use Rattle.djq_leaves.proofs.changes.leaf_gains.Goals as goal

pub returns : goal.returns
returns c = leaf_gains
