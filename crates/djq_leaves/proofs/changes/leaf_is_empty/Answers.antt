-- There is no row in an empty list, so no tuple gives one.
use Rattle.djq_leaves.proofs.Fills.{leaf_empty}
use Rattle.djq_leaves.proofs.changes.leaf_is_empty.Goals as goal

pub returns : goal.returns
returns c = leaf_empty
