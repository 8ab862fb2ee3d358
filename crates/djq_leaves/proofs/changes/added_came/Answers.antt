-- A row that is added stands behind its relation's other rows, and other relations are as they were.
use Rattle.djq_leaves.proofs.LeafRows.{added_came}
use Rattle.djq_leaves.proofs.changes.added_came.Goals as goal

pub returns : goal.returns
returns c = added_came
