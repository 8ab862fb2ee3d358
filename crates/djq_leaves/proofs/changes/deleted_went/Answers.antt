-- Without its copies a row is out of its relation, whose other rows stay, as do the other relations.
use Rattle.djq_leaves.proofs.LeafRows.{deleted_went}
use Rattle.djq_leaves.proofs.changes.deleted_went.Goals as goal

pub returns : goal.returns
returns c = deleted_went
