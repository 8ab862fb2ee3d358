-- Different tuples of a leaf give different rows of its relation, in Small, so it can't have more.
use Rattle.djq_live_query.proofs.LeafRows.{leaves_small}
use Rattle.djq_live_query.proofs.laws.leaves_are_small.Goals as goal

pub returns : goal.returns
returns c = leaves_small
