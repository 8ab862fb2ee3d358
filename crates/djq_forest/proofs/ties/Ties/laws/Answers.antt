-- The lists that the links lead to are those of the tied slots.
use Rattle.djq_forest.proofs.TieChanges.{laws}
use Rattle.djq_forest.proofs.ties.Ties.laws.Goals as goal

pub returns : goal.returns
returns c = rw (← c.self.view_is) (laws c.self.inside.ties.items c.self.inside.heads.items c.self.invariant)
