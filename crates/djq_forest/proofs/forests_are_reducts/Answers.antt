-- Each table is its node's reduct, by the kind of node.
use Rattle.djq_forest.proofs.Reduction.{reduction}
use Rattle.djq_forest.proofs.forests_are_reducts.Goals as goal

pub returns : goal.returns
returns c = reduction
