-- A variable of no edge that isn't in the head is as in a flat query, so only the others are left.
use Rattle.djq_hypergraph.proofs.Labels.{flat_outside}
use Rattle.djq_hypergraph.proofs.flat.is_flat.Goals as goal

pub loop-variable-init : goal.loop-variable-init
loop-variable-init c = λ x out. flat_outside c.args.edges.now c.args.head.now c.variables-all.result c.union-rest.result
    x (c.variables-all.ensures x) (c.union-rest.ensures x) out
