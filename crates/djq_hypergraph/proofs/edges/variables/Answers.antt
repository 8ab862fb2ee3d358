-- A variable lies in an edge of one more exactly where it lies in one of those passed, or in this one.
use Rattle.djq_hypergraph.proofs.JoinTrees.{read_at}
use Rattle.djq_hypergraph.proofs.Labels.{once_more}
use Rattle.djq_hypergraph.proofs.edges.variables.Goals as goal

pub sets-preserved : goal.sets-preserved
sets-preserved c =
    let sets = c.args.sets.now in
    let within = c.sets-test.true in
    let is = read_at sets c.sets.i c.index-sets-i.result within c.index-sets-i.is in
    once_more sets c.sets.i c.index-sets-i.result c.sets.all c.union-all.result within is c.sets.invariant
    c.union-all.ensures
