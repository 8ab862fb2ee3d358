-- Of the edges passed a variable lies in one at least, or in two; in just one where not in two.
use Rattle.djq_hypergraph.proofs.JoinTrees.{read_at}
use Rattle.djq_hypergraph.proofs.Labels.{once_more, twice_more, own_variables_of}
use Rattle.djq_hypergraph.proofs.own.own_variables.Goals as goal

pub sets-preserved : goal.sets-preserved
sets-preserved c =
    let sets = c.args.sets.now in
    let within = c.sets-test.true in
    let is = read_at sets c.sets.i c.index-sets-i.result within c.index-sets-i.is in
    record {
      once = once_more sets c.sets.i c.index-sets-i.result c.sets.once c.union-once.result within is
          c.sets.invariant.once c.union-once.ensures;
      twice = twice_more sets c.sets.i c.index-sets-i.result c.sets.once c.intersection.result c.sets.twice
          c.union-twice.result within is c.sets.invariant.once c.sets.invariant.twice c.intersection.ensures
          c.union-twice.ensures;
    }

pub returns : goal.returns
returns c = own_variables_of c.args.sets.now c.sets.i c.sets.once c.sets.twice c.difference.result c.sets-test.false
    c.sets.invariant.once c.sets.invariant.twice c.difference.ensures
