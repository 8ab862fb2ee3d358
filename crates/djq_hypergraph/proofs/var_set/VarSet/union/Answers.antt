-- The bits that one of two words has are the variables that one of the sets has, below the limit still.
use Rattle.djq_hypergraph.proofs.Sets.{word_fits, word_union}
use Rattle.djq_hypergraph.proofs.var_set.VarSet.union.Goals as goal

pub invariant_of-result : goal.invariant_of-result
invariant_of-result c = word_fits c.self.inside.mask c.other.inside.mask c.self.invariant c.other.invariant

pub returns : goal.returns
returns c = word_union c.self.inside.mask c.other.inside.mask c.args.self c.args.other c.self.view_is c.other.view_is
    c.self.invariant c.other.invariant
