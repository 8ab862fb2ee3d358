-- The bits of one word that the other lacks are the variables of the one set that the other lacks.
use Rattle.djq_hypergraph.proofs.Sets.{word_difference}
use Rattle.djq_hypergraph.proofs.var_set.VarSet.difference.Goals as goal

pub returns : goal.returns
returns c = word_difference c.self.inside.mask c.other.inside.mask c.args.self c.args.other c.self.view_is
    c.other.view_is c.self.invariant c.other.invariant
