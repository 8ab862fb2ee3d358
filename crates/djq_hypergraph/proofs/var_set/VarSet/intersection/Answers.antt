-- The bits that both words have are the variables that both sets have.
use Rattle.djq_hypergraph.proofs.Sets.{word_intersection}
use Rattle.djq_hypergraph.proofs.var_set.VarSet.intersection.Goals as goal

pub returns : goal.returns
returns c = word_intersection c.self.inside.mask c.other.inside.mask c.args.self c.args.other c.self.view_is
    c.other.view_is c.self.invariant c.other.invariant
