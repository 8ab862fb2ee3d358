-- A set lies in another exactly where its word has no bit that the other word lacks.
use Rattle.djq_hypergraph.proofs.Sets.{word_subset}
use Rattle.djq_hypergraph.proofs.var_set.VarSet.is_subset.Goals as goal

pub returns : goal.returns
returns c = word_subset c.self.inside.mask c.other.inside.mask c.args.self c.args.other c.self.view_is c.other.view_is
    c.self.invariant c.other.invariant
