-- A word below its limit is zero exactly where it stands for no variable.
use Rattle.djq_hypergraph.proofs.Sets.{word_empty}
use Rattle.djq_hypergraph.proofs.var_set.VarSet.is_empty.Goals as goal

pub returns : goal.returns
returns c = word_empty c.self.inside.mask c.args.self c.self.view_is c.self.invariant
