-- A word below its limit has as many bits set as its set has variables.
use Rattle.djq_hypergraph.proofs.Sets.{word_length}
use Rattle.djq_hypergraph.proofs.var_set.VarSet.len.Goals as goal

pub returns : goal.returns
returns c = word_length c.self.inside.mask c.args.self c.self.view_is c.self.invariant
