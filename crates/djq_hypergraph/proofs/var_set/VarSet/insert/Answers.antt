-- A bit that is set below the limit adds its variable to the set, and no other.
use Rattle.djq_hypergraph.proofs.Sets.{word_insert_fits, word_insert}
use Rattle.djq_hypergraph.proofs.var_set.VarSet.insert.Goals as goal

pub invariant_of-result : goal.invariant_of-result
invariant_of-result c = word_insert_fits c.self.inside.mask c.args.variable c.self.invariant

pub returns : goal.returns
returns c = word_insert c.self.inside.mask c.args.variable c.args.self c.self.view_is c.self.invariant c.requires
