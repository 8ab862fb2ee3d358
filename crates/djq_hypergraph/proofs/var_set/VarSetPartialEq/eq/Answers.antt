-- A set's variables make up its word again, so equal lists of variables come from equal words.
use Rattle.std.proofs.Common.{arith}
use Rattle.djq_hypergraph.specs.Insides.{mask_seen}
use Rattle.djq_hypergraph.proofs.var_set.VarSetPartialEq.eq.Goals as goal

pub returns : goal.returns
returns c = grind (arith, mask_seen)
