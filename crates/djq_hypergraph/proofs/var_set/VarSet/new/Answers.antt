-- The word zero stands for no variable.
use Rattle.std.proofs.Common.{refl}
use Rattle.djq_hypergraph.proofs.Sets.{none_of}
use Rattle.djq_hypergraph.proofs.var_set.VarSet.new.Goals as goal

pub returns : goal.returns
returns c = none_of 0 refl
