-- The lowest bit that is set stands for the least variable, with which the rising list begins.
use Rattle.std.proofs.Common.{arith, refl}
use Rattle.djq_hypergraph.proofs.Sets.{word_first, word_none}
use Rattle.djq_hypergraph.proofs.var_set.VarSet.first.Goals as goal

pub returns-then-self-eq0 : goal.returns-then-self-eq0
returns-then-self-eq0 c = rw (word_none c.self.inside.mask c.args.self c.self.view_is c.if-self-eq0.true) refl

pub returns : goal.returns
returns c = word_first c.self.inside.mask _ c.args.self c.self.view_is c.self.invariant (omega arith) refl
