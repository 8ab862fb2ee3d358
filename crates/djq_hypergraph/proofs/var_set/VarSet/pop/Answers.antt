-- The lowest bit that is set is the first variable, and the word without it has the later ones.
use Rattle.std.proofs.Common.{arith, refl}
use Rattle.djq_hypergraph.proofs.Sets.{word_split, word_none}
use Rattle.djq_hypergraph.proofs.var_set.VarSet.pop.Goals as goal

pub returns-clause-taken : goal.returns-clause-taken
returns-clause-taken c = word_split c.self.inside.mask _ c.args.self.now c.self.view_is c.self.invariant (omega arith)
    refl

pub returns-then-self-eq0-clause-none : goal.returns-then-self-eq0-clause-none
returns-then-self-eq0-clause-none c = word_none c.self.inside.mask c.args.self.now c.self.view_is c.if-self-eq0.true
