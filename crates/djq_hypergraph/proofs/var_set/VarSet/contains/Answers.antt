-- A variable is in the set exactly where its bit is set in the word, and none is above the limit.
use Rattle.djq_hypergraph.proofs.Sets.{word_member, word_above}
use Rattle.djq_hypergraph.proofs.var_set.VarSet.contains.Goals as goal

pub returns-then-variable-lt-VARIABLES : goal.returns-then-variable-lt-VARIABLES
returns-then-variable-lt-VARIABLES c = word_member c.self.inside.mask c.args.variable c.args.self c.self.view_is
    c.self.invariant

pub returns-else-variable-lt-VARIABLES : goal.returns-else-variable-lt-VARIABLES
returns-else-variable-lt-VARIABLES c = word_above c.self.inside.mask c.args.variable c.args.self c.self.view_is
    c.self.invariant c.if-variable-lt-VARIABLES.false
