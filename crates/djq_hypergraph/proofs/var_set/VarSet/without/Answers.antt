-- A variable at the limit or above it is in no set, and another one goes with its bit.
use Rattle.std.proofs.Common.{sym, ◌∙◌}
use Rattle.std.proofs.lemmas.Bool.{le-ltb}
use Rattle.djq_hypergraph.specs.declared.var_set.TheConstants.{VARIABLES}
use Rattle.djq_hypergraph.proofs.Sets.{word_without, word_above, from_false}
use Rattle.djq_hypergraph.proofs.Labels.{absent_stays}
use Rattle.djq_hypergraph.proofs.var_set.VarSet.without.Goals as goal

pub returns-then-variable-ge-VARIABLES : goal.returns-then-variable-ge-VARIABLES
returns-then-variable-ge-VARIABLES c =
    let above = word_above c.self.inside.mask c.args.variable c.args.self c.self.view_is c.self.invariant
    c.if-variable-ge-VARIABLES.true in
    c.self.view_is ∙ absent_stays c.args.variable c.args.self
    (from_false _ (sym above ∙ le-ltb c.args.variable VARIABLES c.if-variable-ge-VARIABLES.true))

pub returns : goal.returns
returns c = word_without c.self.inside.mask c.args.variable c.args.self c.self.view_is c.self.invariant
    c.if-variable-ge-VARIABLES.false
