-- The places were found once and stay, one for each variable, so what stands at the variable is its place.
use Rattle.std.proofs.Common.{ℕ, List, ap, arith, ◌∙◌}
use Rattle.djq_hypergraph.specs.declared.var_set.TheConstants.{VARIABLES}
use Rattle.djq_reduct.specs.Reducts.{Reducts}
use Rattle.djq_reduct.specs.Columns.{column}
use Rattle.djq_reduct.proofs.Paths.{place_read}
use Rattle.djq_reduct.proofs.reducts.Reducts.column.Goals as goal

pub returns-then-variable-len : goal.returns-then-variable-len
returns-then-variable-len c =
    let len = c.len.ensures in
    let items = c.self.inside.places.ok.0 in
    let test = c.if-variable-len.true in
    c.index.ensures ∙ place_read c.self.inside.places.items c.self.inside.tree.head c.args.self.now.tree.head VARIABLES
    c.args.variable c.index.result.now c.self.invariant.2
    (ap (λ (r : Reducts). r.tree.head) c.self.view_is) (omega arith)

pub returns : goal.returns
returns c = c.column_of.ensures
    ∙ ap (λ (F : List ℕ). column F c.args.variable)
    (c.head.ensures ∙ ap (λ (r : Reducts). r.tree.head) c.self.view_is)
