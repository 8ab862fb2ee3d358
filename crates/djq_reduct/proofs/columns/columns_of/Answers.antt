-- Columns of the variables taken and of those left make up the key's; at the end none is left.
use Rattle.std.proofs.Common.{◌∙◌, List, ℕ, [], ◌∷◌, ◌++◌, ap}
use Rattle.djq_reduct.specs.Columns.{columns}
use Rattle.djq_reduct.proofs.Assignments.{columns_step, columns_end}
use Rattle.djq_reduct.proofs.columns.columns_of.Goals as goal

pub loop-variable-preserved : goal.loop-variable-preserved
loop-variable-preserved c =
    ap (λ (l : List ℕ). l ++ columns c.args.label c.pop.new.self)
    (c.in_ok-push.ensures.items ∙ ap (λ (k : ℕ). c.loop-variable.columns.items ++ k ∷ []) c.column_of.ensures)
    ∙ columns_step c.args.label c.loop-variable.columns.items c.pop.result c.loop-variable.rest c.pop.new.self
    c.in-Some.variable c.pop.ensures.taken c.in-Some.is
    ∙ c.loop-variable.invariant

pub returns : goal.returns
returns c = columns_end c.args.label c.loop-variable.columns.items (columns c.args.label c.args.key)
    c.loop-variable.rest c.loop-variable.invariant c.in_default.ensures.none
