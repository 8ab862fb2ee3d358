-- The places so far are those of the variables before the index, and past the end these are all there may be.
use Rattle.std.proofs.Common.{◌≡◌, ℕ, List, ◌++◌, ◌∷◌, [], sym, ap, arith, ◌∙◌}
use Rattle.djq_hypergraph.specs.declared.var_set.TheConstants.{VARIABLES}
use Rattle.djq_reduct.specs.Columns.{column}
use Rattle.djq_reduct.specs.Heads.{head_places}
use Rattle.djq_reduct.proofs.Paths.{places_none, places_on}
use Rattle.djq_reduct.proofs.heads.head_places.Goals as goal

pub loop-variable-init : goal.loop-variable-init
loop-variable-init c = c.new-places.ensures.items ∙ sym (places_none c.args.head)

pub loop-variable-preserved : goal.loop-variable-preserved
loop-variable-preserved c =
    c.in_ok-push.ensures.items
    ∙ ap (λ (k : ℕ). c.loop-variable.places.items ++ k ∷ []) c.column_of.ensures
    ∙ ap (λ (all : List ℕ). all ++ column c.args.head c.loop-variable.variable ∷ []) c.loop-variable.invariant
    ∙ places_on c.args.head c.loop-variable.variable

pub returns : goal.returns
returns c =
    let test = c.loop-variable-test.false in
    let low = c.loop-variable.auto.variable-end in
    let all : c.loop-variable.variable ≡ VARIABLES = omega arith in
    c.loop-variable.invariant ∙ ap (λ (n : ℕ). head_places c.args.head n) all
