-- What is left of a label is what may be removed of it, and no label before the index has any of that.
use Rattle.std.proofs.Common.{arith, false, ◌≡◌, ◌∙◌, ap, sym, List, ℕ}
use Rattle.djq_hypergraph.specs.Hypergraph.{difference}
use Rattle.djq_tree.specs.Choosing.{removable}
use Rattle.djq_plan.proofs.Choices.{removable_by, has_by, trim_is, trim_none}
use Rattle.djq_hypergraph.proofs.JoinTrees.{read_at}
use Rattle.djq_plan.proofs.choosing.choose_step.Goals as goal

pub returns-then-not-is_empty : goal.returns-then-not-is_empty
returns-then-not-is_empty c =
    let e : c.difference-removed.result ≡ removable c.args.keep c.args.labels.now c.loop-place.place =
    removable_by c.args.keep c.args.labels.now c.loop-place.place c.own_variables-own.result c.difference-removed.result
    c.index-labels-place.result c.own_variables-own.ensures
    (read_at c.args.labels.now c.loop-place.place c.index-labels-place.result (omega arith) c.index-labels-place.is)
    (c.difference-removed.ensures ∙ ap (λ (k : List ℕ). difference k c.args.keep) c.intersection.ensures) in
    trim_is c.args.keep c.args.labels.now c.loop-place.place c.difference-removed.result (omega arith)
    (has_by c.args.keep c.args.labels.now c.loop-place.place c.difference-removed.result false e
    (sym c.if-not-is_empty.ensures)) e c.loop-place.invariant

pub returns : goal.returns
returns c = trim_none c.args.keep c.args.labels.now _ (λ i h. c.loop-place.invariant i (omega arith))
    c.choose_twins.ensures
