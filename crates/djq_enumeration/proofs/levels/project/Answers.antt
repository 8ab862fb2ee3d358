-- A node of `out` has its label within the head, so its columns lie in the answer, and they are few.
use Rattle.std.proofs.Common.{◌∙◌, List, ℕ, length, ap, ap₂, arith}
use Rattle.djq_index.specs.Tuple.{pick}
use Rattle.djq_tree.specs.Labels.{label_at}
use Rattle.djq_reduct.specs.Answers.{on_node}
use Rattle.djq_enumeration.proofs.Cells.{label_columns, length_columns}
use Rattle.djq_enumeration.proofs.levels.project.Goals as goal

pub take_part-requires-clause-few : goal.take_part-requires-clause-few
take_part-requires-clause-few c =
    let t = c.args.reducts.now.tree in
    let narrow = c.laws.ensures.sound.family.narrow.labels c.args.node in
    let long = length_columns t.head (label_at t.labels c.args.node) c.columns.result.now
    c.columns.ensures in
    omega arith

pub take_part-requires-clause-small : goal.take_part-requires-clause-small
take_part-requires-clause-small c =
    let narrow = c.laws.ensures.sound.family.narrow.head in
    let wide = c.requires.wide in
    let slice = ap (λ (l : List ℕ). length l) c.as_slice.ensures in
    omega arith

pub take_part-requires-clause-within : goal.take_part-requires-clause-within
take_part-requires-clause-within c =
    let t = c.args.reducts.now.tree in
    label_columns t.head (label_at t.labels c.args.node) c.columns.result.now c.as_slice.result.now
    c.columns.ensures
    (c.laws.ensures.sound.family.is_tree.head.within c.args.node c.requires.out)
    (ap (λ (l : List ℕ). length l) c.as_slice.ensures ∙ c.requires.wide)

pub returns : goal.returns
unfolding on_node
returns c = c.take_part.ensures
    ∙ ap₂ (λ (cs s : List ℕ). pick cs s) c.columns.ensures c.as_slice.ensures
