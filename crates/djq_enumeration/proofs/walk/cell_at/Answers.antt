-- A level is in `out`, so its only column lies within the head, and the projection is that cell.
use Rattle.std.proofs.Common.{◌≡◌, ◌∙◌, List, ℕ, ap, ap₂, sym, length, arith}
use Rattle.djq_index.specs.Tuple.{pick}
use Rattle.djq_tree.specs.Labels.{label_at}
use Rattle.djq_reduct.specs.Answers.{on_node}
use Rattle.djq_enumeration.proofs.Cells.{late_out, first_below, label_columns, pick_one}
use Rattle.djq_enumeration.proofs.walk.cell_at.Goals as goal

pub bounds-as_slice-columns : goal.bounds-as_slice-columns
bounds-as_slice-columns c =
    let t = c.args.reducts.now.tree in
    let cs = c.columns.result.now in
    let s = c.as_slice.result.now in
    let one : length cs ≡ 1 = ap (λ (xs : List ℕ). length xs) c.columns.ensures ∙ c.requires.one in
    first_below (length s) cs
    (label_columns t.head (label_at t.labels c.args.level) cs s c.columns.ensures
    (c.laws.ensures.sound.family.is_tree.head.within c.args.level
    (late_out t c.args.level c.laws.ensures.sound.family.is_tree c.requires.level.late
    c.requires.level.within))
    (ap (λ (l : List ℕ). length l) c.as_slice.ensures ∙ c.requires.wide)) (omega arith)

pub offset_bounds-as_slice-columns : goal.offset_bounds-as_slice-columns
offset_bounds-as_slice-columns c =
    let t = c.args.reducts.now.tree in
    let cs = c.columns.result.now in
    let s = c.as_slice.result.now in
    let one : length cs ≡ 1 = ap (λ (xs : List ℕ). length xs) c.columns.ensures ∙ c.requires.one in
    let wide = ap (λ (l : List ℕ). length l) c.as_slice.ensures ∙ c.requires.wide in
    let narrow = c.laws.ensures.sound.family.narrow.head in
    let low = first_below (length s) cs
    (label_columns t.head (label_at t.labels c.args.level) cs s c.columns.ensures
    (c.laws.ensures.sound.family.is_tree.head.within c.args.level
    (late_out t c.args.level c.laws.ensures.sound.family.is_tree c.requires.level.late
    c.requires.level.within)) wide) (omega arith) in
    omega arith

pub returns : goal.returns
unfolding on_node
returns c =
    let cs = c.columns.result.now in
    let s = c.as_slice.result.now in
    let one : length cs ≡ 1 = ap (λ (xs : List ℕ). length xs) c.columns.ensures ∙ c.requires.one in
    ap₂ (λ (ds u : List ℕ). pick ds u) (sym c.columns.ensures) (sym c.as_slice.ensures)
    ∙ pick_one cs s one
