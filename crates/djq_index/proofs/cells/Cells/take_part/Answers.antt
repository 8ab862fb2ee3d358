-- There are as many cells as columns gone through, which are at most 16; each column is below the width.
use Rattle.std.proofs.Common.{ℕ, List, ◌∷◌, ◌++◌, [], length, take, ap, sym, arith, ◌∙◌}
use Rattle.std.specs.Prelude.{slice_index_or}
use Rattle.std.proofs.lemmas.List.{length-take-le}
use Rattle.djq_index.proofs.Tuples.{pick_nil, pick_more, length_pick, column_below}
use Rattle.djq_index.proofs.cells.Cells.take_part.Goals as goal

pub loop-column-init : goal.loop-column-init
loop-column-init c = c.clear.ensures ∙ sym (pick_nil c.args.tuple.now)

pub offset_bounds-tuple-column : goal.offset_bounds-tuple-column
offset_bounds-tuple-column c =
    let below = column_below (length c.args.tuple.now) c.args.columns.now c.loop-column.column-index c.requires.within
    c.loop-column-test.true in
    let small = c.requires.small in
    omega arith

pub bounds-tuple-column : goal.bounds-tuple-column
bounds-tuple-column c = column_below (length c.args.tuple.now) c.args.columns.now c.loop-column.column-index
    c.requires.within c.loop-column-test.true

pub push-requires : goal.push-requires
push-requires c =
    let long = ap (λ (l : List ℕ). length l) c.loop-column.invariant in
    let picked = length_pick (take c.loop-column.column-index c.args.columns.now) c.args.tuple.now in
    let test = c.loop-column-test.true in
    let few = c.requires.few in
    let taken = length-take-le c.loop-column.column-index c.args.columns.now (omega arith) in
    omega arith

pub loop-column-preserved : goal.loop-column-preserved
loop-column-preserved c =
    c.push.ensures
    ∙ ap (λ (l : List ℕ). l ++ slice_index_or c.args.tuple.now
    (slice_index_or c.args.columns.now c.loop-column.column-index 0) 0 ∷ []) c.loop-column.invariant
    ∙ sym (pick_more c.args.columns.now c.loop-column.column-index c.args.tuple.now c.loop-column-test.true)
