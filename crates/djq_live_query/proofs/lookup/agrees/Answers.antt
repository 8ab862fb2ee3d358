-- A variable of the head has its place within the head, and past the end all places have been compared.
use Rattle.std.proofs.Common.{ℕ, List, ◌<◌, length, ap, ◌∙◌, refl, rules, arith}
use Rattle.djq_live_query.specs.Order.{cell_of_variable}
use Rattle.djq_live_query.proofs.HeadTuples.{member_at, place_low, agree_all}
use Rattle.djq_live_query.proofs.lookup.agrees.Goals as goal

pub offset_bounds-cells-place_of : goal.offset_bounds-cells-place_of
offset_bounds-cells-place_of c =
    let below : c.place_of.result < length c.as_slice-cells.result.now =
    place_low c.args.head.now _ c.place_of.result (length c.as_slice-cells.result.now)
    (member_at c.args.head.now c.loop-at.at c.loop-at-test.true) c.place_of.ensures
    (ap (λ (l : List ℕ). length l) c.as_slice-cells.ensures ∙ c.requires.long) in
    search rules

pub bounds-cells-place_of : goal.bounds-cells-place_of
bounds-cells-place_of c =
    place_low c.args.head.now _ c.place_of.result (length c.as_slice-cells.result.now)
    (member_at c.args.head.now c.loop-at.at c.loop-at-test.true) c.place_of.ensures
    (ap (λ (l : List ℕ). length l) c.as_slice-cells.ensures ∙ c.requires.long)

pub returns : goal.returns
returns c = (
  λ _. agree_all (cell_of_variable c.args.head.now c.args.cells.now) c.args.head.now c.args.cells.now
      c.loop-at.at c.requires.long
      (omega (arith, c.loop-at-test.false, c.loop-at.auto.at-end)) c.loop-at.invariant,
  λ _. refl,
)
