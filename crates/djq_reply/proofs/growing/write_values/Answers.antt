-- The value at a place is the answer's there, so with it the text has the values up to the next place.
use Rattle.std.proofs.Common.{◌∷◌}
use Rattle.std.proofs.lemmas.Option.{get_or_from_slice_get, slice_get_within}
use Rattle.djq_model.specs.ValueRef.{value_lent}
use Rattle.djq_value.specs.ValueText.{value_text}
use Rattle.djq_reply.proofs.Printing.{written_item}
use Rattle.djq_reply.proofs.growing.write_values.Goals as goal

pub loop-place-preserved : goal.loop-place-preserved
loop-place-preserved g c =
    let values = g.A.Answered.values c.args.answer.now in
    let here = c.value.ensures in
    let cell = value_lent c.value.result in
    written_item (λ v. 32 ∷ value_text v) c.args.bytes.now c.loop-place.bytes c.write_cell.new.bytes c.args.at
    c.loop-place.end
    c.in-Some.behind values c.loop-place.place cell (slice_get_within values c.loop-place.place cell here)
    (get_or_from_slice_get values c.loop-place.place cell cell here) c.loop-place.invariant c.in-Some.ensures
