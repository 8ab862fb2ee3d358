-- Before each turn the values so far are printed; a value cut in its midst leaves a front of the whole text.
use Rattle.std.proofs.Common.{◌∷◌}
use Rattle.std.proofs.lemmas.Option.{get_or_from_slice_get, slice_get_within}
use Rattle.djq_model.specs.ValueRef.{value_lent}
use Rattle.djq_protocol.specs.Reply.{cells_text}
use Rattle.djq_value.specs.ValueText.{value_text}
use Rattle.djq_reply.proofs.Printing.{adds_err, cut_at_item, cut_whole, put_item}
use Rattle.djq_reply.proofs.growing.add_cells.Goals as goal

pub returns-in_err-print_cell : goal.returns-in_err-print_cell
returns-in_err-print_cell g c =
    let values = g.A.Answered.values c.args.answer.now in
    let here = c.value.ensures in
    let cell = value_lent c.value.result in
    adds_err c.args.out.now c.print_cell.new.out (cells_text values) c.from_residual.result c.from_residual.ensures.0
    (cut_at_item (λ v. 32 ∷ value_text v) c.args.out.now c.loop-at.out c.print_cell.new.out values c.loop-at.at cell
    (slice_get_within values c.loop-at.at cell here) (get_or_from_slice_get values c.loop-at.at cell cell here)
    c.loop-at.invariant (cut_whole c.loop-at.out c.print_cell.new.out (32 ∷ value_text cell)
    c.in_err-print_cell.ensures))

pub loop-at-preserved : goal.loop-at-preserved
loop-at-preserved g c =
    let values = g.A.Answered.values c.args.answer.now in
    let here = c.value.ensures in
    let cell = value_lent c.value.result in
    put_item (λ v. 32 ∷ value_text v) c.args.out.now c.loop-at.out c.print_cell.new.out values c.loop-at.at cell
    (slice_get_within values c.loop-at.at cell here) (get_or_from_slice_get values c.loop-at.at cell cell here)
    c.loop-at.invariant c.in_ok-print_cell.ensures
