-- A send puts its bytes behind what its session's line has so far, and any other call changes no text.
use Rattle.std.proofs.Common.{ℕ, List, sym, ap, ◌∙◌}
use Rattle.djq_io.specs.declared.hub.Told.TheVariants.{Sending}
use Rattle.djq_schedule.proofs.Schedules.{sending_at, other_at}
use Rattle.djq_schedule.proofs.sent.sent_text.Goals as goal
use Rattle.djq_schedule.proofs.sent.sent_text.Goals.{in-Sending+in_ok-add_piece, in_default}

pub loop-told-preserved : goal.loop-told-preserved
loop-told-preserved c = elim c.match-told.branch [
  | in-Sending+in_ok-add_piece w ↦ rw w.text-is (rw w.begun-is (record {
    sent =
        sending_at c.args.past.now c.loop-told.told-index c.told-item.result w.in-Sending.id w.in-Sending.field-1
        w.in-Sending.field-2 w.as_slice.result.now _ _ _ _ c.loop-told-test.true c.told-item.is
        (w.in-Sending.is
        ∙ ap (λ (bytes : List ℕ). Sending w.in-Sending.id w.in-Sending.field-1 w.in-Sending.field-2 bytes)
        (sym w.as_slice.ensures))
        c.loop-told.invariant.sent w.in_ok-add_piece.ensures.text w.in_ok-add_piece.ensures.begun;
  }))
  | in_default w ↦ rw w.text-is (rw w.begun-is (record {
    sent = other_at c.args.past.now c.loop-told.told-index c.told-item.result _ _ c.loop-told-test.true c.told-item.is
        w.in_default.not-Sending c.loop-told.invariant.sent;
  }))
]
