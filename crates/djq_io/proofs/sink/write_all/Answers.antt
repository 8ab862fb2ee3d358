-- What this write took stands behind what was taken of the piece before.
use Rattle.std.proofs.Common.{◌-◌, length, take, drop, arith, length-drop}
use Rattle.std.proofs.lemmas.List.{take_all}
use Rattle.std.proofs.Math.Seq.{take-add}
use Rattle.djq_io.proofs.Streams.{writes_more}
use Rattle.djq_io.proofs.sink.write_all.Goals as goal

-- What this write took comes after what was taken of the piece before.
pub loop-at-preserved : goal.loop-at-preserved
loop-at-preserved g c =
    let piece = c.args.piece.now in
    let at = c.loop-at.at in
    let rest = take_all (length piece - at) (drop at piece) (omega (arith, length-drop at piece)) in
    let takes = rw rest at c.in-Took.ensures.takes in
    record {
      within = omega (arith, length-drop at piece, takes.1);
      gained = rw take-add (writes_more _ _ _ (take at piece) (drop at piece) c.in-Took.n c.loop-at.invariant.gained
          (rw rest at c.in-Took.ensures.told));
      faults = cc (c.in-Took.ensures.faults);
    }
