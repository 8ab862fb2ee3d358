-- The piece stands in the buffer behind what did.
use Rattle.std.proofs.Common.{◌≡◌, ◌+◌, ◌-◌, length, ap, arith}
use borrow.Rule.Slice.PartMut.{put_mid}
use Rattle.std.proofs.lemmas.Slice.{take-put_mid}
use Rattle.djq_log_file.proofs.Laid.{gathered_more}
use Rattle.djq_log_file.proofs.gathering.PieceWriter.gather.Goals as goal

pub returns : goal.returns
returns c =
    let inside = c.self.inside in
    let piece = c.args.piece.now in
    let got = c.copy_from_slice.new.self in
    let filled = inside.filled in
    let buf = inside.buf in
    let end = filled + length piece in
    let after = put_mid filled (end - filled) buf got in
    let size : length got ≡ length piece = ap length c.copy_from_slice.ensures.after in
    gathered_more inside.at filled end buf got piece after c.args.self.now c.self.view_is
    (take-put_mid filled (end - filled) buf got end (omega (arith, size)) (omega (arith, c.self.invariant.0, c.self.invariant.1)))
    c.copy_from_slice.ensures.after
