-- The length's two bytes and the line are put one behind the other, and fill the buffer.
use Rattle.std.proofs.Common.{◌≡◌, ◌+◌, ◌-◌, ◌/◌, ◌%◌, ◌<◌, ◌≤◌, ℕ, List, [], ◌∷◌, ◌++◌, length, take, drop, slice_set}
use Rattle.std.proofs.Common.{refl, sym, ap, ap₂, ◌∙◌, arith, length-append, length-take, length-drop}
use borrow.Rule.Slice.PartMut.{put_mid}
use Rattle.std.proofs.lemmas.Slice.{take-put_mid}
use Rattle.std.proofs.lemmas.Grind.{take-set_at}
use Rattle.std.proofs.lemmas.List.{length-set, take_all}
use Rattle.djq_log_format.proofs.encoding.encode_line.Goals as goal

pub returns : goal.returns
returns c =
    let buf = c.args.buf.now in
    let line = c.args.line.now in
    let one = slice_set buf 0 (length line / 256) in
    let two = slice_set one 1 (length line % 256) in
    let got = c.copy_from_slice.new.self in
    let end = 2 + length line in
    let behind = length two - 2 in
    let laid = put_mid 2 behind two got in
    let size : end ≡ 2 + length got = omega (arith, ap length c.copy_from_slice.ensures.after) in
    let one_long : length one ≡ length buf = length-set buf 0 (length line / 256) in
    let two_long : length two ≡ length buf = length-set one 1 (length line % 256) ∙ one_long in
    let in_one : 1 < length one = omega (arith, one_long, c.requires.room) in
    let in_two : 2 ≤ length two = omega (arith, two_long, c.requires.room) in
    let rest = drop behind (drop 2 two) in
    let long : length laid
    ≡ end = omega (
      arith,
      c.requires.room,
      two_long,
      size,
      length-append (take 2 two) (got ++ rest),
      length-append got rest,
      length-take 2 two,
      length-drop behind (drop 2 two),
      length-drop 2 two,
    ) in
    sym (take_all end laid (omega (arith, long)))
    ∙ take-put_mid 2 behind two got end size in_two
    ∙ ap₂ (λ (xs ys : List ℕ). xs ++ ys)
    (take-set_at one 1 2 (length line % 256) refl in_one
    ∙ ap (λ (xs : List ℕ). xs ++ length line % 256 ∷ [])
    (take-set_at buf 0 1 (length line / 256) refl (omega (arith, c.requires.room))))
    c.copy_from_slice.ensures.after
