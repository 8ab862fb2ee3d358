-- Before each byte so many bytes of the text were read, and the rest is read on behind a backslash or not.
use Rattle.std.proofs.Common.{◌≡◌, ◌∷◌, ◌+◌, ◌∙◌, sym, ap, true, false, drop, get_or, add-one, arith, drop-cons}
use Rattle.djq_value.proofs.Texts.{has_read-backslash, has_read-byte, has_read_as}
use Rattle.djq_value.proofs.quoted.text_end_from.Goals as goal
use Rattle.djq_value.proofs.quoted.text_end_from.Goals.{in-Backslash, in-Byte}

pub loop-at-preserved : goal.loop-at-preserved
loop-at-preserved c =
    let bytes = c.args.bytes.now in
    let at = c.loop-at.at in
    let rest = drop (at + 1) bytes in
    let next : drop at bytes ≡ get_or bytes at 0 ∷ rest = drop-cons bytes at 0 c.loop-at-test.true
    ∙ ap (λ n. get_or bytes at 0 ∷ drop n bytes) (sym (add-one at)) in
    elim c.match-step_of.branch [
      | in-Backslash w ↦ record {
        read = has_read_as bytes rest c.loop-at.len _ true _ w.len-is w.escape-is
            (has_read-backslash bytes (drop at bytes) rest c.loop-at.len c.loop-at.escape (get_or bytes at 0)
            c.loop-at.invariant.read next (w.in-Backslash.ensures rest));
        short = omega (arith, w.len-is, c.loop-at.invariant.short);
      }
      | in-Byte w ↦ record {
        read = has_read_as bytes rest (c.loop-at.len + 1) _ false _ w.len-is w.escape-is
            (has_read-byte bytes (drop at bytes) rest c.loop-at.len c.loop-at.escape (get_or bytes at 0)
            w.in-Byte.field-0 c.loop-at.invariant.read next (w.in-Byte.ensures rest));
        short = omega (arith, w.len-is, c.loop-at.invariant.short);
      }
    ]
