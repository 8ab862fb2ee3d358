-- So far the number is that of the digits read and below ten to their count, so one more is within 64 bits.
use Rattle.std.proofs.Common.{◌<◌, ◌+◌, ◌-◌, ◌*◌, ◌^◌, ◌∙◌, ℕ, Some, arith, ap, get_or, length-take, sym, take}
use Rattle.std.proofs.lemmas.Bool.{cond-true}
use Rattle.std.proofs.lemmas.List.{take_rest}
use Rattle.djq_value.specs.Token.{may_end}
use Rattle.djq_value.proofs.Literals.{below_18, digits-more, digits_value-more, natural-some, small-step}
use Rattle.djq_value.proofs.number.digits_at.Goals as goal

-- the digits before a place, and one more
next_below : (v i : ℕ) → v < 10 ^ i → i < 18 → v * 10 + 9 < 1000000000000000000
next_below v i h l = below_18 (v * 10 + 9) (i + 1) (small-step v 9 i h (omega arith)) (omega (arith, l))

pub overflow_mul-size : goal.overflow_mul-size
overflow_mul-size c = record
    { fits = omega (arith, next_below c.digits.size c.digits.len c.digits.invariant.small c.if-len-lt-FEW_DIGITS.true) }

pub overflow_add-size : goal.overflow_add-size
overflow_add-size c =
    record {
      fits = omega (
        arith,
        next_below c.digits.size c.digits.len c.digits.invariant.small c.if-len-lt-FEW_DIGITS.true,
        c.if-bytes-len-le57.true,
      );
    }

pub digits-preserved : goal.digits-preserved
digits-preserved c =
    let bs = c.args.bytes.now in
    let n = c.digits.len in record {
      within = omega (arith, c.digits-test.true);
      few = omega (arith, c.if-len-lt-FEW_DIGITS.true);
      digits = digits-more bs n c.digits-test.true c.digits.invariant.digits c.if-bytes-len-ge48.true
          c.if-bytes-len-le57.true;
      value = ap (λ (m : ℕ). m * 10 + (get_or bs n 0 - 48)) c.digits.invariant.value
          ∙ sym (digits_value-more bs n c.digits-test.true);
      small = small-step c.digits.size (get_or bs n 0 - 48) n c.digits.invariant.small
          (omega (arith, c.if-bytes-len-le57.true));
    }

pub returns-then-may_end : goal.returns-then-may_end
returns-then-may_end c =
    let bs = c.args.bytes.now in
    let n = c.digits.len in (
      c.digits.invariant.within,
      natural-some (take n bs) (omega (arith, length-take n bs, c.digits.invariant.within, c.if-len-gt0.true))
          ∙ cond-true _ _ _ c.digits.invariant.digits ∙ ap Some (sym c.digits.invariant.value),
      below_18 c.digits.size n c.digits.invariant.small c.digits.invariant.few,
      ap may_end (sym (take_rest bs n)) ∙ sym c.may_end.ensures ∙ c.if-may_end.true,
    )
