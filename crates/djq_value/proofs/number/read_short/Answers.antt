-- At most 18 digits denote less than 10^18, so neither the tenfold nor a digit more goes past 64 bits.
use Rattle.std.proofs.Common.{◌∙◌, ◌≡◌, ◌<◌, ◌≤◌, ◌+◌, ◌-◌, ◌*◌, ◌^◌, take, sym, ap, arith, option_map, Some, ℕ, get_or}
use Rattle.std.proofs.Common.{length}
use Rattle.djq_value.specs.Number.{capped}
use Rattle.djq_value.specs.Literal.{digits_value}
use Rattle.djq_value.proofs.Literals.{digits-more, digits_value-more, natural_of-digits, small-step, below_18}
use Rattle.djq_value.proofs.number.read_short.Goals as goal

-- the digits before a place, and one more
next_below : (v i n : ℕ) → v < 10 ^ i → i < n → n ≤ 18 → v * 10 + 9 < 1000000000000000000
next_below v i n h l m = below_18 (v * 10 + 9) (i + 1) (small-step v 9 i h (omega arith)) (omega (arith, l, m))

pub overflow_mul-value : goal.overflow_mul-value
overflow_mul-value c =
    let less = next_below c.loop-digit.value c.loop-digit.digit-index (length c.args.digits.now)
    c.loop-digit.invariant.small c.loop-digit-test.true c.requires.few in
    record { fits = omega (arith, less) }

pub overflow_add-value : goal.overflow_add-value
overflow_add-value c =
    let less = next_below c.loop-digit.value c.loop-digit.digit-index (length c.args.digits.now)
    c.loop-digit.invariant.small c.loop-digit-test.true c.requires.few in
    record { fits = omega (arith, less, c.if-digit-gt57.false) }

pub loop-digit-preserved : goal.loop-digit-preserved
loop-digit-preserved c =
    let ds = c.args.digits.now in
    let i = c.loop-digit.digit-index in record {
      digits = digits-more ds i c.loop-digit-test.true c.loop-digit.invariant.digits c.if-digit-lt48.false
          c.if-digit-gt57.false;
      value = ap (λ (n : ℕ). n * 10 + (get_or ds i 0 - 48)) c.loop-digit.invariant.value
          ∙ sym (digits_value-more ds i c.loop-digit-test.true);
      small = small-step c.loop-digit.value (get_or ds i 0 - 48) i c.loop-digit.invariant.small
          (omega (arith, c.if-digit-gt57.false));
    }

pub returns : goal.returns
returns c =
    let ds = c.args.digits.now in
    let i = c.loop-digit.digit-index in
    let small = below_18 c.loop-digit.value i c.loop-digit.invariant.small (omega (arith, c.requires.few)) in
    let same : c.loop-digit.value
    ≡ capped (digits_value 0 (take i ds)) = omega (arith, small, c.loop-digit.invariant.value) in
    ap Some same ∙ sym (ap (option_map capped)
    (natural_of-digits ds i c.requires.some (omega arith) c.loop-digit.invariant.digits))
