-- So far the value is what the digits read denote, capped at 64 bits, and a step keeps the cap.
use Rattle.std.proofs.Common.{◌∙◌, sym, ap, arith, option_map, Some}
use Rattle.djq_value.specs.Number.{capped}
use Rattle.djq_value.proofs.Literals.{digits-more, digits_value-more, capped-step, natural_of-digits}
use Rattle.djq_value.proofs.number.read_long.Goals as goal

pub loop-digit-preserved : goal.loop-digit-preserved
loop-digit-preserved c =
    let ds = c.args.digits.now in
    let i = c.loop-digit.digit-index in record {
      digits = digits-more ds i c.loop-digit-test.true c.loop-digit.invariant.digits c.if-digit-lt48.false
          c.if-digit-gt57.false;
      value =
          capped-step _ _ _ _ _ c.loop-digit.invariant.value c.saturating_mul.ensures c.saturating_add-value.ensures
          ∙ ap capped (sym (digits_value-more ds i c.loop-digit-test.true));
    }

pub returns : goal.returns
returns c =
    let ds = c.args.digits.now in
    let i = c.loop-digit.digit-index in
    ap Some c.loop-digit.invariant.value
    ∙ sym (ap (option_map capped) (natural_of-digits ds i c.requires (omega arith) c.loop-digit.invariant.digits))
