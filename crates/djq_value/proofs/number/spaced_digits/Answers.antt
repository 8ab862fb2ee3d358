-- One space is in front, so the digits behind it are the first word, which ends one byte further.
use Rattle.std.proofs.Common.{◌∙◌, Some, arith, subst, sym}
use Rattle.std.proofs.lemmas.Bool.{eqb-false}
use Rattle.std.proofs.lemmas.List.{take_rest}
use Rattle.djq_model.specs.Data.{Bytes}
use Rattle.djq_value.specs.Small.{AreDigitsAt}
use Rattle.djq_value.proofs.Literals.{near_small}
use Rattle.djq_value.proofs.number.spaced_digits.Goals as goal

pub returns-in-Some : goal.returns-in-Some
returns-in-Some c =
    let bs = c.args.bytes.now in
    let some = eqb-false _ 0 (sym c.is_empty.ensures ∙ c.if-is_empty.false) in
    let digits = subst (λ (xs : Bytes). AreDigitsAt xs (Some (c.in-Some.size, c.in-Some.len))) (take_rest bs 1)
    c.in-Some.ensures in
    (digits.2, near_small bs c.in-Some.size c.in-Some.len (omega (arith, some)) c.if-bytes-ne32.false digits)
