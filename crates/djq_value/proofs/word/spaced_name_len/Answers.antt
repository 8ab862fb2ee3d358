-- The first byte is a letter, so with the bytes that may follow, up to a space, it makes a name.
use Rattle.std.proofs.Common.{◌∙◌, Some, arith, subst, sym}
use Rattle.std.proofs.lemmas.Bool.{eqb-false}
use Rattle.std.proofs.lemmas.List.{take_rest}
use Rattle.djq_model.specs.Data.{Bytes}
use Rattle.djq_value.specs.Small.{IsTailAt}
use Rattle.djq_value.proofs.Literals.{letter_first}
use Rattle.djq_value.proofs.word.spaced_name_len.Goals as goal

pub returns-in-Some : goal.returns-in-Some
returns-in-Some c =
    let bs = c.args.bytes.now in
    let n = c.in-Some.len in
    let some = eqb-false _ 0 (sym c.is_empty.ensures ∙ c.if-is_empty.false) in
    letter_first bs n (omega (arith, some)) (sym c.is_letter.ensures ∙ c.if-not-is_letter.false)
    (subst (λ (xs : Bytes). IsTailAt xs (Some n)) (take_rest bs 1) c.in-Some.ensures)
