-- With a letter for its first byte a word is a name where the others may follow, and with any other it's none.
use Rattle.std.proofs.Common.{◌∙◌, sym, arith}
use Rattle.std.proofs.lemmas.Bool.{eqb-false}
use Rattle.djq_value.proofs.Literals.{is_name-letter, is_name-other}
use Rattle.djq_value.proofs.word.is_name.Goals as goal

pub returns-then-is_letter : goal.returns-then-is_letter
returns-then-is_letter c =
    let some = eqb-false _ 0 (sym c.is_empty.ensures ∙ c.if-is_empty.false) in
    c.is_tail-tail.ensures
    ∙ sym (is_name-letter c.args.word.now (omega (arith, some)) (sym c.is_letter.ensures ∙ c.if-is_letter.true))

pub returns-else-is_letter : goal.returns-else-is_letter
returns-else-is_letter c =
    let some = eqb-false _ 0 (sym c.is_empty.ensures ∙ c.if-is_empty.false) in
    c.if-is_letter.false ∙ sym
    (is_name-other c.args.word.now (omega (arith, some)) (sym c.is_letter.ensures ∙ c.if-is_letter.false))
