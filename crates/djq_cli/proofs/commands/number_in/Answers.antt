-- A text spells a number exactly where it is that number's digits, without a sign or a zero in front.
use Rattle.std.proofs.Common.{◌≢◌, ◌∙◌, sym}
use Rattle.std.specs.Prelude.{decimal}
use Rattle.std.proofs.lemmas.Bool.Decides.{Decides-eqb}
use Rattle.std.proofs.lemmas.Slice.Eq.{slice_eq-Decides}
use Rattle.djq_cli.proofs.Arguments.{not_parsed, not_spelled}
use Rattle.djq_cli.proofs.commands.number_in.Goals as goal

-- The text is no number of 64 bits.
pub returns-in_default : goal.returns-in_default
returns-in_default c = not_parsed c.args.text.now c.in_default.field-0 c.in_default.ensures.value.0

-- It is one, but isn't its digits.
pub returns-else-eq : goal.returns-else-eq
returns-else-eq c =
    let equal = slice_eq-Decides Decides-eqb c.format.result.now c.args.text.now c.eq.result c.eq.ensures in
    let other : c.args.text.now ≢ decimal c.in-Ok.number = λ e. let yes = equal.1 (c.format.ensures.text ∙ sym e) in
    let no = c.if-eq.false in cc in
    not_spelled c.args.text.now c.in-Ok.number c.in-Ok.ensures.value.0 other
