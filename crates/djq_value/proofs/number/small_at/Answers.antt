-- Behind a `-` few digits stand, so the number with its sign is one of 64 bits and is read as such.
use Rattle.std.proofs.Common.{rules, ◌≡◌, ◌∙◌, ℤ, Some, arith, ap, subst, sym, to_z, of_z, w64}
use Rattle.std.proofs.lemmas.Bool.{eqb-false}
use Rattle.std.proofs.lemmas.List.{take_rest}
use Rattle.djq_model.specs.Data.{Bytes}
use Rattle.djq_value.specs.Literal.{is_small}
use Rattle.djq_value.specs.Small.{AreDigitsAt}
use Rattle.djq_value.proofs.Literals.{negative_at}
use Rattle.djq_value.proofs.number.small_at.Goals as goal

pub returns-in-Some : goal.returns-in-Some
returns-in-Some c =
    let bs = c.args.bytes.now in
    let some = eqb-false _ 0 (sym c.is_empty.ensures ∙ c.if-not-is_empty.true) in
    let digits = subst (λ (xs : Bytes). AreDigitsAt xs (Some (c.in-Some.size, c.in-Some.len))) (take_rest bs 1)
    c.in-Some.ensures in
    let small = negative_at bs c.in-Some.size c.in-Some.len (omega (arith, some)) c.if-bytes-eq45.true digits in
    let value : to_z w64 (of_z w64 c.negated.result) ≡ c.negated.result = search rules in
    let same = value ∙ c.negated.ensures in
    (small.0, small.1 ∙ ap (λ (i : ℤ). Some i) (sym same), ap is_small same ∙ small.2, small.3)
