-- Few digits denote less than 2^63, so the number is the same where it is taken with a sign.
use Rattle.std.proofs.Common.{◌<◌, ℤ, Some, arith, subst, sym, w64}
use Rattle.std.proofs.lemmas.Int.{to_z_pos}
use Rattle.djq_value.specs.Small.{IsSmallInFront}
use Rattle.djq_value.proofs.number.small_front.Goals as goal

pub returns-in-Some : goal.returns-in-Some
returns-in-Some c =
    let size = c.in-Some.size in
    let low : size < 9223372036854775808 = omega (arith, c.in-Some.ensures.0) in
    subst (λ (i : ℤ). IsSmallInFront c.args.bytes.now (Some (i, c.in-Some.len))) (sym (to_z_pos w64 size low))
    c.in-Some.ensures.1
