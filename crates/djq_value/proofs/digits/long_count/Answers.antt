-- A number within 64 bits has 20 digits at most, and one divided by 10,000 has four fewer.
use Rattle.std.proofs.Common.{arith}
use Rattle.std.proofs.lemmas.Fmt.{length-decimal-le}
use Rattle.itoa.proofs.Decimal.{length_four}
use Rattle.djq_value.proofs.digits.long_count.Goals as goal

pub overflow_add-count : goal.overflow_add-count
overflow_add-count c =
    let most = length-decimal-le 20 c.args.number (omega arith) (omega arith) (omega arith) in
    let less = length_four c.loop-left.left c.loop-left-test.true c.loop-left.auto.left-fits.fits in
    record { fits = omega (arith, most, less, c.loop-left.invariant) }

pub loop-left-preserved : goal.loop-left-preserved
loop-left-preserved c =
    omega (
      arith,
      length_four c.loop-left.left c.loop-left-test.true c.loop-left.auto.left-fits.fits,
      c.loop-left.invariant,
    )

pub overflow_add-result : goal.overflow_add-result
overflow_add-result c =
    let most = length-decimal-le 20 c.args.number (omega arith) (omega arith) (omega arith) in
    record { fits = omega (arith, most, c.short_count.ensures.value, c.loop-left.invariant) }

pub returns-clause-few : goal.returns-clause-few
returns-clause-few c =
    let most = length-decimal-le 20 c.args.number (omega arith) (omega arith) (omega arith) in
    omega (arith, most, c.short_count.ensures.value, c.loop-left.invariant)
