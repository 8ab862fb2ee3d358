-- A number below 10 has one digit, one below 100 two, and a greater one two more than its hundredth part.
use Rattle.std.proofs.Common.{◌/◌, sym, arith}
use Rattle.itoa.proofs.Decimal.{length_one, length_two, length_pair}
use Rattle.djq_value.proofs.digits.short_count.Goals as goal

pub returns-then-number-lt10-clause-value : goal.returns-then-number-lt10-clause-value
returns-then-number-lt10-clause-value c = sym (length_one c.args.number c.if-number-lt10.true)

pub returns-else-number-lt10-clause-value : goal.returns-else-number-lt10-clause-value
returns-else-number-lt10-clause-value c = sym (length_two c.args.number c.if-number-lt10.false c.if-number-lt100.true)

pub returns-then-number-lt1000-clause-value : goal.returns-then-number-lt1000-clause-value
returns-then-number-lt1000-clause-value c =
    let n = c.args.number in
    omega (
      arith,
      length_pair n c.if-number-lt100.false (omega (arith, c.if-number-lt1000.true)),
      length_one (n / 100)
          (omega (arith, c.if-number-lt1000.true)),
    )

pub returns-else-number-lt1000-clause-value : goal.returns-else-number-lt1000-clause-value
returns-else-number-lt1000-clause-value c =
    let n = c.args.number in
    omega (
      arith,
      length_pair n c.if-number-lt100.false (omega (arith, c.requires)),
      length_two (n / 100)
          (omega (arith, c.if-number-lt1000.false)) (omega (arith, c.requires)),
    )
