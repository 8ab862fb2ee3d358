-- How many digits there are is said by the bounds passed: below 10 one, below 100 two, and so on.
use Rattle.std.proofs.Common.{◌/◌, sym, arith}
use Rattle.itoa.proofs.Decimal.{length_one, length_two, length_pair}
use Rattle.djq_value.proofs.write.write_short.Goals as goal

pub write_counted-requires-clause-count : goal.write_counted-requires-clause-count
write_counted-requires-clause-count c = sym (length_one c.args.number c.if-number-lt10.true)

pub write_counted-requires-else-number-lt10-clause-count : goal.write_counted-requires-else-number-lt10-clause-count
write_counted-requires-else-number-lt10-clause-count c =
    sym (length_two c.args.number c.if-number-lt10.false c.if-number-lt100.true)

pub write_counted-requires-then-number-lt1000-clause-count :
    goal.write_counted-requires-then-number-lt1000-clause-count
write_counted-requires-then-number-lt1000-clause-count c =
    let n = c.args.number in
    omega (
      arith,
      length_pair n c.if-number-lt100.false (omega (arith, c.if-number-lt1000.true)),
      length_one (n / 100) (omega (arith, c.if-number-lt1000.true)),
    )

pub write_counted-requires-else-number-lt1000-clause-count :
    goal.write_counted-requires-else-number-lt1000-clause-count
write_counted-requires-else-number-lt1000-clause-count c =
    let n = c.args.number in
    omega (
      arith,
      length_pair n c.if-number-lt100.false (omega (arith, c.requires.short)),
      length_two (n / 100) (omega (arith, c.if-number-lt1000.false)) (omega (arith, c.requires.short)),
    )
