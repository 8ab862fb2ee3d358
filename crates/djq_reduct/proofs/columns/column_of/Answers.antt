-- The variables left begin at the column, so the variable is the first of them or stands further behind.
use Rattle.std.proofs.Common.{arith}
use Rattle.djq_reduct.proofs.Assignments.{column_found, column_missed, column_left, same_option, other_option}
use Rattle.djq_reduct.proofs.columns.column_of.Goals as goal

pub returns-then-eq : goal.returns-then-eq
returns-then-eq c =
    let here = column_found c.pop.result c.loop-column.rest c.pop.new.self c.args.variable c.pop.ensures.taken
    (same_option c.pop.result c.args.variable c.eq.result c.eq.ensures c.if-eq.true) in
    omega (arith, c.loop-column.invariant.place)

pub loop-column-preserved : goal.loop-column-preserved
loop-column-preserved c =
    let left = c.loop-column.invariant.left in
    let len = c.len-column-end.ensures in
    let test = c.loop-column-test.true in
    let missed = column_missed c.pop.result c.loop-column.rest c.pop.new.self c.args.variable c.pop.ensures.taken
    c.pop.ensures.none (omega arith)
    (other_option c.pop.result c.args.variable c.eq.result c.eq.ensures c.if-eq.false) in
    record { place = omega (arith, c.loop-column.invariant.place, missed.0); left = omega (arith, missed.1) }

pub returns : goal.returns
returns c =
    let left = c.loop-column.invariant.left in
    let len = c.len.ensures in
    let end = c.loop-column.auto.column-end in
    let test = c.loop-column-test.false in
    let start = c.len-column-end.ensures in
    let none = column_left c.loop-column.rest c.args.variable (omega arith) in
    omega (arith, c.loop-column.invariant.place)
