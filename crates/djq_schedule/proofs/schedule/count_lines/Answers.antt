-- Where a byte is left a line begins there, and what is left behind that line is shorter.
use Rattle.std.proofs.Common.{◌<◌, length, arith, rules}
use Rattle.djq_schedule.proofs.Schedules.{smaller, one_line_more}
use Rattle.djq_schedule.proofs.schedule.count_lines.Goals as goal

pub lines-smaller : goal.lines-smaller
lines-smaller c =
    let some : 0 < length c.lines.rest.now = search rules in
    smaller c.lines.rest.now _ some c.next_line.ensures.rest

pub lines-preserved : goal.lines-preserved
lines-preserved c =
    let some : 0 < length c.lines.rest.now = search rules in
    let more = one_line_more c.lines.rest.now _ some c.next_line.ensures.rest in
    let less = smaller c.lines.rest.now _ some c.next_line.ensures.rest in
    record {
      counted = omega (arith, c.lines.invariant.counted, more);
      few = omega (arith, c.lines.invariant.few, less);
    }
