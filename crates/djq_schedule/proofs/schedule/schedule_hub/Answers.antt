-- The lines so far are those that the hub was made of, so one that isn't added is the first outside.
use Rattle.std.proofs.Common.{◌<◌, length, rules}
use Rattle.djq_schedule.proofs.Schedules.{line_added, line_outside, smaller, not_empty}
use Rattle.djq_schedule.proofs.schedule.schedule_hub.Goals as goal

pub lines-smaller : goal.lines-smaller
lines-smaller c =
    let some : 0 < length c.lines.rest.now = search rules in
    smaller c.lines.rest.now _ some c.next_line.ensures.rest

pub lines-preserved : goal.lines-preserved
lines-preserved c =
    let some : 0 < length c.lines.rest.now = search rules in
    record {
      making = line_added c.args.bytes.now c.lines.hub _ c.lines.seen _ c.lines.number c.lines.rest.now _ _
          c.in-Ok-true.field-0 (search rules) some c.lines.invariant.making c.next_line.ensures.line
          c.next_line.ensures.rest c.in-Ok-true.ensures;
    }

pub returns-in-Ok-false : goal.returns-in-Ok-false
returns-in-Ok-false c =
    let some : 0 < length c.lines.rest.now = not_empty c.is_empty.result c.lines.rest.now c.is_empty.ensures
    c.lines-test.true in
    line_outside c.args.bytes.now c.lines.hub _ c.lines.seen _ c.lines.number c.lines.rest.now _ c.in-Ok-false.field-0
    c.in-Ok-false.field-0-test some c.lines.invariant.making c.next_line.ensures.line c.in-Ok-false.ensures
