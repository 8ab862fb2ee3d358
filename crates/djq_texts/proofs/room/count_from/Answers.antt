-- Each number counts what it has, and behind the last one none is counted.
use Rattle.std.proofs.Common.{◌<◌, length, arith}
use Rattle.djq_texts.specs.Known.{in_use_from}
use Rattle.djq_texts.proofs.Known.{read_known}
use Rattle.djq_texts.proofs.Counting.{counted_on, counted_end, counted_few}
use Rattle.djq_texts.proofs.room.count_from.Goals as goal

pub overflow_add-count : goal.overflow_add-count
overflow_add-count c =
    let known = c.args.entries.now.items in
    let number = c.loop-number.number in
    let within : number < length known = omega (arith, c.loop-number-test.true, c.len-number-end.ensures, c.args.entries.now.ok.0) in
    let on = counted_on number known c.index.result.now c.loop-number.count c.count-count.result (in_use_from c.args.from known) within
    (read_known known number c.index.result.now within c.index.ensures) c.count-count.ensures c.loop-number.invariant in
    omega (arith, on, counted_few c.args.from known, c.args.entries.now.ok.0, c.args.entries.now.small)

pub loop-number-preserved : goal.loop-number-preserved
loop-number-preserved c =
    let known = c.args.entries.now.items in
    let number = c.loop-number.number in
    let within : number < length known = omega (arith, c.loop-number-test.true, c.len-number-end.ensures, c.args.entries.now.ok.0) in
    counted_on number known c.index.result.now c.loop-number.count c.count-count.result (in_use_from c.args.from known) within
    (read_known known number c.index.result.now within c.index.ensures) c.count-count.ensures c.loop-number.invariant

pub returns : goal.returns
returns c = omega (
  arith,
  c.loop-number.invariant,
  counted_end c.loop-number.number c.args.entries.now.items
      (omega (arith, c.loop-number-test.false, c.len-number-end.ensures, c.args.entries.now.ok.0)),
)
