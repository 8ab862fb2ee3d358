-- Past the last place all places of the head have been seen, so no cell is missing.
use Rattle.std.proofs.Common.{◌≤◌, length, arith}
use Rattle.djq_live_query.proofs.HeadTuples.{all_cells}
use Rattle.djq_live_query.proofs.headed.head_cells.Goals as goal

pub returns : goal.returns
returns c =
    let last = c.loop-at-test.false in
    let all : length c.head-head.result.now ≤ c.loop-at.at = omega arith in
    all_cells c.args.numbered.now c.head_variables-set.result c.head-head.result.now
    c.variables-variables.result.now c.loop-at.at c.loop-at.cells.items c.within.ensures
    c.rises.ensures c.head_variables-set.ensures c.variables-variables.ensures
    c.head-head.ensures all c.loop-at.invariant
