-- Before the index the variable doesn't stand, so it stands there first, or past the end nowhere.
use Rattle.std.proofs.Common.{◌≡◌, ◌∙◌, length, sym, arith}
use Rattle.djq_live_query.proofs.HeadTuples.{from_here, from_next, from_end}
use Rattle.djq_live_query.proofs.lookup.place_of.Goals as goal

pub returns-then-head-at : goal.returns-then-head-at
returns-then-head-at c =
    sym (from_here c.args.head.now c.args.variable c.loop-at.at c.loop-at-test.true
    c.if-head-at.true c.loop-at.invariant)

pub loop-at-preserved : goal.loop-at-preserved
loop-at-preserved c =
    from_next c.args.head.now c.args.variable c.loop-at.at c.loop-at-test.true c.if-head-at.false
    c.loop-at.invariant

pub returns : goal.returns
returns c =
    let last : c.loop-at.at ≡ length c.args.head.now =
    omega (arith, c.loop-at-test.false, c.loop-at.auto.at-end) in
    sym last
    ∙ sym (from_end c.args.head.now c.args.variable c.loop-at.at last c.loop-at.invariant)
