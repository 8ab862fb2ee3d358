-- Members are in different places, so the one at the index is watched by as many as before the loop.
use Rattle.std.proofs.Common.{◌-◌}
use Rattle.djq_store.proofs.Watchers.{can_leave, one_more}
use Rattle.djq_store.proofs.watching.unwatch_members.Goals as goal

pub unwatch-requires : goal.unwatch-requires
unwatch-requires c =
    can_leave c.args.engine.now c.loop-nth.engine c.args.members.now c.loop-nth.nth c.loop-nth-test.true
    c.requires.apart c.loop-nth.invariant (c.requires.watched c.loop-nth.nth 0 c.loop-nth-test.true)

pub loop-nth-preserved : goal.loop-nth-preserved
loop-nth-preserved c =
    one_more c.args.engine.now c.loop-nth.engine c.args.members.now c.loop-nth.nth c.loop-nth-test.true (λ n. n - 1)
    c.unwatch.new.self c.loop-nth.invariant c.unwatch.ensures
