-- Before the index a query was counted once each turn at most, so the one at the index has room for one more.
use Rattle.std.proofs.Common.{◌+◌}
use Rattle.djq_store.proofs.Watchers.{can_watch, can_find, one_more}
use Rattle.djq_store.proofs.watching.watch_members.Goals as goal

pub watch-requires-clause-registered : goal.watch-requires-clause-registered
watch-requires-clause-registered c =
    can_find c.args.engine.now c.loop-nth.engine c.args.members.now c.loop-nth.nth c.loop-nth-test.true
    c.loop-nth.invariant (c.requires c.loop-nth.nth 0 c.loop-nth-test.true)

pub watch-requires-clause-few : goal.watch-requires-clause-few
watch-requires-clause-few c =
    can_watch c.args.engine.now c.loop-nth.engine c.args.members.now c.loop-nth.nth c.loop-nth-test.true
    c.loop-nth.invariant (c.requires c.loop-nth.nth 0 c.loop-nth-test.true)

pub loop-nth-preserved : goal.loop-nth-preserved
loop-nth-preserved c =
    one_more c.args.engine.now c.loop-nth.engine c.args.members.now c.loop-nth.nth c.loop-nth-test.true (λ n. n + 1)
    c.watch.new.self c.loop-nth.invariant c.watch.ensures
