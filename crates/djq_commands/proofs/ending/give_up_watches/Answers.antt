-- A session's watches are counted, so each name popped is a query's that has a watcher, by Unwatching.
use Rattle.djq_commands.proofs.Watchers.{watches_start, popped_watched, watches_go_on, never_unknown, watches_given_up}
use Rattle.djq_commands.proofs.ending.give_up_watches.Goals as goal

pub loop-query-init : goal.loop-query-init
loop-query-init c = watches_start c.args.engine.now c.args.session.now c.requires

pub unwatch-requires : goal.unwatch-requires
unwatch-requires c = popped_watched c.loop-query.engine c.loop-query.session c.pop_watch.new.self c.in-Some.query
    c.in-Some-query_id.id c.loop-query.invariant.own c.in-Some.ensures
    c.laws.ensures.apart c.in-Some-query_id.ensures

pub loop-query-preserved-in-Some-query_id : goal.loop-query-preserved-in-Some-query_id
loop-query-preserved-in-Some-query_id c = watches_go_on c.args.engine.now c.args.session.now c.loop-query.engine
    c.loop-query.session c.pop_watch.new.self c.unwatch.new.self c.in-Some.query
    c.in-Some-query_id.id c.loop-query.invariant c.in-Some.ensures c.laws.ensures.apart c.laws.ensures.named
    c.in-Some-query_id.ensures c.unwatch.ensures

pub loop-query-preserved : goal.loop-query-preserved
loop-query-preserved c = never_unknown c.loop-query.engine c.loop-query.session c.pop_watch.new.self c.in-Some.query
    c.loop-query.invariant.own c.in-Some.ensures c.in_default-query_id.ensures

pub returns : goal.returns
returns c = watches_given_up c.args.engine.now c.args.session.now c.loop-query.engine c.loop-query.session
    c.pop_watch.new.self c.loop-query.invariant c.in_default.ensures
