-- A session that watches the query is counted among its watchers, so it has one; names are apart.
use Rattle.std.proofs.Common.{sym}
use Rattle.djq_commands.proofs.WatchCommands.{ceases_none, ceases_already, ceases_done, may_unwatch}
use Rattle.djq_commands.proofs.watch.cease_watch.Goals as goal

pub returns-in_default : goal.returns-in_default
returns-in_default c = ceases_none c.args.engine.now c.args.session.now c.args.query.now c.laws.ensures.queries
    c.in_default.ensures

pub unwatch-requires-then-watches : goal.unwatch-requires-then-watches
unwatch-requires-then-watches c = may_unwatch c.args.engine.now c.args.session.now c.args.query.now c.in-Some.id
    c.requires.counted c.laws.ensures.apart c.in-Some.ensures (sym c.if-watches.ensures)

pub returns-then-watches : goal.returns-then-watches
returns-then-watches c = ceases_done c.args.engine.now c.unwatch-then-watches.new.self c.args.session.now
    c.unwatch.new.self c.args.query.now c.in-Some.id
    c.laws.ensures.queries c.laws.ensures.apart c.laws.ensures.named c.in-Some.ensures (sym c.if-watches.ensures)
    c.unwatch.ensures c.unwatch-then-watches.ensures

pub returns-else-watches : goal.returns-else-watches
returns-else-watches c = ceases_already c.args.engine.now c.args.session.now c.args.query.now c.in-Some.id
    c.laws.ensures.queries c.in-Some.ensures (sym c.if-watches.ensures)
