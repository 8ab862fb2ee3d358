-- The query of the name is registered, and fewer sessions than there may be watch it, since this one doesn't.
use Rattle.std.proofs.Common.{sym}
use Rattle.djq_commands.proofs.WatchCommands.{begins_none, begins_already, begins_full, begins_done, may_watch}
use Rattle.djq_commands.proofs.WatchCommands.{is_registered, on_ok, on_err}
use Rattle.djq_commands.proofs.watch.begin_watch.Goals as goal

pub returns-in_default : goal.returns-in_default
returns-in_default c = begins_none c.args.engine.now c.args.session.now c.args.query.now c.laws.ensures.queries
    c.in_default.ensures

pub returns-then-watches : goal.returns-then-watches
returns-then-watches c = begins_already c.args.engine.now c.args.session.now c.args.query.now c.in-Some.id
    c.laws.ensures.queries c.in-Some.ensures (sym c.if-watches.ensures)

pub returns-then-is_err : goal.returns-then-is_err
returns-then-is_err c = begins_full c.args.engine.now c.args.session.now c.watch.new.self c.args.query.now c.in-Some.id
    c.laws.ensures.queries c.in-Some.ensures (sym c.if-watches.ensures)
    (on_err _ c.watch.result (sym c.if-is_err.ensures.value) c.watch.ensures.stays)

pub watch-requires-2-clause-registered : goal.watch-requires-2-clause-registered
watch-requires-2-clause-registered c = is_registered c.args.engine.now c.args.query.now c.in-Some.id
    c.laws.ensures.apart c.in-Some.ensures

pub watch-requires-2-clause-few : goal.watch-requires-2-clause-few
watch-requires-2-clause-few c = may_watch c.args.engine.now c.args.session.now c.args.query.now c.in-Some.id
    c.requires.counted c.laws.ensures.apart c.in-Some.ensures (sym c.if-watches.ensures)

pub returns : goal.returns
returns c = begins_done c.args.engine.now c.watch-2.new.self c.args.session.now c.watch.new.self c.args.query.now
    c.in-Some.id c.laws.ensures.queries c.laws.ensures.apart c.laws.ensures.named
    c.in-Some.ensures (sym c.if-watches.ensures)
    (on_ok _ c.watch.result (sym c.if-is_err.ensures.value) c.watch.ensures.watched) c.watch-2.ensures
