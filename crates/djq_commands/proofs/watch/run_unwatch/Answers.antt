-- The session goes on, so it may watch, and what is known around it holds with a watch less, by Rewatching.
use Rattle.djq_commands.proofs.WatchCommands.{does_unwatch}
use Rattle.djq_commands.proofs.watch.run_unwatch.Goals as goal

pub returns : goal.returns
returns c = does_unwatch c.args.engine.now c.cease_watch-outcome.new.engine c.args.session.now
    c.cease_watch-outcome.new.session c.answer_done.new.self
    c.args.query.now c.cease_watch-outcome.result c.requires.running c.cease_watch-outcome.ensures c.answer_done.ensures
