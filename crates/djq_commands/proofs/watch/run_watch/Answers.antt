-- The session goes on, so it may watch, and what is known around it holds with a watch more, by Rewatching.
use Rattle.std.proofs.Common.{ℕ, subst}
use Rattle.djq_protocol.specs.Reply.{watch_reply}
use Rattle.djq_session.specs.Dialog.{Replies}
use Rattle.djq_commands.proofs.WatchCommands.{does_watch}
use Rattle.djq_commands.proofs.watch.run_watch.Goals as goal

pub returns : goal.returns
returns c = does_watch c.args.engine.now c.begin_watch-outcome.new.engine c.args.session.now
    c.begin_watch-outcome.new.session c.answer_watched.new.self
    c.args.query.now c.begin_watch-outcome.result c.requires.running c.begin_watch-outcome.ensures
    (subst (λ (n : ℕ). Replies c.begin_watch-outcome.new.session c.answer_watched.new.self
    (watch_reply c.begin_watch-outcome.result n)) c.seq.ensures c.answer_watched.ensures)
