-- A cursor comes to this session alone; the cursors of all others are held as they were, by Naming.
use Rattle.djq_commands.proofs.CursorCommands.{does_open}
use Rattle.djq_commands.proofs.commands.run_open.Goals as goal

pub returns : goal.returns
returns c = does_open c.args.engine.now c.open_cursor-outcome.new.engine c.args.session.now
    c.open_cursor-outcome.new.session c.answer_opened.new.self
    c.args.name.now c.args.query.now c.open_cursor-outcome.result c.requires c.open_cursor-outcome.ensures
    c.answer_opened.ensures
