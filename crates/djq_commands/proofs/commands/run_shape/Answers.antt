-- A reply changes the session's bytes alone, so it is a step of the machine among any other sessions.
use Rattle.djq_commands.proofs.Replies.{does_shape}
use Rattle.djq_commands.proofs.commands.run_shape.Goals as goal

pub returns : goal.returns
returns c = does_shape c.args.engine.now c.args.session.now c.answer_shape.new.self c.args.query.now
    c.shape-outcome.result
    c.shape-outcome.ensures c.answer_shape.ensures
