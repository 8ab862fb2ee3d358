-- Opening a batch changes the session's batch and bytes alone, so it is a step among any other sessions.
use Rattle.djq_commands.proofs.TakenLines.{does_batch}
use Rattle.djq_commands.proofs.batch.run_batch.Goals as goal

pub returns : goal.returns
returns c = does_batch c.args.engine.now c.args.session.now c.open_batch.new.self c.answer_batch.new.self
    c.open_batch.ensures c.answer_batch.ensures
