-- A reply changes the session's bytes alone, and the lookup costs no more than the machine allows.
use Rattle.djq_commands.proofs.Replies.{does_has}
use Rattle.djq_commands.proofs.commands.run_has.Goals as goal

pub returns : goal.returns
returns g c = does_has c.args.engine.now c.args.session.now c.answer_has.new.self c.args.query.now c.args.tuple.now
    c.has-outcome.result c.args.listing.now c.has-outcome.new.listing
    c.has-outcome.ensures.tells c.has-outcome.ensures.counted c.answer_has.ensures
