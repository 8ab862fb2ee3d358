-- What is dropped was in no use, so the cursors and watches of every session are as sound as before.
use Rattle.std.proofs.Common.{◌∙◌, Bool, false, sym, subst}
use Rattle.djq_protocol.specs.declared.command.Command.TheVariants.{Drop}
use Rattle.djq_commands.specs.Performs.{ExecutesKeeping}
use Rattle.djq_commands.proofs.Replies.{does_drop, ok_done}
use Rattle.djq_commands.proofs.commands.run_drop.Goals as goal

pub returns : goal.returns
returns c =
    subst (λ (kept : Bool). ExecutesKeeping (Drop c.args.query.now) kept false c.args.engine.now c.args.session.now
    c.drop_query-outcome.new.self c.answer_done.new.self 0 0)
    (sym (c.is_ok.ensures.value ∙ ok_done c.drop_query-outcome.result))
    (does_drop c.args.engine.now c.drop_query-outcome.new.self c.args.session.now c.answer_done.new.self
    c.args.query.now c.drop_query-outcome.result
    c.drop_query-outcome.ensures c.answer_done.ensures)
