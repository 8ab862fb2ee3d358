-- A line is kept just where its command is done, and a new relation leaves all cursors and watches alone.
use Rattle.std.proofs.Common.{◌∙◌, Bool, false, sym, subst}
use Rattle.djq_protocol.specs.declared.command.Command.TheVariants.{Rel}
use Rattle.djq_commands.specs.Performs.{ExecutesKeeping}
use Rattle.djq_commands.proofs.Replies.{does_rel, ok_done}
use Rattle.djq_commands.proofs.commands.run_rel.Goals as goal

pub returns : goal.returns
returns c =
    subst (λ (kept : Bool). ExecutesKeeping (Rel c.args.name c.args.types) kept false c.args.engine.now
    c.args.session.now c.rel-outcome.new.self c.answer_done.new.self 0 0)
    (sym (c.is_ok.ensures.value ∙ ok_done c.rel-outcome.result))
    (does_rel c.args.engine.now c.rel-outcome.new.self c.args.session.now c.answer_done.new.self c.args.name
    c.args.types c.rel-outcome.result
    c.rel-outcome.ensures.makes c.rel-outcome.ensures.cursors c.rel-outcome.ensures.registered c.answer_done.ensures)
