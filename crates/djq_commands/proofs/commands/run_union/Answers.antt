-- No two names are the same, so the watches stay counted when a union comes; its members are those lent.
use Rattle.std.proofs.Common.{◌∙◌, Bool, List, false, sym, subst}
use Rattle.djq_model.specs.Data.{Bytes}
use Rattle.djq_protocol.specs.declared.command.Command.TheVariants.{Union}
use Rattle.djq_machine.specs.Keeping.{is_done}
use Rattle.djq_commands.specs.Performs.{ExecutesKeeping}
use Rattle.djq_commands.proofs.Replies.{does_union, ok_done}
use Rattle.djq_commands.proofs.WatchCommands.{stays_united}
use Rattle.djq_commands.proofs.commands.run_union.Goals as goal

pub returns : goal.returns
returns c =
    let old = c.args.engine.now in
    let new = c.add_union-outcome.new.self in
    let outcome = c.add_union-outcome.result in
    subst (λ (kept : Bool). ExecutesKeeping (Union c.args.name c.args.members.now) kept false old c.args.session.now new
    c.answer_united.new.self 0 0) (sym (c.is_ok.ensures.value ∙ ok_done outcome))
    (subst (λ (members : List Bytes). ExecutesKeeping (Union c.args.name members) (is_done outcome) false old
    c.args.session.now new c.answer_united.new.self 0 0) c.as_slice.ensures
    (does_union old new c.args.session.now c.answer_united.new.self c.args.name c.as_slice.result.now outcome
    c.add_union-outcome.ensures.registers c.add_union-outcome.ensures.cursors
    (stays_united old new c.args.session.now.watches c.args.name c.as_slice.result.now outcome
    c.add_union-outcome.ensures.enrols c.laws.ensures.named) c.answer_united.ensures))
