-- A session that gave up its cursors and watches may end among any others, with that line queued.
use Rattle.std.proofs.Common.{Some, refl, ap, ◌∙◌}
use Rattle.djq_protocol.specs.Reply.{end_line}
use Rattle.djq_commands.specs.Views.{Talk}
use Rattle.djq_commands.proofs.CutReplies.{ends}
use Rattle.djq_commands.proofs.ending.end_by.Goals as goal

pub returns-clause-performs : goal.returns-clause-performs
returns-clause-performs c = ends _ _ c.args.engine.now c.give_up.new.engine c.args.session.now c.give_up.new.session
    c.end_by.new.self (Some (end_line c.args.line)) c.args.cause
    c.give_up.ensures.gives_up c.end_by.ensures (λ st s x e. (refl, refl))

pub returns-clause-watches : goal.returns-clause-watches
returns-clause-watches c = ap (λ (d : Talk). d.watches) c.end_by.ensures
    ∙ ap (λ (d : Talk). d.watches) c.give_up.ensures.gives_up.session
