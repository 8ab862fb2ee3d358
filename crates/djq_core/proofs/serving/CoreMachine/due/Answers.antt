-- Ids rise, so the first session kept to which something is due is the first that the machine sees.
use Rattle.std.proofs.Common.{◌∙◌, ap}
use Rattle.djq_commands.specs.Views.{Visible}
use Rattle.djq_core.proofs.Queues.{first_is_due}
use Rattle.djq_core.proofs.serving.CoreMachine.due.Goals as goal

pub returns : goal.returns
returns c =
    c.first_due.ensures
    ∙ first_is_due c.self.inside.engine c.self.inside.stopped c.self.inside.sessions c.args.from
    (c.args.self.now).state c.self.invariant.0 (ap (λ (v : Visible). v.state) c.self.view_is)
