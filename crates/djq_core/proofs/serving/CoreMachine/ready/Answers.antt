-- Ids rise, so the first session kept of which a line may be run is the first that the machine sees.
use Rattle.std.proofs.Common.{◌∙◌, sym, ap}
use Rattle.djq_commands.specs.Views.{Visible, state_in}
use Rattle.djq_core.proofs.Queues.{first_is_ready, none_ready}
use Rattle.djq_core.proofs.serving.CoreMachine.ready.Goals as goal

pub returns-then-self : goal.returns-then-self
returns-then-self c =
    sym (none_ready (c.args.self.now).state c.args.from
    (sym (ap (λ (v : Visible). (v.state).stopped) c.self.view_is) ∙ c.if-self.true))

pub returns-else-self : goal.returns-else-self
returns-else-self c =
    c.first_ready.ensures
    ∙ first_is_ready c.self.inside.engine c.self.inside.sessions c.args.from
    (c.args.self.now).state c.self.invariant.0
    (ap (λ (b : _). state_in c.self.inside.engine b c.self.inside.sessions) (sym c.if-self.false)
    ∙ ap (λ (v : Visible). v.state) c.self.view_is)
