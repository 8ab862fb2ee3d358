-- The ids of the sessions that are kept are those that the machine sees.
use Rattle.std.proofs.Common.{◌∙◌, sym, ap}
use Rattle.djq_machine.specs.Call.{state_ids}
use Rattle.djq_commands.specs.Views.{Visible}
use Rattle.djq_core.proofs.SessionSteps.{ids_seen}
use Rattle.djq_core.proofs.serving.CoreMachine.ids.Goals as goal

pub returns : goal.returns
returns c = c.ids.ensures ∙ sym (ids_seen c.self.inside.engine c.self.inside.stopped c.self.inside.sessions)
    ∙ ap state_ids (ap (λ (v : Visible). v.state) c.self.view_is)
