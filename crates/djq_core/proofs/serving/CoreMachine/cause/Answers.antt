-- Ids rise and an open session's is there, so the session at its place is the one that the machine finds.
use Rattle.std.proofs.Common.{◌∙◌, sym, ap}
use Rattle.djq_machine.specs.State.{State}
use Rattle.djq_machine.specs.Call.{cause_of}
use Rattle.djq_commands.specs.Views.{Visible}
use Rattle.djq_core.specs.Sessions.{opened_at}
use Rattle.djq_core.proofs.SessionSteps.{here, is_there, cause_at}
use Rattle.djq_core.proofs.serving.CoreMachine.cause.Goals as goal

pub find-at-requires : goal.find-at-requires
find-at-requires c = is_there c.self.inside.engine (c.args.self.now).state c.self.inside.stopped
    c.self.inside.sessions c.args.id (ap (λ (v : Visible). v.state) c.self.view_is) c.requires

pub returns : goal.returns
returns c =
    let h = here c.self.inside.engine c.self.inside.sessions c.find-at.result c.args.id
    c.get.result.now c.self.invariant.0 c.find-at.ensures.within c.find-at.ensures.there
    c.get.ensures in
    c.cause.ensures ∙ sym
    (ap (λ (st : State). cause_of st c.args.id) (sym (ap (λ (v : Visible). v.state) c.self.view_is))
    ∙ cause_at c.self.inside.engine c.self.inside.stopped c.self.inside.sessions c.find-at.result
    c.args.id (opened_at c.self.inside.sessions c.find-at.result c.get.result.now) h)
