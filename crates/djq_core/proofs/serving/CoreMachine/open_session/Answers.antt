-- The new id is above all; a new session has no cursors, no watches and no batch.
use Rattle.std.proofs.Common.{List, ◌<◌, sym, ap, subst, length, arith}
use Rattle.djq_commands.specs.declared.open.OpenSession.{OpenSession}
use Rattle.djq_protocol.specs.declared.limits.TheConstants.{SESSIONS}
use Rattle.djq_machine.specs.Step.{opened}
use Rattle.djq_machine.specs.Call.{Makes, IsOpen}
use Rattle.djq_commands.specs.Views.{state_in, Visible}
use Rattle.djq_commands.specs.Sound.{IsSound}
use Rattle.djq_core.proofs.SessionSteps.{last_kept, opens}
use Rattle.djq_core.proofs.Loads.{suited_more}
use Rattle.djq_core.proofs.serving.CoreMachine.open_session.Goals as goal

pub insert-requires-clause-last : goal.insert-requires-clause-last
insert-requires-clause-last c = last_kept c.self.inside.engine (c.args.self.now).state c.self.inside.stopped
    c.self.inside.sessions c.args.id (ap (λ (v : Visible). v.state) c.self.view_is) c.requires

pub invariant_of-self : goal.invariant_of-self
invariant_of-self c =
    let less : length c.self.inside.sessions < SESSIONS = omega (arith, c.if-len-ge-SESSIONS.false, c.len.ensures) in (
      subst (λ (ys : List OpenSession). IsSound c.self.inside.engine ys) (sym c.insert.ensures)
          (opens c.self.inside.engine c.self.inside.sessions c.args.id c.in-Ok.session (c.args.self.now).state
          c.self.inside.stopped c.self.invariant.0 (ap (λ (v : Visible). v.state) c.self.view_is) less c.in-Ok.ensures
          c.requires).1,
      suited_more (c.self.inside.engine).store c.self.inside.batch c.self.inside.sessions c.insert.new.self
          (record { id = c.args.id; session = c.in-Ok.session }) c.self.invariant.1 c.in-Ok.ensures.batch
          c.insert.ensures,
    )

pub returns-in-Ok : goal.returns-in-Ok
returns-in-Ok c =
    let less : length c.self.inside.sessions < SESSIONS = omega (arith, c.if-len-ge-SESSIONS.false, c.len.ensures) in
    subst (λ (ys : List OpenSession). Makes (c.args.self.now).state (opened c.args.id)
    (state_in c.self.inside.engine c.self.inside.stopped ys)
    × IsOpen (state_in c.self.inside.engine c.self.inside.stopped ys) c.args.id) (sym c.insert.ensures)
    (opens c.self.inside.engine c.self.inside.sessions c.args.id c.in-Ok.session (c.args.self.now).state
    c.self.inside.stopped c.self.invariant.0 (ap (λ (v : Visible). v.state) c.self.view_is) less c.in-Ok.ensures
    c.requires).0
