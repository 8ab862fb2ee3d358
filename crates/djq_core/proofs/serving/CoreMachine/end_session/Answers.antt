-- The session is at its id's place with cursors of its own, and the machine ends it or had ended it before.
use Rattle.std.proofs.Common.{List, sym, subst, set, ap}
use Rattle.djq_machine.specs.State.{State}
use Rattle.djq_commands.specs.declared.open.OpenSession.{OpenSession}
use Rattle.djq_machine.specs.Step.{ended}
use Rattle.djq_machine.specs.Call.{Makes}
use Rattle.djq_commands.specs.Views.{state_in, Visible}
use Rattle.djq_commands.specs.Sound.{BatchesSuit, IsSound, batches_of}
use Rattle.djq_core.specs.Sessions.{opened_at}
use Rattle.djq_core.proofs.SessionSteps.{here, is_there, owns, ended_now, ended_had, dry_here, same_list}
use Rattle.djq_core.proofs.Loads.{suits_none, suited_set}
use Rattle.djq_core.proofs.serving.CoreMachine.end_session.Goals as goal

pub find-at-requires : goal.find-at-requires
find-at-requires c = is_there c.self.inside.engine (c.args.self.now).state c.self.inside.stopped
    c.self.inside.sessions c.args.id (ap (λ (v : Visible). v.state) c.self.view_is) c.requires.open

pub end_input-requires-clause-own : goal.end_input-requires-clause-own
end_input-requires-clause-own c =
    let h = here c.self.inside.engine c.self.inside.sessions c.find-at.result c.args.id
    c.get_mut-found.result.now c.self.invariant.0 c.find-at.ensures.within c.find-at.ensures.there
    c.get_mut-found.ensures.value in
    owns c.self.inside.engine c.self.inside.sessions c.find-at.result c.args.id (opened_at c.self.inside.sessions
    c.find-at.result c.get_mut-found.result.now) h

pub invariant_of-self : goal.invariant_of-self
invariant_of-self c =
    let h = here c.self.inside.engine c.self.inside.sessions c.find-at.result c.args.id
    c.get_mut-found.result.now c.self.invariant.0 c.find-at.ensures.within c.find-at.ensures.there
    c.get_mut-found.ensures.value in
    subst (λ (ys : List OpenSession). IsSound c.self.inside.engine ys
    × BatchesSuit (c.self.inside.engine).store (batches_of c.self.inside.batch ys))
    (sym (same_list c.self.inside.engine c.self.inside.sessions c.find-at.result c.args.id
    (opened_at c.self.inside.sessions c.find-at.result c.get_mut-found.result.now) h)) c.self.invariant

pub invariant_of-self-in-None : goal.invariant_of-self-in-None
invariant_of-self-in-None c =
    let h = here c.self.inside.engine c.self.inside.sessions c.find-at.result c.args.id
    c.get_mut-found.result.now c.self.invariant.0 c.find-at.ensures.within c.find-at.ensures.there
    c.get_mut-found.ensures.value in
    let running = sym c.in-None.ensures in
    let dry = dry_here c.self.inside.engine (c.args.self.now).state c.self.inside.stopped c.self.inside.sessions
    c.find-at.result c.args.id (opened_at c.self.inside.sessions c.find-at.result c.get_mut-found.result.now) h (ap (λ (v
    : Visible). v.state) c.self.view_is)
    running c.requires.dry in (
      (ended_now c.self.inside.engine c.end_input.new.engine c.self.inside.sessions
          c.find-at.result c.args.id (opened_at c.self.inside.sessions c.find-at.result c.get_mut-found.result.now)
          c.end_input.new.session c.self.inside.stopped
          h running dry c.end_input.ensures.performs).1,
      suited_set (c.self.inside.engine).store (c.end_input.new.engine).store c.self.inside.batch
          c.self.inside.sessions c.find-at.result
          (opened_at c.self.inside.sessions c.find-at.result c.end_input.new.session) c.self.invariant.1
          c.end_input.ensures.told.store
          (suits_none (c.self.inside.engine).store c.end_input.new.session.batch c.end_input.ensures.closed),
    )

pub returns-in-None-clause-makes : goal.returns-in-None-clause-makes
returns-in-None-clause-makes c =
    let h = here c.self.inside.engine c.self.inside.sessions c.find-at.result c.args.id
    c.get_mut-found.result.now c.self.invariant.0 c.find-at.ensures.within c.find-at.ensures.there
    c.get_mut-found.ensures.value in
    let running = sym c.in-None.ensures in
    let dry = dry_here c.self.inside.engine (c.args.self.now).state c.self.inside.stopped c.self.inside.sessions
    c.find-at.result c.args.id (opened_at c.self.inside.sessions c.find-at.result c.get_mut-found.result.now) h (ap (λ (v
    : Visible). v.state) c.self.view_is)
    running c.requires.dry in
    subst (λ (st : State). Makes st (ended c.args.id)
    (state_in c.end_input.new.engine c.self.inside.stopped
    (set c.self.inside.sessions c.find-at.result
    (opened_at c.self.inside.sessions c.find-at.result c.end_input.new.session))))
    (ap (λ (v : Visible). v.state) c.self.view_is)
    (ended_now c.self.inside.engine c.end_input.new.engine c.self.inside.sessions
    c.find-at.result c.args.id (opened_at c.self.inside.sessions c.find-at.result c.get_mut-found.result.now)
    c.end_input.new.session c.self.inside.stopped
    h running dry c.end_input.ensures.performs).0

pub returns-in-Some-clause-makes : goal.returns-in-Some-clause-makes
returns-in-Some-clause-makes c =
    let h = here c.self.inside.engine c.self.inside.sessions c.find-at.result c.args.id
    c.get_mut-found.result.now c.self.invariant.0 c.find-at.ensures.within c.find-at.ensures.there
    c.get_mut-found.ensures.value in
    let cause = sym c.in-Some.ensures in
    subst (λ (ys : List OpenSession). Makes (c.args.self.now).state (ended c.args.id)
    (state_in c.self.inside.engine c.self.inside.stopped ys))
    (sym (same_list c.self.inside.engine c.self.inside.sessions c.find-at.result c.args.id
    (opened_at c.self.inside.sessions c.find-at.result c.get_mut-found.result.now) h))
    (subst (λ (st : State). Makes st (ended c.args.id)
    (state_in c.self.inside.engine c.self.inside.stopped c.self.inside.sessions))
    (ap (λ (v : Visible). v.state) c.self.view_is)
    (ended_had c.self.inside.engine c.self.inside.sessions c.find-at.result c.args.id
    (opened_at c.self.inside.sessions c.find-at.result c.get_mut-found.result.now) c.self.inside.stopped
    c.in-Some._had_ended h cause))
