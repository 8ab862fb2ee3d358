-- No session is open, so the engine is idle, and the batch of the loaded lines is the only one to suit.
use Rattle.std.proofs.Common.{◌∙◌, sym, ap, subst, Option}
use Rattle.djq_store_spec.specs.Held.{HeldTransaction}
use Rattle.djq_machine.specs.Loading.{Loading, LoadStep}
use Rattle.djq_commands.specs.Sound.{BatchSuits}
use Rattle.djq_commands.specs.Views.{Visible, loading_in}
use Rattle.djq_core.proofs.Loads.{core_idle, idle_core, none_open, step_loads, suits_loaded}
use Rattle.djq_core.proofs.serving.Core.load.Goals as goal

pub load_alone-loaded-requires : goal.load_alone-loaded-requires
load_alone-loaded-requires g c =
    idle_core c.self.inside.engine c.self.inside.sessions c.self.invariant.0
    (none_open c.self.inside.engine c.self.inside.stopped c.self.inside.sessions (c.args.self.now).state
    (ap (λ (v : Visible). v.state) c.self.view_is) c.requires.none)

pub load_in_batch-loaded-requires-clause-idle : goal.load_in_batch-loaded-requires-clause-idle
load_in_batch-loaded-requires-clause-idle g c =
    idle_core c.self.inside.engine c.self.inside.sessions c.self.invariant.0
    (none_open c.self.inside.engine c.self.inside.stopped c.self.inside.sessions (c.args.self.now).state
    (ap (λ (v : Visible). v.state) c.self.view_is) c.requires.none)

pub invariant_of-self : goal.invariant_of-self
invariant_of-self g c =
    let none = none_open c.self.inside.engine c.self.inside.stopped c.self.inside.sessions (c.args.self.now).state
    (ap (λ (v : Visible). v.state) c.self.view_is) c.requires.none in
    let loads = c.load_alone-loaded.ensures.loads in (
      core_idle c.load_alone-loaded.new.engine c.self.inside.sessions none loads.idle,
      suits_loaded (c.load_alone-loaded.new.engine).store c.load_alone-loaded.result.1 c.self.inside.sessions none
          (loads.suits tt),
    )

pub invariant_of-self-in-Some : goal.invariant_of-self-in-Some
invariant_of-self-in-Some g c =
    let none = none_open c.self.inside.engine c.self.inside.stopped c.self.inside.sessions (c.args.self.now).state
    (ap (λ (v : Visible). v.state) c.self.view_is) c.requires.none in
    let loads = c.load_in_batch-loaded.ensures.loads in
    let suits = subst (BatchSuits (c.self.inside.engine).store) (sym c.take.ensures.value ∙ c.in-Some.is)
    c.self.invariant.1.0 in (
      core_idle c.load_in_batch-loaded.new.engine c.self.inside.sessions none loads.idle,
      suits_loaded (c.load_in_batch-loaded.new.engine).store c.load_in_batch-loaded.result.1
          c.self.inside.sessions none (loads.suits suits),
    )

pub returns-in-None-clause-loads : goal.returns-in-None-clause-loads
returns-in-None-clause-loads g c =
    let batch = sym (sym c.take.ensures.value ∙ c.in-None.is) in
    subst (λ (old : Loading). LoadStep old c.args.line.now c.load_alone-loaded.result.0
    (record { store = (c.load_alone-loaded.new.engine).store; batch = c.load_alone-loaded.result.1 }))
    (ap loading_in c.self.view_is)
    (subst (λ (b : Option HeldTransaction). LoadStep (record { store = (c.self.inside.engine).store; batch = b })
    c.args.line.now c.load_alone-loaded.result.0
    (record { store = (c.load_alone-loaded.new.engine).store; batch = c.load_alone-loaded.result.1 })) batch
    (step_loads _ _ c.args.line.now c.load_alone-loaded.result.0 c.load_alone-loaded.ensures.loads.loads))

pub returns-in-Some-clause-loads : goal.returns-in-Some-clause-loads
returns-in-Some-clause-loads g c =
    let batch = sym (sym c.take.ensures.value ∙ c.in-Some.is) in
    subst (λ (old : Loading). LoadStep old c.args.line.now c.load_in_batch-loaded.result.0
    (record { store = (c.load_in_batch-loaded.new.engine).store; batch = c.load_in_batch-loaded.result.1 }))
    (ap loading_in c.self.view_is)
    (subst (λ (b : Option HeldTransaction). LoadStep (record { store = (c.self.inside.engine).store; batch = b })
    c.args.line.now c.load_in_batch-loaded.result.0
    (record { store = (c.load_in_batch-loaded.new.engine).store; batch = c.load_in_batch-loaded.result.1 })) batch
    (step_loads _ _ c.args.line.now c.load_in_batch-loaded.result.0 c.load_in_batch-loaded.ensures.loads.loads))
