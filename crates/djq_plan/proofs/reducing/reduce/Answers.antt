-- Each step keeps whether there is a join tree and shrinks the edges; stuck edges with a variable have none.
use Rattle.std.proofs.Common.{◌∙◌}
use Rattle.djq_plan.proofs.ReductionSteps.{turn_leads, turn_falls, ended_bare, ended_rest}
use Rattle.djq_plan.proofs.reducing.reduce.Goals as goal
use Rattle.djq_plan.proofs.reducing.reduce.Goals.{in-Some-find_variable, in-None}

pub steps-smaller : goal.steps-smaller
steps-smaller c = turn_falls c.steps.sets.items c.deref.result.now c.in-Some.step c.take_step.new.sets.items
    c.deref.ensures.value c.in-Some.ensures.some c.take_step.ensures

pub steps-preserved : goal.steps-preserved
steps-preserved c =
    turn_leads c.args.edges.now c.steps.steps.items c.steps.sets.items c.deref.result.now c.in-Some.step
    c.push.new.self.items c.take_step.new.sets.items c.steps.invariant c.deref.ensures.value c.in-Some.ensures.some
    c.in_ok-push.ensures.items c.take_step.ensures

pub returns-clause-acyclic : goal.returns-clause-acyclic
returns-clause-acyclic c =
    let stuck = c.in_default.ensures.none in
    elim c.match-find_variable.branch [
      | in-Some-find_variable w ↦
          ended_rest c.args.edges.now c.steps.steps.items c.steps.sets.items c.deref.result.now c.deref-2.result.now
          c.match-find_variable.rest w.in-Some-find_variable._variable c.steps.invariant c.deref.ensures.value stuck
          c.deref-2.ensures.value w.in-Some-find_variable.ensures.some (w.rest-is ∙ w.from_sets-rest.ensures)
      | in-None w ↦
          ended_bare c.args.edges.now c.steps.steps.items c.steps.sets.items c.deref-2.result.now
          c.match-find_variable.rest c.steps.invariant c.deref-2.ensures.value w.in-None.ensures.none
          (w.rest-is ∙ w.new-rest.ensures)
    ]
