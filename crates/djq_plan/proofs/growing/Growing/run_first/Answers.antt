-- Each step that is taken is one of the stage, and the current labels are smaller in all after it.
use Rattle.std.proofs.Common.{refl}
use Rattle.djq_tree.specs.Growing.{are_within}
use Rattle.djq_plan.proofs.GrowthSteps.{ran_none, turn}
use Rattle.djq_plan.proofs.growing.Growing.run_first.Goals as goal

pub first-init : goal.first-init
first-init c = ran_none (are_within c.args.head) c.args.head c.args.self.now

pub first-smaller : goal.first-smaller
first-smaller c =
    (turn (are_within c.args.head) c.args.head c.args.head c.args.self.now c.first.self _ c.take_step.new.self
    c.deref.result.now c.in_ok-take_step.field-0 c.first.invariant c.self.view_is
    c.deref.ensures.value c.first-test.ensures refl c.in_ok-take_step.ensures c.if-not-branch.false).1

pub first-preserved : goal.first-preserved
first-preserved c =
    (turn (are_within c.args.head) c.args.head c.args.head c.args.self.now c.first.self _ c.take_step.new.self
    c.deref.result.now c.in_ok-take_step.field-0 c.first.invariant c.self.view_is
    c.deref.ensures.value c.first-test.ensures refl c.in_ok-take_step.ensures c.if-not-branch.false).0
