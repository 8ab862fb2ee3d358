-- A set without variables keeps none, so each step is one of the stage; labels are smaller in all after it.
use Rattle.std.proofs.Common.{[]}
use Rattle.djq_tree.specs.Growing.{is_root}
use Rattle.djq_plan.proofs.GrowthSteps.{ran_none, turn}
use Rattle.djq_plan.proofs.growing.Growing.run_second.Goals as goal

pub second-init : goal.second-init
second-init c = ran_none is_root [] c.args.self.now

pub second-smaller : goal.second-smaller
second-smaller c =
    (turn is_root [] c.new.result c.args.self.now c.second.self _ c.take_step.new.self c.deref.result.now
    c.in_ok-take_step.field-0 c.second.invariant c.self.view_is
    c.deref.ensures.value c.second-test.ensures c.new.ensures c.in_ok-take_step.ensures c.if-not-branch.false).1

pub second-preserved : goal.second-preserved
second-preserved c =
    (turn is_root [] c.new.result c.args.self.now c.second.self _ c.take_step.new.self c.deref.result.now
    c.in_ok-take_step.field-0 c.second.invariant c.self.view_is
    c.deref.ensures.value c.second-test.ensures c.new.ensures c.in_ok-take_step.ensures c.if-not-branch.false).0
