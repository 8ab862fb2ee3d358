-- No label before the index has an equal one behind it, so the first that has is the rule's.
use Rattle.std.proofs.Common.{arith}
use Rattle.djq_plan.proofs.Choices.{equal_is, equal_none}
use Rattle.djq_plan.proofs.choosing.choose_twins.Goals as goal

pub returns-in-Some : goal.returns-in-Some
returns-in-Some c = equal_is c.args.labels.now c.loop-guard.guard c.in-Some.side (omega arith) c.in-Some.ensures
    c.loop-guard.invariant

pub returns : goal.returns
returns c = equal_none c.args.labels.now _ (λ i h. c.loop-guard.invariant i (omega arith)) c.choose_covered.ensures
