-- No label before the index lies properly within another, so the first that does is the rule's.
use Rattle.std.proofs.Common.{arith}
use Rattle.djq_plan.proofs.Choices.{inside_is, inside_none}
use Rattle.djq_plan.proofs.choosing.choose_covered.Goals as goal

pub returns-in-Some : goal.returns-in-Some
returns-in-Some c = inside_is c.args.labels.now c.loop-side.side c.in-Some.guard (omega arith) c.in-Some.ensures
    c.loop-side.invariant

pub returns : goal.returns
returns c = inside_none c.args.labels.now (λ i h. c.loop-side.invariant i (omega arith))
