-- An empty edge lies within another, and equal ones in each other, so a step applies; steps add no variable.
use Rattle.djq_plan.proofs.ReductionSteps.{lean_of}
use Rattle.djq_plan.proofs.reducing.rest_is_lean.Goals as goal

pub returns : goal.returns
returns c = lean_of c.args.edges.now c.args.rest.now
