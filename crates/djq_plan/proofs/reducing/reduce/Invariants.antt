use Rattle.djq_hypergraph.specs.Gyo.{Leads}
use Rattle.djq_plan.proofs.ReductionSteps.{size}
use Rattle.djq_plan.proofs.reducing.reduce.Given as goal

abbrev pub invariant-steps : goal.invariant-steps
invariant-steps l = Leads l.edges l.steps.items l.sets.items

abbrev pub decreases-steps : goal.decreases-steps
decreases-steps l = size l.sets.items
