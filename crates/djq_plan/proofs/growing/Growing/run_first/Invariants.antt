use Rattle.djq_tree.specs.Growing.{are_within}
use Rattle.djq_plan.proofs.GrowthSteps.{Ran, size}
use Rattle.djq_plan.proofs.growing.Growing.run_first.Given as goal

abbrev pub invariant-first : goal.invariant-first
invariant-first l = Ran (are_within l.head) l.head l.fn.self l.self

abbrev pub decreases-first : goal.decreases-first
decreases-first l = size l.self.current
