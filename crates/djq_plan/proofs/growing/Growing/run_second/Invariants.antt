use Rattle.std.proofs.Common.{[]}
use Rattle.djq_tree.specs.Growing.{is_root}
use Rattle.djq_plan.proofs.GrowthSteps.{Ran, size}
use Rattle.djq_plan.proofs.growing.Growing.run_second.Given as goal

abbrev pub invariant-second : goal.invariant-second
invariant-second l = Ran is_root [] l.fn.self l.self

abbrev pub decreases-second : goal.decreases-second
decreases-second l = size l.self.current
