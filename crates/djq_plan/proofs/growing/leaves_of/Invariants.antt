use Rattle.std.proofs.Common.{◌≡◌}
use Rattle.djq_tree.specs.Growing.{leaf_nodes}
use Rattle.djq_plan.proofs.growing.leaves_of.Given as goal

abbrev pub invariant-loop-atom : goal.invariant-loop-atom
invariant-loop-atom l = l.nodes.items ≡ leaf_nodes l.atom
