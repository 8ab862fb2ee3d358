use Rattle.std.proofs.Common.{◌≡◌}
use Rattle.djq_tree.specs.Growing.{marks_below}
use Rattle.djq_plan.proofs.growing.Growing.marks.Given as goal

abbrev pub invariant-loop-node : goal.invariant-loop-node
invariant-loop-node l = l.marks.items ≡ marks_below l.self l.node-counter
