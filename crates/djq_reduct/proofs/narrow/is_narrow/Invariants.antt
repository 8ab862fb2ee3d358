use Rattle.std.proofs.Common.{ℕ, ◌<◌, ◌≤◌, length}
use Rattle.djq_tree.specs.Labels.{label_at}
use Rattle.djq_reduct.proofs.narrow.is_narrow.Given as goal

abbrev pub invariant-loop-node : goal.invariant-loop-node
invariant-loop-node l = (k : ℕ) → k < l.node → length (label_at l.tree.labels k) ≤ 16
