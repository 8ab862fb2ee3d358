use Rattle.std.proofs.Common.{◌≡◌, ℕ, ◌<◌, false}
use Rattle.djq_tree.specs.Tree.{has_child, node_at}
use Rattle.djq_tree.proofs.path.parent_of.Given as goal

abbrev pub invariant-loop-k : goal.invariant-loop-k
invariant-loop-k l = (j : ℕ) → j < l.k → has_child (node_at l.nodes j) l.node ≡ false
