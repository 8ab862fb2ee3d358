-- Trees over which an update changes one tuple of a node at most.
use Rattle.std.specs.Prelude.{◌≡◌, ℕ}
use Rattle.djq_tree.specs.declared.node.Node.TheVariants.{Meet}
use Rattle.djq_tree.specs.Labels.{label_at}
use Rattle.djq_tree.specs.Tree.{Tree, node_at}

-- the guard and the side of each meet have equal labels
pub record HasEqualMeets (t : Tree) : Type 0 where
  pub equal : (k g s : ℕ) → node_at t.nodes k ≡ Meet g s → label_at t.labels s ≡ label_at t.labels g
