-- Group keys: the variables by which a node's tuples are looked up together.
use Rattle.std.specs.Prelude.{ℕ, cond, ◌==◌, List, Option, Some, None}
use Rattle.djq_tree.specs.declared.node.Node.{Node}
use Rattle.djq_tree.specs.declared.node.Node.TheVariants.{Leaf, Trim, Meet}
use Rattle.djq_tree.specs.Labels.{label_at}
use Rattle.djq_tree.specs.Tree.{Tree, node_at, parent}

-- the key of the node j under its parent k: under a trim the trim's label, as a guard the side's label, and
-- as a side its own
abbrev pub key_under : List (List ℕ) → ℕ → ℕ → Node → List ℕ
key_under labels j k (Leaf a) = label_at labels j
key_under labels j k (Trim c) = label_at labels k
key_under labels j k (Meet g s) = cond (g == j) (label_at labels s) (label_at labels j)

-- the same if it may have no parent: the root's key is its own label
abbrev pub key_by : Tree → ℕ → Option ℕ → List ℕ
key_by t j None = label_at t.labels j
key_by t j (Some k) = key_under t.labels j k (node_at t.nodes k)

-- the variables of a node's group key
abbrev pub key_of : Tree → ℕ → List ℕ
key_of t j = key_by t j (parent t.nodes j)
