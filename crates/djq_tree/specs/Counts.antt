-- How large a tree is.
use Rattle.std.specs.Prelude.{◌≡◌, ℕ, zero, suc, ◌+◌, ◌*◌, ◌<◌, ◌≤◌, Bool, true, false, not, List}
use Rattle.std.specs.Prelude.{length, drop, count_by}
use Rattle.djq_hypergraph.specs.Hypergraph.{member, degree, one}
use Rattle.djq_tree.specs.declared.node.Node.{Node}
use Rattle.djq_tree.specs.declared.node.Node.TheVariants.{Leaf, Trim, Meet}
use Rattle.djq_tree.specs.Tree.{Tree, leaf_labels}
use Rattle.djq_tree.specs.Levels.{is_start, levels}

-- whether the node is a trim
abbrev pub is_trim : Node → Bool
is_trim (Leaf a) = false
is_trim (Trim c) = true
is_trim (Meet g s) = false

-- how many of the nodes are trims
abbrev pub trims : List Node → ℕ
trims nodes = count_by is_trim nodes

-- how many of them aren't
abbrev pub others : List Node → ℕ
others nodes = count_by (λ n. not (is_trim n)) nodes

-- how many of the numbers below n pass the test
abbrev pub how_many : (ℕ → Bool) → ℕ → ℕ
how_many test zero = 0
how_many test (suc n) = how_many test n + one (test n)

-- a tree is small, measured by its atoms, its variables and its head
pub record IsSmall (t : Tree) : Type 0 where
  -- with m atoms there are 2m - 1 nodes that aren't trims
  pub not_trims : others t.nodes + 1 ≡ 2 * t.leaves
  -- there are at most as many trims as variables: no list that has all of them is shorter
  pub all_trims : (V : List ℕ) → ((x : ℕ) → 0 < degree x (leaf_labels t) → member x V ≡ true) → trims t.nodes ≤ length V
  -- in the second stage there are at most as many trims as head variables
  pub second_trims : trims (drop t.second_stage t.nodes) ≤ length t.head
  -- so a listing has at most as many levels
  pub few_levels : length (levels t) ≤ length t.head
  -- as the second stage began, at most as many nodes were current as there are atoms
  pub few_starts : how_many (is_start t) (length t.nodes) ≤ t.leaves
