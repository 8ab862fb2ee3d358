-- How the planner grows the tree of a query, step by step: the atoms are the leaves, and each later node is
-- the step that the choice rule names for the nodes that are current before it.
use Rattle.std.specs.Prelude.{◌≡◌, ℕ, zero, suc, ◌<◌, Bool, true, false, min, max, ◌==◌, ◌&&◌, ◌||◌}
use Rattle.std.specs.Prelude.{nat_le, List, [], ◌∷◌, ◌++◌, length, remove, slice_index}
use Rattle.std.specs.List.{list_all}
pub use Rattle.djq_hypergraph.specs.Hypergraph.{numbers_below}
use Rattle.djq_hypergraph.specs.Hypergraph.{member, subset, difference}
use Rattle.djq_tree.specs.Labels.{label_at}
use Rattle.djq_tree.specs.declared.node.Node.{Node}
use Rattle.djq_tree.specs.declared.node.Node.TheVariants as node
use Rattle.djq_tree.specs.declared.choice.Choice.{Choice}
use Rattle.djq_tree.specs.declared.choice.Choice.TheVariants.{Trim, Meet, Stuck}
use Rattle.djq_tree.specs.Choosing.{choose}
use Rattle.djq_tree.specs.Tree.{Tree}

-- the nodes made so far and their labels; the numbers of the current ones, rising, and the labels of these
pub record Growth : Type 0 where
  pub nodes : List Node
  pub labels : List (List ℕ)
  pub numbers : List ℕ
  pub current : List (List ℕ)

-- the leaves 0 to m-1
abbrev pub leaf_nodes : ℕ → List Node
leaf_nodes zero = []
leaf_nodes (suc m) = leaf_nodes m ++ node.Leaf m ∷ []

-- at first there are the atoms, all of them current
abbrev pub start : List (List ℕ) → Growth
start H = record { nodes = leaf_nodes (length H); labels = H; numbers = numbers_below (length H); current = H }

-- a list without the items at two of its places
abbrev pub without_both : {A : Type 0} → List A → ℕ → ℕ → List A
without_both xs i j = remove (remove xs (max i j)) (min i j)

-- the labels that are current after a step: the new node's is the last, since its number is the highest
abbrev pub current_after : List (List ℕ) → Choice → List (List ℕ)
current_after L (Trim i X) = remove L i ++ difference (label_at L i) X ∷ []
current_after L (Meet g s) = without_both L g s ++ label_at L g ∷ []
current_after L Stuck = L

-- a step of the tree
abbrev pub grown : Growth → Choice → Growth
grown s (Trim i X) = record {
  nodes = s.nodes ++ node.Trim (slice_index s.numbers i) ∷ [];
  labels = s.labels ++ difference (label_at s.current i) X ∷ [];
  numbers = remove s.numbers i ++ length s.nodes ∷ [];
  current = current_after s.current (Trim i X);
}
grown s (Meet g d) = record {
  nodes = s.nodes ++ node.Meet (slice_index s.numbers g) (slice_index s.numbers d) ∷ [];
  labels = s.labels ++ label_at s.current g ∷ [];
  numbers = without_both s.numbers g d ++ length s.nodes ∷ [];
  current = current_after s.current (Meet g d);
}
grown s Stuck = s

-- n steps by the choice rule, if the variables of `keep` may not be removed
unfoldable pub grow : List ℕ → ℕ → Growth → Growth
grow keep zero s = s
grow keep (suc n) s = grown (grow keep n s) (choose keep (grow keep n s).current)

-- each label lies within the set
abbrev pub are_within : List ℕ → List (List ℕ) → Bool
are_within keep L = list_all (λ e. subset e keep) L

-- one label is left, and it is empty
abbrev pub is_root : List (List ℕ) → Bool
is_root L = (length L == 1) && (length (label_at L 0) == 0)

-- a stage from s ends at t: the rule's steps lead there, and only there is the stage over
pub record IsStage (is_over : List (List ℕ) → Bool) (keep : List ℕ) (s t : Growth) : Type 0 where
  pub steps : ℕ
  pub leads : t ≡ grow keep steps s
  pub ends : is_over t.current ≡ true
  pub goes : (k : ℕ) → k < steps → is_over (grow keep k s).current ≡ false

-- which of the nodes below n are in `out`: those current at the start of the second stage, and all later ones
abbrev pub marks_below : Growth → ℕ → List Bool
marks_below mid zero = []
marks_below mid (suc n) = marks_below mid n ++ (nat_le (length mid.nodes) n || member n mid.numbers) ∷ []

-- the tree that was grown from m leaves for the head F, whose second stage led from `mid` to `last`
abbrev pub tree_of : ℕ → List ℕ → Growth → Growth → Tree
tree_of m F mid last = record {
  nodes = last.nodes;
  labels = last.labels;
  out = marks_below mid (length last.nodes);
  head = F;
  leaves = m;
  second_stage = length mid.nodes;
}

-- t is the tree of the query with the edges H and the head F: the first stage retains the head's variables and
-- is over when no others are left; the second retains none and is over when one node is left, with no variable
pub record IsTreeOf (H : List (List ℕ)) (F : List ℕ) (t : Tree) : Type 0 where
  pub mid : Growth
  pub first : IsStage (are_within F) F (start H) mid
  pub last : Growth
  pub second : IsStage is_root [] mid last
  pub is : t ≡ tree_of (length H) F mid last
