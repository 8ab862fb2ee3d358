-- Generalised join trees: Idris, Ugarte and Vansummeren (2017). Nodes are numbered from 0, and a node's
-- children have lower numbers.
use Rattle.std.specs.Prelude.{◌≡◌, ◌≢◌, ℕ, zero, suc, ◌+◌, ◌-◌, ◌<◌, ◌≤◌, Bool, true, false, ◌==◌}
use Rattle.std.specs.Prelude.{◌||◌, nat_le, List, [], ◌∷◌, length, take, slice_index_or, find}
use Rattle.std.specs.Prelude.{Option, Some, None, is_some}
use Rattle.std.specs.Option.{ForSome}
use Rattle.djq_hypergraph.specs.Hypergraph.{member, subset}
use Rattle.djq_hypergraph.specs.Variables.{IsVariableSet, AreVariableSets}
use Rattle.djq_tree.specs.Labels.{label_at}
use Rattle.djq_tree.specs.Lowest.{lowest_from}
use Rattle.djq_tree.specs.declared.node.Node.{Node}
use Rattle.djq_tree.specs.declared.node.Node.TheVariants.{Leaf, Trim, Meet}

-- a tree: its nodes and their labels, which of them are in the part `out`, the variables of the query's
-- head, how many nodes are leaves, and the number from which on they were made in the second stage
pub record Tree : Type 0 where
  pub nodes : List Node
  pub labels : List (List ℕ)
  pub out : List Bool
  pub head : List ℕ
  pub leaves : ℕ
  pub second_stage : ℕ

-- the node with a number, past the end a leaf
abbrev pub node_at : List Node → ℕ → Node
node_at nodes j = slice_index_or nodes j (Leaf 0)

-- whether the node with a number is in `out`
abbrev pub is_out : List Bool → ℕ → Bool
is_out out j = slice_index_or out j false

-- the labels of the leaves: the sets of the atoms' variables, in the atoms' order
abbrev pub leaf_labels : Tree → List (List ℕ)
leaf_labels t = take t.leaves t.labels

-- whether a node has the node j as a child
abbrev pub has_child : Node → ℕ → Bool
has_child (Leaf a) j = false
has_child (Trim c) j = c == j
has_child (Meet g s) j = (g == j) || (s == j)

-- the number of the node that has the node j as a child
abbrev pub parent : List Node → ℕ → Option ℕ
parent nodes j = lowest_from (λ k. has_child (node_at nodes k) j) 0 (length nodes)

-- children have lower numbers
abbrev pub IsRising : List Node → Type 0
IsRising nodes = (k j : ℕ) → has_child (node_at nodes k) j ≡ true → j < k

-- a trim of c: its label is a proper subset of its child's
pub record IsTrim (labels : List (List ℕ)) (k c : ℕ) : Type 0 where
  pub lower : c < k
  pub within : subset (label_at labels k) (label_at labels c) ≡ true
  pub proper : subset (label_at labels c) (label_at labels k) ≡ false

-- a meet of the guard g and the side s: its label is its guard's and contains its side's
pub record IsMeet (labels : List (List ℕ)) (k g s : ℕ) : Type 0 where
  pub guard_lower : g < k
  pub side_lower : s < k
  pub apart : g ≢ s
  pub guard : label_at labels k ≡ label_at labels g
  pub side : subset (label_at labels s) (label_at labels g) ≡ true

-- j is a top of the variable x: it has x, and is no child of a node with x
pub record IsTop (nodes : List Node) (labels : List (List ℕ)) (x j : ℕ) : Type 0 where
  pub has : member x (label_at labels j) ≡ true
  pub ends : (k : ℕ) → has_child (node_at nodes k) j ≡ true → member x (label_at labels k) ≡ false

-- the labels of the nodes in `out` have the variables of F, and no others
pub record ShowsHead (F : List ℕ) (t : Tree) : Type 0 where
  pub within : (j : ℕ) → is_out t.out j ≡ true → subset (label_at t.labels j) F ≡ true
  pub covered : (x : ℕ) → member x F ≡ true → (j : ℕ) × (is_out t.out j ≡ true)
      × (member x (label_at t.labels j) ≡ true)

-- what holds of every tree
pub record IsTree (t : Tree) : Type 0 where
  pub labelled : length t.labels ≡ length t.nodes
  pub marked : length t.out ≡ length t.nodes
  pub sets : AreVariableSets t.labels
  -- the leaves are the first nodes, one for each atom, in the atoms' order; there is one at least
  pub some : 0 < t.leaves
  pub fits : t.leaves ≤ length t.nodes
  pub leaf : (j : ℕ) → j < t.leaves → node_at t.nodes j ≡ Leaf j
  pub inner : (j a : ℕ) → j < length t.nodes → node_at t.nodes j ≡ Leaf a → j < t.leaves
  pub trim : (k c : ℕ) → node_at t.nodes k ≡ Trim c → IsTrim t.labels k c
  pub meet : (k g s : ℕ) → node_at t.nodes k ≡ Meet g s → IsMeet t.labels k g s
  -- each node but the last, the root, is a child of one node; the root's label is empty
  pub below : (j : ℕ) → j + 1 < length t.nodes → is_some (parent t.nodes j) ≡ true
  pub one_parent : (j k l : ℕ) → has_child (node_at t.nodes k) j ≡ true → has_child (node_at t.nodes l) j ≡ true → k ≡ l
  pub root : label_at t.labels (length t.nodes - 1) ≡ []
  -- a variable has one top at most, so the nodes that have it hang together
  pub one_top : (x j k : ℕ) → IsTop t.nodes t.labels x j → IsTop t.nodes t.labels x k → j ≡ k
  -- `out` holds the root, and the children of an inner node if and only if it was made in the second stage
  pub stages : (t.leaves ≤ t.second_stage) × (t.second_stage ≤ length t.nodes)
  pub root_out : is_out t.out (length t.nodes - 1) ≡ true
  pub out_split : (k j : ℕ) → has_child (node_at t.nodes k) j ≡ true → is_out t.out j ≡ nat_le t.second_stage k
  -- the variables of `out` are those of the head
  pub head_set : IsVariableSet t.head
  pub head : ShowsHead t.head t

-- the nodes from a parent on up, of which there may be none
abbrev pub climb_on : (ℕ → List ℕ) → ℕ → Option ℕ → List ℕ
climb_on up j None = j ∷ []
climb_on up j (Some p) = j ∷ up p

-- a node, its parent and so on, at most n steps up
abbrev pub climb : List Node → ℕ → ℕ → List ℕ
climb nodes zero j = j ∷ []
climb nodes (suc n) j = climb_on (climb nodes n) j (parent nodes j)

-- the path from a node to the root, both included: parents have higher numbers, so it has fewer steps than
-- there are nodes
abbrev pub path_of : List Node → ℕ → List ℕ
path_of nodes j = climb nodes (length nodes) j

-- the same if there may be no node to start at
abbrev pub path_or_none : List Node → Option ℕ → List ℕ
path_or_none nodes None = []
path_or_none nodes (Some j) = path_of nodes j

-- children have lower numbers, and a path's next node, if there is one, is a node
abbrev pub IsPlaced : List Node → Option ℕ → Type 0
IsPlaced nodes next = IsRising nodes × ForSome next (λ j. j < length nodes)

-- along the path from j, the nodes below f aren't in `out`, and those from f on are
abbrev pub SplitsPath : Tree → ℕ → ℕ → Type 0
SplitsPath t j f = (k : ℕ) → member k (path_of t.nodes j) ≡ true → is_out t.out k ≡ nat_le f k

-- f is the first node in `out` on the path from j: its lowest ancestor there, or j itself
abbrev pub IsFrontier : Tree → ℕ → ℕ → Type 0
IsFrontier t j f = find (λ k. is_out t.out k) (path_of t.nodes j) ≡ Some f
