-- How the nodes of a tree are folded into knots, and the table of each node.
use Rattle.std.specs.Prelude.{◌≡◌, ◌⊎◌, ℕ, zero, suc, ◌<◌, Bool, true, false, cond, ◌&&◌, List, [], ◌∷◌, ◌++◌, length}
use Rattle.std.specs.Prelude.{slice_index, slice_index_or, Option, Some, None}
use Rattle.djq_arena.specs.Chains.{AreBelow}
use Rattle.djq_hypergraph.specs.Hypergraph.{member}
use Rattle.djq_tree.specs.declared.node.Node.{Node}
use Rattle.djq_tree.specs.declared.node.Node.TheVariants.{Leaf, Trim, Meet}
use Rattle.djq_tree.specs.Labels.{label_at}
use Rattle.djq_tree.specs.Tree.{Tree, IsTree, node_at}
use Rattle.djq_forest.specs.Forest.{Edge, Forest, nth_knot, nth_edge, list_of}
use Rattle.djq_forest.specs.Shape.{is_need}
use Rattle.djq_forest.specs.Invariants.{gives, IsForest}
use Rattle.djq_forest.specs.Reducts.{TableEntry, TreeTables, AreReducts, columns_in}

-- for each node its knot, and the edges whose giving decides which of the knot's entries are tuples of the node
pub record Fold : Type 0 where
  pub knots : List ℕ
  pub needs : List (List ℕ)

-- the knot of the node j, and its needs
abbrev pub knot_of : Fold → ℕ → ℕ
knot_of o j = slice_index o.knots j

-- the edges that the node j needs
abbrev pub needs_of : Fold → ℕ → List ℕ
needs_of o j = slice_index_or o.needs j []

-- these are all edges that the knot k needs, so what they give is what lives
pub record AreAllNeeds (es : List Edge) (k : ℕ) (ns : List ℕ) : Type 0 where
  pub all : (j : ℕ) → j < length es → is_need k (nth_edge es j) ≡ member j ns
  pub below : AreBelow (length es) ns

-- the edge e feeds the view v, at these columns, by all that lives in the node c's knot
pub record IsFed (f : Forest) (o : Fold) (c e v : ℕ) (columns : List ℕ) : Type 0 where
  pub edge : e < length f.edges
  pub feeds : (nth_edge f.edges e).feeds ≡ true
  pub big : (nth_edge f.edges e).big ≡ knot_of o c
  pub small : (nth_edge f.edges e).small ≡ v
  pub columns_are : (nth_edge f.edges e).columns ≡ columns
  pub whole : AreAllNeeds f.edges (knot_of o c) (needs_of o c)

-- what these needs are met for in the knot k are the node j's tuples: the knot is the node's own, or a view that
-- repeats it
abbrev pub Represents : Tree → Forest → Fold → ℕ → ℕ → List ℕ → Type 0
Represents t f o j k ns = ((k ≡ knot_of o j) × (ns ≡ needs_of o j))
    ⊎ ((e : ℕ) × (ns ≡ e ∷ []) × IsFed f o j e k (columns_in t j j))

-- a trim of the node c is a view that c feeds
abbrev pub IsTrimFold : Tree → Forest → Fold → ℕ → ℕ → Type 0
IsTrimFold t f o k c = (e : ℕ) × IsFed f o c e (knot_of o k) (columns_in t c k) × (needs_of o k ≡ e ∷ [])

-- a meet of the guard g and the side s is the guard's knot, which has the side's knot as its side
pub record HasSide (t : Tree) (f : Forest) (o : Fold) (k g s : ℕ) : Type 0 where
  pub edge : ℕ
  pub within : edge < length f.edges
  pub has : (nth_edge f.edges edge).feeds ≡ false
  pub big : (nth_edge f.edges edge).big ≡ knot_of o g
  pub columns_are : (nth_edge f.edges edge).columns ≡ columns_in t g s
  pub side_needs : List ℕ
  pub side : Represents t f o s (nth_edge f.edges edge).small side_needs
  pub whole : AreAllNeeds f.edges (nth_edge f.edges edge).small side_needs
  pub knot : knot_of o k ≡ knot_of o g
  pub needs : needs_of o k ≡ needs_of o g ++ edge ∷ []

-- or, if their labels are equal, one view is both
pub record IsOne (t : Tree) (f : Forest) (o : Fold) (k g s : ℕ) : Type 0 where
  pub labels : label_at t.labels g ≡ label_at t.labels s
  pub guard_needs : List ℕ
  pub side_needs : List ℕ
  pub guard : Represents t f o g (knot_of o k) guard_needs
  pub side : Represents t f o s (knot_of o k) side_needs
  pub needs : needs_of o k ≡ guard_needs ++ side_needs

-- the forest's knots are those that the tree's nodes are folded into. A leaf's knot has its number
pub record IsFoldOf (t : Tree) (f : Forest) (o : Fold) : Type 0 where
  pub long : length o.knots ≡ length t.nodes
  pub width : (k : ℕ) → k < length t.nodes → (nth_knot f.knots (knot_of o k)).width ≡ length (label_at t.labels k)
  pub leaf : (k a : ℕ) → k < length t.nodes → node_at t.nodes k ≡ Leaf a → (knot_of o k ≡ k) × (needs_of o k ≡ [])
  pub leaf_knot : (k a : ℕ) → k < length t.nodes → node_at t.nodes k ≡ Leaf a
      → (nth_knot f.knots (knot_of o k)).leaf ≡ true
  pub trim : (k c : ℕ) → k < length t.nodes → node_at t.nodes k ≡ Trim c → IsTrimFold t f o k c
  pub meet : (k g s : ℕ) → k < length t.nodes → node_at t.nodes k ≡ Meet g s
      → HasSide t f o k g s ⊎ IsOne t f o k g s

-- whether the entry in slot x is given what these edges give
abbrev pub meets_needs : Forest → List ℕ → ℕ → Bool
meets_needs f [] x = true
meets_needs f (j ∷ js) x = gives f.knots (nth_edge f.edges j) x && meets_needs f js x

-- the supports of the entry in slot x as a tuple of a node: a trim's has as many as feed it
abbrev pub supports_at : Forest → Node → List ℕ → ℕ → ℕ
supports_at f (Trim c) (j ∷ js) x = length (list_of (nth_edge f.edges j) x)
supports_at f n ns x = 1

-- the entries that are tuples of a node, from slot x on, if these are the knot's tuples
abbrev pub entries_from : Forest → Node → List ℕ → ℕ → List (Option (List ℕ)) → List TableEntry
entries_from f n ns x [] = []
entries_from f n ns x (None ∷ us) = entries_from f n ns (suc x) us
entries_from f n ns x (Some u ∷ us) = cond (meets_needs f ns x)
    (record { slot = x; tuple = u; supports = supports_at f n ns x } ∷ entries_from f n ns (suc x) us)
    (entries_from f n ns (suc x) us)

-- the table of the node j
abbrev pub node_entries : Tree → Forest → Fold → ℕ → List TableEntry
node_entries t f o j = entries_from f (node_at t.nodes j) (needs_of o j) 0 (nth_knot f.knots (knot_of o j)).tuples

-- the tables of the first n nodes
abbrev pub tables_of : Tree → Forest → Fold → ℕ → List (List TableEntry)
tables_of t f o zero = []
tables_of t f o (suc n) = tables_of t f o n ++ node_entries t f o n ∷ []

-- the reducts of a forest
abbrev pub reducts_of : Tree → Forest → Fold → TreeTables
reducts_of t f o = record { tree = t; tables = tables_of t f o (length t.nodes) }

-- each forest over a tree represents reducts of it
abbrev pub ForestsAreReducts : Type 0
ForestsAreReducts = (t : Tree) (f : Forest) (o : Fold) → IsTree t → IsForest f → IsFoldOf t f o
    → AreReducts (reducts_of t f o)
