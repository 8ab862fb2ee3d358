-- Reducts, a table for each node of a tree: Idris, Ugarte and Vansummeren (2017).
use Rattle.std.specs.Prelude.{◌≡◌, ℕ, ◌+◌, ◌*◌, ◌<◌, cond, List, [], ◌∷◌, length, slice_index_or}
use Rattle.djq_hypergraph.specs.Hypergraph.{one}
use Rattle.djq_tree.specs.declared.node.Node.{Node}
use Rattle.djq_tree.specs.declared.node.Node.TheVariants.{Leaf, Trim, Meet}
use Rattle.djq_tree.specs.Labels.{label_at}
use Rattle.djq_tree.specs.Tree.{Tree, node_at}
use Rattle.djq_forest.specs.Tuple.{same_tuple, projection, label_columns}

-- a tuple of a table: the slot of its entry, and how many supports it has
pub record TableEntry : Type 0 where
  pub slot : ℕ
  pub tuple : List ℕ
  pub supports : ℕ

-- a tree, and for each of its nodes its table
pub record TreeTables : Type 0 where
  pub tree : Tree
  pub tables : List (List TableEntry)

-- the table of the node with a number
abbrev pub node_table : List (List TableEntry) → ℕ → List TableEntry
node_table ts k = slice_index_or ts k []

-- the supports of the tuple u, 0 if it is absent
unfoldable pub support_sum : List TableEntry → List ℕ → ℕ
support_sum [] u = 0
support_sum (e ∷ es) u = cond (same_tuple e.tuple u) e.supports 0 + support_sum es u

-- how many entries have the tuple u
unfoldable pub tuple_count : List TableEntry → List ℕ → ℕ
tuple_count [] u = 0
tuple_count (e ∷ es) u = one (same_tuple e.tuple u) + tuple_count es u

-- how many entries have the cells w at these columns
unfoldable pub group_count : List ℕ → List TableEntry → List ℕ → ℕ
group_count key [] w = 0
group_count key (e ∷ es) w = one (same_tuple (projection key e.tuple) w) + group_count key es w

-- the places of the variables of the node i in the label of the node j
abbrev pub columns_in : Tree → ℕ → ℕ → List ℕ
columns_in t j i = label_columns (label_at t.labels j) (label_at t.labels i)

-- the table k is the reduct of a node, given those of its children: a leaf's tuples have one support each;
-- a trim has the projections of its child's tuples, and as many supports as the child has tuples there; a
-- meet has its guard's tuples whose projection is in its side's reduct, with one support each
unfoldable pub IsNodeReduct : Tree → Node → List (List TableEntry) → ℕ → Type 0
IsNodeReduct t (Leaf a) ts k = (w : List ℕ) → support_sum (node_table ts k) w ≡ tuple_count (node_table ts k) w
IsNodeReduct t (Trim c) ts k = (w : List ℕ) → support_sum (node_table ts k) w
    ≡ group_count (columns_in t c k) (node_table ts c) w
IsNodeReduct t (Meet g s) ts k = (w : List ℕ) → support_sum (node_table ts k) w
    ≡ tuple_count (node_table ts g) w * tuple_count (node_table ts s) (projection (columns_in t g s) w)

-- what holds of all reducts: each table is its node's reduct
pub record AreReducts (r : TreeTables) : Type 0 where
  pub long : length r.tables ≡ length r.tree.nodes
  pub at : (k : ℕ) → k < length r.tree.nodes → IsNodeReduct r.tree (node_at r.tree.nodes k) r.tables k
