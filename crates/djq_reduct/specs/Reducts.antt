-- Reducts, the tables of a tree: Idris, Ugarte and Vansummeren (2017).
use Rattle.std.specs.Prelude.{◌≡◌, ℕ, ◌*◌, ◌<◌, ◌≤◌, List, length}
use Rattle.djq_index.specs.Tuple.{pick}
use Rattle.djq_index.specs.Entries.{supports_of, count_of, group_size}
use Rattle.djq_index.specs.Table.{Table, IsTable, AreSupported}
use Rattle.djq_tree.specs.declared.node.Node.{Node}
use Rattle.djq_tree.specs.declared.node.Node.TheVariants.{Leaf, Trim, Meet}
use Rattle.djq_tree.specs.Tree.{Tree, IsTree, node_at}
use Rattle.djq_tree.specs.Labels.{label_at}
use Rattle.djq_tree.specs.Keys.{key_of}
use Rattle.djq_reduct.specs.Columns.{columns}
use Rattle.djq_reduct.specs.Tables.{table_at, entries_at, key_at, width_at}
use Rattle.djq_index.specs.declared.cells.TheConstants.{CELLS}

-- a tree, and a table for each of its nodes
pub record Reducts : Type 0 where
  pub tree : Tree
  pub tables : List Table

-- the table k is the reduct of a node, given those of its children: a leaf's tuples have one support each;
-- a trim has the projections of its child's tuples, and as many supports as the child has tuples there; a
-- meet has its guard's tuples whose projection is in its side's reduct, with one support each
unfoldable pub IsReductOf : Node → List Table → ℕ → Type 0
IsReductOf (Leaf a) ts k = (w : List ℕ) → supports_of (entries_at ts k) w ≡ count_of (entries_at ts k) w
IsReductOf (Trim c) ts k = (w : List ℕ) → supports_of (entries_at ts k) w ≡ group_size (key_at ts c) (entries_at ts c) w
IsReductOf (Meet g s) ts k = (w : List ℕ) → supports_of (entries_at ts k) w
    ≡ count_of (entries_at ts g) w * count_of (entries_at ts s) (pick (key_at ts g) w)

-- the table k has a column for each variable of its node's label, and the node's group key
pub record IsKeyed (t : Tree) (ts : List Table) (k : ℕ) : Type 0 where
  pub width : width_at ts k ≡ length (label_at t.labels k)
  pub key : key_at ts k ≡ columns (label_at t.labels k) (key_of t k)

-- no label, and no head, has more variables than a tuple has room for
pub record IsNarrow (t : Tree) : Type 0 where
  pub labels : (k : ℕ) → length (label_at t.labels k) ≤ CELLS
  pub head : length t.head ≤ CELLS

-- these are tables for the nodes of the tree, whatever the one has to do with the other: each with its
-- node's columns and key, and with no tuple that has no support
pub record IsFamily (t : Tree) (ts : List Table) : Type 0 where
  pub is_tree : IsTree t
  pub narrow : IsNarrow t
  pub long : length ts ≡ length t.nodes
  pub sound : (k : ℕ) → IsTable (table_at ts k)
  pub keyed : (k : ℕ) → k < length t.nodes → IsKeyed t ts k
  pub supported : (k : ℕ) → AreSupported (entries_at ts k)

-- from the number `from` on each table is its node's reduct
pub record AreReduced (t : Tree) (ts : List Table) (from : ℕ) : Type 0 where
  pub at : (k : ℕ) → from ≤ k → k < length t.nodes → IsReductOf (node_at t.nodes k) ts k

-- what holds of all reducts: each table is its node's reduct
pub record IsReducts (r : Reducts) : Type 0 where
  pub family : IsFamily r.tree r.tables
  pub reduced : AreReduced r.tree r.tables 0

-- the leaves of one tree hold the same tuples in both
pub record SameLeaves (r s : Reducts) : Type 0 where
  pub same_tree : s.tree ≡ r.tree
  pub same : (j : ℕ) (u : List ℕ) → j < r.tree.leaves → count_of (entries_at s.tables j) u ≡ count_of
      (entries_at r.tables j) u

-- all tables hold the same tuples in both, with the same supports
pub record SameTables (r s : Reducts) : Type 0 where
  pub tuples : (k : ℕ) (u : List ℕ) → count_of (entries_at s.tables k) u ≡ count_of (entries_at r.tables k) u
  pub supports : (k : ℕ) (u : List ℕ) → supports_of (entries_at s.tables k) u ≡ supports_of (entries_at r.tables k) u
