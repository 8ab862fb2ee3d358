-- How a query is built: its atoms are bound, and its leaves filled.
use Rattle.std.specs.Prelude.{◌≡◌, ◌≢◌, ℕ, ◌+◌, ◌<◌, ◌≤◌, List, ◌++◌, length, Some, slice_get, map}
use Rattle.std.specs.List.{list_any}
use Rattle.djq_model.specs.Data.{Bytes}
use Rattle.djq_hypergraph.specs.Hypergraph.{member}
use Rattle.djq_index.specs.Entries.{count_of}
use Rattle.djq_tree.specs.Labels.{label_at}
use Rattle.djq_tree.specs.Tree.{Tree}
use Rattle.djq_reduct.specs.Tables.{entries_at}
use Rattle.djq_reduct.specs.Reducts.{Reducts}
use Rattle.djq_reduct.specs.Marks.{IsBare}
use Rattle.djq_query.specs.declared.numbered.NumberedAtom.{NumberedAtom}
use Rattle.djq_query.specs.declared.numbered.NumberedComparison.{NumberedComparison}
use Rattle.djq_query.specs.Numbered.{is_number}
use Rattle.djq_query.specs.Pattern.{Shape}
use Rattle.djq_database.specs.Cells.{HaveCells, cells_of}
use Rattle.djq_database.specs.Catalog.{Catalog, relation_at, rows_at}
use Rattle.djq_binder.specs.Asked.{HaveConstants, constants_in}
use Rattle.djq_leaves.specs.Leaves.{IsPatternOf, Holds}
use Rattle.djq_leaves.specs.Changes.{GainsTuple, KeepsTuples, HoldsThese}
use Rattle.djq_index.specs.declared.cells.TheConstants.{CELLS}

-- what is at a place in two lists
abbrev pub AtBoth : {A B : Type 0} → (ℕ → A → B → Type 0) → List A → List B → Type 0
AtBoth {A} {B} P xs ys = (j : ℕ) (x : A) (y : B) → slice_get xs j ≡ Some x → slice_get ys j ≡ Some y
    → P j x y

-- the patterns of the first atoms, over the labels of their leaves
pub record ArePatternsOf (texts : List Bytes) (labels : List (List ℕ))
    (ks : List NumberedComparison) (atoms : List NumberedAtom) (ps : List Shape) : Type 0 where
  pub few : length ps ≤ length atoms
  pub each : AtBoth (λ j m p. IsPatternOf texts (label_at labels j) ks m p) atoms ps

-- The leaves of atoms whose constants have cells: each has the atom's variables, of which there are
-- few. The constants of comparisons have cells, too.
pub record AreBindable (texts : List Bytes) (t : Tree) (ks : List NumberedComparison)
    (atoms : List NumberedAtom) : Type 0 where
  pub leaves : length atoms ≤ length t.nodes
  pub constants : (j : ℕ) (m : NumberedAtom) → slice_get atoms j ≡ Some m
      → HaveConstants texts m.terms
  pub compared : HaveCells texts (constants_in ks)
  pub labels : (j : ℕ) (m : NumberedAtom) → slice_get atoms j ≡ Some m → (x : ℕ)
      → member x (label_at t.labels j) ≡ list_any (is_number x) m.terms
  pub narrow : (j : ℕ) → length (label_at t.labels j) ≤ CELLS

-- a pattern over a label, for a relation that is there
pub record SuitsRelation (c : Catalog) (label : List ℕ) (at : ℕ) (p : Shape) : Type 0 where
  pub there : at < length c.relations
  pub width : p.width ≡ length label
  pub columns : length p.slots ≡ length (relation_at c.relations at).types

-- the cells of a relation's rows
abbrev pub relation_cells : Catalog → ℕ → List (List ℕ)
relation_cells c at = map (cells_of c.texts) (rows_at c.relations at)

-- a row was inserted into a leaf, and no other leaf changed what it holds
pub record TakesRow (p : Shape) (leaf : ℕ) (cells : List ℕ) (old new : Reducts) : Type 0 where
  pub tree : new.tree ≡ old.tree
  pub bare : IsBare new.tables
  pub gains : GainsTuple p cells (entries_at old.tables leaf) (entries_at new.tables leaf)
  pub grows : length (entries_at new.tables leaf) ≤ length (entries_at old.tables leaf) + 1
  pub others : (j : ℕ) → j < old.tree.leaves → j ≢ leaf
      → KeepsTuples (entries_at old.tables j) (entries_at new.tables j)

-- the first of a relation's rows were inserted into a leaf, up to those that are left
pub record LeafHasTaken (c : Catalog) (at : ℕ) (p : Shape) (leaf : ℕ) (left : List (List ℕ))
    (old new : Reducts) : Type 0 where
  pub done : List (List ℕ)
  pub parts : relation_cells c at ≡ done ++ left
  pub holds : HoldsThese done p (entries_at new.tables leaf)
  pub few : length (entries_at new.tables leaf) ≤ length done
  pub tree : new.tree ≡ old.tree
  pub bare : IsBare new.tables
  pub others : (j : ℕ) → j < old.tree.leaves → j ≢ leaf
      → KeepsTuples (entries_at old.tables j) (entries_at new.tables j)

-- a leaf is filled with a relation's rows, and no other leaf changed what it holds
pub record IsFilled (c : Catalog) (at : ℕ) (p : Shape) (leaf : ℕ) (old new : Reducts) : Type 0
  where
    pub holds : Holds c at p (entries_at new.tables leaf)
    pub tree : new.tree ≡ old.tree
    pub bare : IsBare new.tables
    pub others : (j : ℕ) → j < old.tree.leaves → j ≢ leaf
        → KeepsTuples (entries_at old.tables j) (entries_at new.tables j)

-- the leaves below a number are filled, and those from it on are empty
pub record AreFilled (c : Catalog) (atoms : List NumberedAtom) (ps : List Shape) (upto : ℕ)
    (old new : Reducts) : Type 0 where
  pub tree : new.tree ≡ old.tree
  pub bare : IsBare new.tables
  pub filled : AtBoth (λ j m p. j < upto → Holds c m.relation p (entries_at new.tables j)) atoms ps
  pub empty : (j : ℕ) → upto ≤ j → j < old.tree.leaves → (u : List ℕ)
      → count_of (entries_at new.tables j) u ≡ 0
