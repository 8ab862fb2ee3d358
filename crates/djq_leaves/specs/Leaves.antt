-- What the tables of a tree have to do with a query: its leaves hold what its atoms match.
use Rattle.std.specs.Prelude.{◌≡◌, ◌↔◌, ⊤, ℕ, ◌<◌, List, [], ◌∷◌, length, Some, slice_get}
use Rattle.std.specs.List.{list_any}
use Rattle.djq_model.specs.declared.query.Query.{Query}
use Rattle.djq_model.specs.Data.{Bytes}
use Rattle.djq_hypergraph.specs.Hypergraph.{member}
use Rattle.djq_index.specs.Entries.{Entry, count_of}
use Rattle.djq_tree.specs.Labels.{label_at}
use Rattle.djq_reduct.specs.Tables.{entries_at}
use Rattle.djq_reduct.specs.Reducts.{Reducts, IsReducts}
use Rattle.djq_query.specs.declared.numbered.NumberedTerm.{NumberedTerm}
use Rattle.djq_query.specs.declared.numbered.NumberedTerm.TheVariants.{
  Variable as Number,
  Constant as Fixed,
}
use Rattle.djq_query.specs.declared.numbered.NumberedAtom.{NumberedAtom}
use Rattle.djq_query.specs.declared.numbered.NumberedComparison.{NumberedComparison}
use Rattle.djq_query.specs.Numbered.{Numbered, is_number}
use Rattle.djq_query.specs.Pattern.{Shape, GivesRow, bound, tests_of}
use Rattle.djq_database.specs.Cells.{cell_for, cells_of}
use Rattle.djq_database.specs.Catalog.{Catalog}
use Rattle.djq_leaves.specs.Cells.{AreRowOf}
use Rattle.djq_binder.specs.Asked.{IsAsked, constants_in}

-- There is a cell for each term, and if the term is a constant it is the constant's.
abbrev pub IsCellOf : List Bytes → NumberedTerm → ℕ → Type 0
IsCellOf texts (Number x) cell = ⊤
IsCellOf texts (Fixed v) cell = cell ≡ cell_for texts v

-- Cells are so for terms, one by one.
abbrev pub AreCellsOfTerms : List Bytes → List NumberedTerm → List ℕ → Type 0
AreCellsOfTerms texts [] [] = ⊤
AreCellsOfTerms texts (t ∷ ts) (c ∷ cs) = IsCellOf texts t c × AreCellsOfTerms texts ts cs
AreCellsOfTerms texts [] (c ∷ cs) = ⊥
AreCellsOfTerms texts (t ∷ ts) [] = ⊥

-- the pattern of an atom, whose variables the label has: its tests are the comparisons of these
pub record IsPatternOf (texts : List Bytes) (label : List ℕ) (ks : List NumberedComparison)
    (m : NumberedAtom) (p : Shape) : Type 0 where
  pub variables : (x : ℕ) → member x label ≡ list_any (is_number x) m.terms
  pub width : p.width ≡ length label
  pub cells : List ℕ
  pub are : AreCellsOfTerms texts m.terms cells
  pub slots : p.slots ≡ bound label m.terms cells
  pub tests : p.tests ≡ tests_of label ks (cells_of texts (constants_in ks))

-- a tuple put into the atom gives one of such rows
pub record GivesOne (IsRow : List ℕ → Type 0) (p : Shape) (u : List ℕ) : Type 0 where
  pub cells : List ℕ
  pub row : IsRow cells
  pub gives : GivesRow p u cells

-- A leaf's entries hold the tuples that put into the atom give a row of its relation, and that pass
-- the atom's tests, and no others.
pub record Holds (c : Catalog) (at : ℕ) (p : Shape) (es : List Entry) : Type 0 where
  pub exact : (u : List ℕ) → (0 < count_of es u) ↔ GivesOne (AreRowOf c at) p u

-- the leaf of an atom
pub record IsLeafOf (c : Catalog) (label : List ℕ) (ks : List NumberedComparison)
    (m : NumberedAtom) (p : Shape) (es : List Entry) : Type 0 where
  pub pattern : IsPatternOf c.texts label ks m p
  pub holds : Holds c m.relation p es

-- The reducts are those of the query: their tree has the query's head, and a leaf for each atom.
pub record IsOver (c : Catalog) (q : Query) (n : Numbered) (ps : List Shape) (r : Reducts) :
    Type 0 where
  pub asked : IsAsked c q n
  pub reducts : IsReducts r
  pub head : (x : ℕ) → member x r.tree.head ≡ member x n.head
  pub long : r.tree.leaves ≡ length n.atoms
  pub patterns : length ps ≡ length n.atoms
  pub leaves : (j : ℕ) (m : NumberedAtom) (p : Shape) → slice_get n.atoms j ≡ Some m
      → slice_get ps j ≡ Some p
      → IsLeafOf c (label_at r.tree.labels j) n.comparisons m p (entries_at r.tables j)
