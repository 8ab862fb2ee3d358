-- What it means that cells satisfy an atom, and that they pass a comparison.
use Rattle.std.specs.Prelude.{◌≡◌, ℕ, true, List, Contains, map}
use Rattle.djq_model.specs.Data.{Bytes, Tuple}
use Rattle.djq_query.specs.declared.numbered.NumberedTerm.{NumberedTerm}
use Rattle.djq_query.specs.declared.numbered.NumberedTerm.TheVariants.{
  Variable as Number,
  Constant as Fixed,
}
use Rattle.djq_query.specs.declared.numbered.NumberedAtom.{NumberedAtom}
use Rattle.djq_query.specs.declared.numbered.NumberedComparison.{NumberedComparison}
use Rattle.djq_query.specs.Pattern.{passes}
use Rattle.djq_database.specs.Cells.{cell_for, cells_of}
use Rattle.djq_database.specs.Catalog.{Catalog, rows_at}

-- An assignment of cells gives a cell to each variable, by its number.
abbrev pub CellAssignment : Type 0
CellAssignment = ℕ → ℕ

-- the cells are those of a row of the relation at a place
pub record AreRowOf (c : Catalog) (at : ℕ) (cells : List ℕ) : Type 0 where
  pub row : Tuple
  pub there : Contains (rows_at c.relations at) row
  pub are : cells ≡ cells_of c.texts row

-- the cell of a term
abbrev pub cell_under : List Bytes → CellAssignment → NumberedTerm → ℕ
cell_under texts a (Number x) = a x
cell_under texts a (Fixed v) = cell_for texts v

-- An assignment satisfies an atom if the cells of its terms are those of a row of its relation.
abbrev pub IsSatisfied : Catalog → CellAssignment → NumberedAtom → Type 0
IsSatisfied c a m = AreRowOf c m.relation (map (cell_under c.texts a) m.terms)

-- An assignment passes a comparison if the operator holds of the cell of its variable and that of
-- its constant.
abbrev pub IsPassed : List Bytes → CellAssignment → NumberedComparison → Type 0
IsPassed texts a k = passes k.operator (a k.variable) (cell_for texts k.constant) ≡ true
