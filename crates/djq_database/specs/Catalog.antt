-- What contracts see of a catalog: its relations with their rows, and the known texts.
use Rattle.std.specs.Prelude.{
  ◌≡◌,
  ◌≢◌,
  ℕ,
  ◌<◌,
  ◌≤◌,
  true,
  List,
  [],
  length,
  slice_index_or,
  slice_set,
  All,
  AllPairs,
}
use Rattle.djq_model.specs.declared.relation.Relation.{Relation}
use Rattle.djq_model.specs.declared.relation.CountedRow.{CountedRow}
use Rattle.djq_model.specs.Data.{Bytes, Tuple, tuples_in}
use Rattle.djq_model.specs.Answer.{AreDifferent}
use Rattle.djq_model.specs.Typed.{fits}
use Rattle.djq_protocol.specs.declared.limits.TheConstants.{COLUMNS, RELATIONS, ROWS, COPIES}
use Rattle.djq_dictionary.specs.declared.dict.TheConstants.{MOST_TEXTS}
use Rattle.djq_database.specs.Cells.{HaveCells, StandFor, AreCells}

-- the relations with their rows, and the known texts
pub record Catalog : Type 0 where
  -- in the order in which they were made
  pub relations : List Relation
  -- a text's number is its place
  pub texts : List Bytes

-- a relation in place of one past the last
abbrev pub no_relation : Relation
no_relation = record { name = []; types = []; rows = [] }

-- the relation at a place
abbrev pub relation_at : List Relation → ℕ → Relation
relation_at relations at = slice_index_or relations at no_relation

-- its rows with their copies
abbrev pub counted_at : List Relation → ℕ → List CountedRow
counted_at relations at = (relation_at relations at).rows

-- its rows, each once
abbrev pub rows_at : List Relation → ℕ → List Tuple
rows_at relations at = tuples_in (relation_at relations at)

-- the cells represent the row, in the columns of the relation at a place
abbrev pub StandForRow : Catalog → ℕ → List ℕ → Tuple → Type 0
StandForRow c at cells row = StandFor c.texts (relation_at c.relations at).types cells row

-- they represent some row
abbrev pub AreCellsOf : Catalog → ℕ → List ℕ → Type 0
AreCellsOf c at cells = AreCells c.texts (relation_at c.relations at).types cells

-- the relations with other rows in the one at a place
abbrev pub with_rows_at : List Relation → ℕ → List CountedRow → List Relation
with_rows_at relations at rows =
    slice_set relations at (let r = relation_at relations at in record r { rows = rows })

-- A row has a copy at least, and no more than there may be.
abbrev pub CopiesAreInRange : CountedRow → Type 0
CopiesAreInRange c = (1 ≤ c.copies) × (c.copies ≤ COPIES)

-- A relation has a column at least. Its rows suit its columns, differ, have cells, and are within
-- the limit, and so are the copies of each.
pub record IsKeptRelation (texts : List Bytes) (r : Relation) : Type 0 where
  pub some : 0 < length r.types
  pub narrow : length r.types ≤ COLUMNS
  pub typed : All (λ row. fits r.types row ≡ true) (tuples_in r)
  pub differ : AreDifferent (tuples_in r)
  pub cells : All (HaveCells texts) (tuples_in r)
  pub few : length (tuples_in r) ≤ ROWS
  pub counted : All CopiesAreInRange r.rows

-- what holds of every catalog
pub record IsCatalog (c : Catalog) : Type 0 where
  pub few : length c.relations ≤ RELATIONS
  pub names : AllPairs (λ r s. r.name ≢ s.name) c.relations
  pub kept : All (IsKeptRelation c.texts) c.relations
  pub many : length c.texts ≤ MOST_TEXTS
  pub texts : AllPairs (λ s t. s ≢ t) c.texts
