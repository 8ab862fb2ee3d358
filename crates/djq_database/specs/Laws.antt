-- What holds of cells, texts and relations, whatever catalog they are of.
use Rattle.std.specs.Prelude.{◌≡◌, ◌≢◌, ℕ, ◌<◌, true, List, ◌++◌, length, AllPairs}
use Rattle.djq_model.specs.declared.relation.ColumnType.{ColumnType}
use Rattle.djq_model.specs.declared.relation.Relation.{Relation}
use Rattle.djq_model.specs.declared.relation.CountedRow.{CountedRow}
use Rattle.djq_model.specs.Data.{Bytes, Tuple, bytes_eq, change_first}
use Rattle.djq_model.specs.Typed.{fits}
use Rattle.djq_model.specs.Known.{all_learned}
use Rattle.djq_database.specs.Cells.{cells_of, HaveCells}
use Rattle.djq_database.specs.Catalog.{relation_at, with_rows_at}

-- different rows of the same columns have different cells
abbrev pub CellsDiffer : Type 0
CellsDiffer = (texts : List Bytes) (types : List ColumnType) (row other : Tuple)
    → fits types row ≡ true → fits types other ≡ true → HaveCells texts row → HaveCells texts other
    → cells_of texts row ≡ cells_of texts other → row ≡ other

-- a row that has cells has the same ones once more texts are known
abbrev pub CellsStay : Type 0
CellsStay = (texts more : List Bytes) (row : Tuple) → HaveCells texts row
    → HaveCells (texts ++ more) row × (cells_of (texts ++ more) row ≡ cells_of texts row)

-- what is learned is appended to what was known
abbrev pub TextsStay : Type 0
TextsStay = (texts learned : List Bytes) → (more : List Bytes) × (all_learned texts learned ≡ texts
    ++ more)

-- if names differ, other rows for a name are other rows at its place
abbrev pub NamesTell : Type 0
NamesTell = (relations : List Relation) (at : ℕ) (rows : List CountedRow) → AllPairs (λ r s. r.name ≢
    s.name) relations → at < length relations
    → change_first (λ r. bytes_eq r.name (relation_at relations at).name) (λ r. record r {
      rows =
          rows;
    }) relations ≡ with_rows_at relations at rows
