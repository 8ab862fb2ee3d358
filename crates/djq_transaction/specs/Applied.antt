-- What is done to a catalog: the new rows are inserted, and then the other rows that lines name get their copies.
use Rattle.std.specs.Prelude.{ℕ, List, [], ◌≡◌, ◌<◌, false, not, None, All, fold, filter, map, take, length}
use Rattle.djq_model.specs.declared.relation.Relation.{Relation}
use Rattle.djq_model.specs.Data.{Bytes, Tuple, rows_of, has_row, copies_among}
use Rattle.djq_database.specs.Catalog.{Catalog, StandForRow, AreCellsOf, counted_at, with_rows_at}
use Rattle.djq_store_spec.specs.Held.{HeldLine}
use Rattle.djq_transaction.specs.declared.net.Net.{Net}
use Rattle.djq_store_spec.specs.Lines.{first_lines, lines_come, line_comes, with_so_many, with_copies_left, relations_between}
use Rattle.djq_store_spec.specs.Judging.{lines_refusal}
use Rattle.djq_transaction.specs.Net.{IsNet}

-- Lines were judged over relations, and this is their net. The texts are those that are known after them.
pub record IsJudged (relations : List Relation) (texts : List Bytes) (lines : List HeldLine) (net : Net) : Type 0 where
  pub rows : IsNet relations texts net.keys.width lines net
  pub before : List Bytes
  pub passed : lines_refusal relations before lines ≡ None

-- the relations without their rows
abbrev pub headings : List Relation → List Relation
headings relations = map (λ (r : Relation). record r { rows = [] }) relations

-- The row of cells in the relation at a place has so many copies.
pub record HasCopiesAt (c : Catalog) (at : ℕ) (cells : List ℕ) (n : ℕ) : Type 0 where
  pub below : at < length c.relations
  pub stand : AreCellsOf c at cells
  pub copies : (row : Tuple) → StandForRow c at cells row → copies_among (counted_at c.relations at) row ≡ n

-- It has so many copies now, and nothing else has changed.
abbrev pub SetsCopiesAt : Catalog → ℕ → List ℕ → ℕ → List Relation → Type 0
SetsCopiesAt c at cells n relations = (row : Tuple) → StandForRow c at cells row
    → relations ≡ with_rows_at c.relations at (with_so_many (counted_at c.relations at) row n)

-- Of the first so many rows that lines name the new ones are inserted, and they weren't there before.
pub record HasFirst (relations : List Relation) (lines : List HeldLine) (count : ℕ) (c : Catalog) (net : Net)
    : Type 0 where
  pub judged : IsJudged relations c.texts lines net
  pub absent : All (λ h. has_row (rows_of relations h.relation) h.row ≡ false) (lines_come relations lines)
  pub here : c.relations ≡ fold (with_copies_left relations lines) relations
      (filter (line_comes relations lines) (take count (first_lines lines)))

-- All new rows are inserted, and they weren't there before.
pub record HasAllInserted (relations : List Relation) (lines : List HeldLine) (c : Catalog) (net : Net) : Type 0 where
  pub judged : IsJudged relations c.texts lines net
  pub absent : All (λ h. has_row (rows_of relations h.relation) h.row ≡ false) (lines_come relations lines)
  pub here : c.relations ≡ relations_between relations lines

-- And of the first so many rows that lines name the others have the copies that lines leave of them.
pub record HasChangedFirst (relations : List Relation) (lines : List HeldLine) (count : ℕ) (c : Catalog) (net : Net)
    : Type 0 where
  pub judged : IsJudged relations c.texts lines net
  pub here : c.relations ≡ fold (with_copies_left relations lines) (relations_between relations lines)
      (filter (λ h. not (line_comes relations lines h)) (take count (first_lines lines)))
