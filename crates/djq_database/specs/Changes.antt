-- What each call does to a catalog, by what it answers.
use Rattle.std.specs.Prelude.{
  ◌≡◌,
  ℕ,
  ◌+◌,
  ◌≤◌,
  ◌<◌,
  Bool,
  true,
  false,
  List,
  [],
  ◌∷◌,
  ◌++◌,
  length,
  Option,
  Some,
  None,
  is_some,
  Result,
  Ok,
  Err,
}
use Rattle.djq_model.specs.declared.value.Value.{Value}
use Rattle.djq_model.specs.declared.relation.ColumnType.{ColumnType}
use Rattle.djq_model.specs.declared.relation.Relation.{Relation}
use Rattle.djq_model.specs.Data.{
  Bytes,
  Tuple,
  relation_of,
  has_row,
  copies_among,
  with_row,
  with_copies,
  without_copies,
}
use Rattle.djq_model.specs.Known.{texts_of, texts_in, knows, knows_all, all_learned}
use Rattle.djq_protocol.specs.declared.limits.TheConstants.{RELATIONS, ROWS, COPIES}
use Rattle.djq_protocol.specs.declared.answer.AddOutcome.{AddOutcome}
use Rattle.djq_protocol.specs.declared.answer.AddOutcome.TheVariants.{First, More}
use Rattle.djq_protocol.specs.declared.answer.DeleteOutcome.{DeleteOutcome}
use Rattle.djq_protocol.specs.declared.answer.DeleteOutcome.TheVariants.{Last, Left, Absent}
use Rattle.djq_dictionary.specs.declared.dict.TheConstants.{MOST_TEXTS}
use Rattle.djq_dictionary.specs.declared.refusal.InternRefusal.{InternRefusal}
use Rattle.djq_dictionary.specs.declared.refusal.InternRefusal.TheVariants.{
  Full as TextsFull,
  NoMem as
      NoMemForTexts,
}
use Rattle.djq_database.specs.declared.refusal.RowsRefusal.{RowsRefusal}
use Rattle.djq_database.specs.declared.refusal.RowsRefusal.TheVariants.{NameTaken, Full, NoMem}
use Rattle.djq_database.specs.declared.relation_id.RelationId.{RelationId}
use Rattle.djq_database.specs.Cells.{HasCell, HaveCells, cell_for, cells_of}
use Rattle.djq_database.specs.Catalog.{relation_at, counted_at, rows_at, with_rows_at}

-- A relation without rows is appended to the others; or its name is in use, or, if it isn't, there
-- are as many as there may be, or no memory, and nothing changes.
abbrev pub MakesRelationAt : List Relation → Bytes → List ColumnType → Result RelationId RowsRefusal →
    List Relation → Type 0
MakesRelationAt old name types (Ok id) new =
    (relation_of old name ≡ None) × (length old < RELATIONS) × (id.at ≡ length old)
    × (new ≡ old ++ record { name = name; types = types; rows = [] } ∷ [])
MakesRelationAt old name types (Err NameTaken) new = (is_some (relation_of old name) ≡ true) × (new ≡
    old)
MakesRelationAt old name types (Err Full) new =
    (relation_of old name ≡ None) × (RELATIONS ≤ length old) × (new ≡ old)
MakesRelationAt old name types (Err NoMem) new =
    (relation_of old name ≡ None) × (length old < RELATIONS) × (new ≡ old)

-- There is no place for one more: the row has as many copies as there may be, or it isn't there and
-- there are as many rows as there may be.
pub record HasNoPlace (relations : List Relation) (at : ℕ) (row : Tuple) : Type 0 where
  pub copies : has_row (rows_at relations at) row ≡ true
      → COPIES ≤ copies_among (counted_at relations at) row
  pub rows : has_row (rows_at relations at) row ≡ false → ROWS ≤ length (rows_at relations at)

-- A row that isn't there is appended to the others of its relation, with one copy; one that is has
-- a copy more, and nothing else changes. It is refused if there is no place; else only a new one,
-- for want of memory.
abbrev pub AddsRowAt : List Relation → ℕ → Tuple → Result AddOutcome RowsRefusal → List Relation →
    Type 0
AddsRowAt old at row (Ok First) new =
    (has_row (rows_at old at) row ≡ false) × (length (rows_at old at) < ROWS)
    × (new ≡ with_rows_at old at (with_row (counted_at old at) row))
AddsRowAt old at row (Ok (More n)) new =
    (has_row (rows_at old at) row ≡ true) × (n ≡ copies_among (counted_at old at) row + 1)
    × (n ≤ COPIES) × (new ≡ with_rows_at old at (with_copies (counted_at old at) row n))
AddsRowAt old at row (Err NameTaken) new = ⊥
AddsRowAt old at row (Err Full) new = HasNoPlace old at row × (new ≡ old)
AddsRowAt old at row (Err NoMem) new =
    (has_row (rows_at old at) row ≡ false) × (length (rows_at old at) < ROWS) × (new ≡ old)

-- A row with one copy is deleted; one with several has a copy less, and nothing else changes; one
-- that isn't there changes nothing.
abbrev pub DeletesRowAt : List Relation → ℕ → Tuple → DeleteOutcome → List Relation → Type 0
DeletesRowAt old at row Last new =
    (has_row (rows_at old at) row ≡ true) × (copies_among (counted_at old at) row ≡ 1)
    × (new ≡ with_rows_at old at (without_copies (counted_at old at) row))
DeletesRowAt old at row (Left n) new =
    (has_row (rows_at old at) row ≡ true) × (copies_among (counted_at old at) row ≡ n + 1)
    × (1 ≤ n) × (new ≡ with_rows_at old at (with_copies (counted_at old at) row n))
DeletesRowAt old at row Absent new = (has_row (rows_at old at) row ≡ false) × (new ≡ old)

-- The first of these texts have become known, but not all.
pub record LearnsSome (old : List Bytes) (texts : List Bytes) (new : List Bytes) : Type 0 where
  pub first : List Bytes
  pub rest : List Bytes
  pub parts : texts ≡ first ++ rest
  pub some : 0 < length rest
  pub learned : new ≡ all_learned old first

-- The next of these texts isn't known, and as many are as may be.
pub record FindsNoPlaceFor (old : List Bytes) (texts : List Bytes) (new : List Bytes) : Type 0 where
  pub first : List Bytes
  pub next : Bytes
  pub rest : List Bytes
  pub parts : texts ≡ first ++ next ∷ rest
  pub learned : new ≡ all_learned old first
  pub unknown : knows new next ≡ false
  pub full : length new ≡ MOST_TEXTS

-- A value's text becomes known, and its cell is returned; or there are as many texts as there may
-- be, or no memory, and nothing changes.
abbrev pub InternsValue : List Bytes → Value → Result ℕ InternRefusal → List Bytes → Type 0
InternsValue old value (Ok cell) new = (new ≡ all_learned old (texts_of value))
    × HasCell new value × (cell ≡ cell_for new value)
InternsValue old value (Err TextsFull) new =
    (knows_all old (texts_of value) ≡ false) × (length old ≡ MOST_TEXTS) × (new ≡ old)
InternsValue old value (Err NoMemForTexts) new = (knows_all old (texts_of value) ≡ false) × (new ≡
    old)

-- The texts of a row become known, in order, and its cells are returned. If they would be more than
-- there may be, or for want of memory, only the first of them do.
abbrev pub InternsRow : List Bytes → Tuple → Result (List ℕ) InternRefusal → List Bytes → Type 0
InternsRow old row (Ok cells) new = (new ≡ all_learned old (texts_in row))
    × HaveCells new row × (cells ≡ cells_of new row)
InternsRow old row (Err TextsFull) new =
    (MOST_TEXTS < length (all_learned old (texts_in row))) × FindsNoPlaceFor old (texts_in row) new
InternsRow old row (Err NoMemForTexts) new = LearnsSome old (texts_in row) new

-- The cell of a value that isn't an unknown text is returned, and none of one that is.
abbrev pub TellsCell : List Bytes → Value → Option ℕ → Type 0
TellsCell texts value None = knows_all texts (texts_of value) ≡ false
TellsCell texts value (Some cell) = HasCell texts value × (cell ≡ cell_for texts value)

-- The cells of a row whose texts are all known are returned, and none if they aren't.
abbrev pub TellsRowCells : List Bytes → Tuple → Option (List ℕ) → Type 0
TellsRowCells texts row None = knows_all texts (texts_in row) ≡ false
TellsRowCells texts row (Some cells) = HaveCells texts row × (cells ≡ cells_of texts row)

-- Cells that were written are returned, if the call reports so.
abbrev pub told_cells : Bool → List ℕ → Option (List ℕ)
told_cells true cells = Some cells
told_cells false cells = None

-- Cells that were written are the result, if there is no error.
abbrev pub given_cells : {E : Type 0} → Result Unit E → List ℕ → Result (List ℕ) E
given_cells (Ok u) cells = Ok cells
given_cells (Err e) cells = Err e

-- The relation of a name is returned, and none if no relation has it.
abbrev pub FindsRelation : List Relation → Bytes → Option RelationId → Type 0
FindsRelation relations name None = relation_of relations name ≡ None
FindsRelation relations name (Some id) = (id.at < length relations)
    × ((relation_at relations id.at).name ≡ name)
    × (relation_of relations name ≡ Some (relation_at relations id.at))
