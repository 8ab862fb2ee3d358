-- The rows of a relation, in cells, with their copies: the rows of an arena, and beside them an array of
-- copies by slot.
use Rattle.std.specs.Prelude.{ℕ, ◌≤◌, false, List, map, length, slice_index_or, Option, Some, None}
use Rattle.djq_arena.specs.Rows.{Row, SlotRows, AreRows}
use Rattle.djq_index.specs.declared.place.Place.{Place}
use Rattle.djq_index.specs.Entries.{Entry}
use Rattle.djq_index.specs.Table.{TuplesDiffer}

-- how many cells each row has, and the rows as entries, the oldest first: the supports of each are its
-- copies, and none is marked
pub record Rows : Type 0 where
  pub width : ℕ
  pub entries : List Entry

-- the copies of the row in a slot
abbrev pub copies_at : List ℕ → ℕ → ℕ
copies_at copies slot = slice_index_or copies slot 0

-- a row with its copies
unfoldable pub entry_with_copies : List ℕ → Row → Entry
entry_with_copies copies r = record {
  at = record { slot = r.slot };
  tuple = r.cells;
  supports = copies_at copies r.slot;
  marked = false;
}

-- rows, each with its copies
unfoldable pub entries_with_copies : List ℕ → List Row → List Entry
entries_with_copies copies rows = map (entry_with_copies copies) rows

-- the place of a slot
abbrev pub row_place : ℕ → Place
row_place slot = record { slot = slot }

-- the place of a slot, if there is one
abbrev pub row_place_of : Option ℕ → Option Place
row_place_of None = None
row_place_of (Some slot) = Some (row_place slot)

-- each slot has copies, and no row occurs twice
pub record CopiesAreKept (slots : SlotRows) (copies : List ℕ) : Type 0 where
  pub rows : AreRows slots
  pub copied : slots.room ≤ length copies
  pub apart : TuplesDiffer (entries_with_copies copies slots.rows)
