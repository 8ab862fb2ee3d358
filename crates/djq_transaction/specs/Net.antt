-- The rows that lines name, each once, found by a key: the place of the relation, the row's cells, and zeros.
use Rattle.std.specs.Prelude.{ℕ, List, [], ◌∷◌, ◌≡◌, ◌+◌, ◌-◌, ◌++◌, ◌==◌, ◌&&◌, ◌<◌, ◌≤◌, Bool, true, length, map}
use Rattle.std.specs.Prelude.{replicate, slice_get, slice_set, Contains, nat_lt, All, pred, Option, None, Some}
use Rattle.std.specs.List.{position_or_len}
use Rattle.djq_model.specs.declared.relation.Relation.{Relation}
use Rattle.djq_model.specs.Data.{Bytes, Tuple, bytes_eq, relation_of, copies_among}
use Rattle.djq_model.specs.Typed.{fits}
use Rattle.djq_arena.specs.Rows.{Row}
use Rattle.djq_arena.specs.declared.link.TheConstants.{SLOTS}
use Rattle.djq_database.specs.Cells.{HaveCells, cells_of}
use Rattle.djq_database.specs.Catalog.{Catalog, StandForRow, relation_at, counted_at}
use Rattle.djq_transaction.specs.declared.key.TheConstants.{KEY_CELLS}
use Rattle.djq_protocol.specs.declared.held.Verb.{Verb}
use Rattle.djq_store_spec.specs.Held.{HeldLine}
use Rattle.djq_transaction.specs.declared.net.Copies.{Copies}
use Rattle.djq_transaction.specs.declared.net.Net.{Net}
use Rattle.djq_protocol.specs.declared.held.LineRefusal.{LineRefusal}
use Rattle.djq_store_spec.specs.Judging.{StopsAtLine, HasItsPlace}
use Rattle.djq_store_spec.specs.Lines.{first_lines, copies_before, copies_after}

-- the keys that are there, in order of insertion
abbrev pub keys : Net → List (List ℕ)
keys net = map (λ (r : Row). r.cells) net.keys.rows

-- keys in the slots from a number on
unfoldable pub in_slots : ℕ → List (List ℕ) → List Row
in_slots n [] = []
in_slots n (k ∷ ks) = record { slot = n; cells = k } ∷ in_slots (n + 1) ks

-- Each key lies in the slot of its place, and has copies there.
pub record IsNetTable (width : ℕ) (net : Net) : Type 0 where
  pub rows : net.keys.rows ≡ in_slots 0 (keys net)
  pub room : net.keys.room ≡ length (keys net)
  pub wide : net.keys.width ≡ width
  pub long : length net.copies.items ≡ length (keys net)

-- the key of a row with these cells in the relation at a place
abbrev pub key_cells : ℕ → ℕ → List ℕ → List ℕ
key_cells width place cells = place ∷ cells ++ replicate (pred width - length cells) 0

-- the place of the relation that a key begins with
abbrev pub key_relation : List ℕ → ℕ
key_relation [] = 0
key_relation (place ∷ cells) = place

-- an entry in place of one past a table's last
abbrev pub no_entry : List ℕ × Copies
no_entry = ([], record { before = 0; after = 0 })

-- whether a row, by its key and its copies, is one of the relation at a place that wasn't there before
abbrev pub is_new_in : ℕ → List ℕ × Copies → Bool
is_new_in place entry = (key_relation entry.0 == place) && (entry.1.before == 0)

-- whether a row with these copies is inserted, and whether it is deleted
abbrev pub copies_came : Copies → Bool
copies_came c = (c.before == 0) && nat_lt 0 c.after

abbrev pub copies_went : Copies → Bool
copies_went c = nat_lt 0 c.before && (c.after == 0)

-- the place of a relation
abbrev pub relation_place : List Relation → Bytes → ℕ
relation_place relations name = position_or_len (λ r. bytes_eq r.name name) relations

-- the key of a line's row
abbrev pub row_key : List Relation → List Bytes → ℕ → HeldLine → List ℕ
row_key relations texts width h =
    key_cells width (relation_place relations h.relation) (cells_of texts h.row)

-- the copies of a line's row, before all lines and after them
abbrev pub copies_by : List Relation → List HeldLine → HeldLine → Copies
copies_by relations lines h = record {
  before = copies_before relations h;
  after = copies_after relations lines h;
}

-- A line's row suits the relation that it names.
pub record Suits (relations : List Relation) (h : HeldLine) : Type 0 where
  pub relation : Relation
  pub found : relation_of relations h.relation ≡ Some relation
  pub suits : fits relation.types h.row ≡ true

-- The row of cells is looked up by its key: it has a place and copies in a table; or none, and has
-- the copies of its relation.
abbrev pub LooksUp : Catalog → ℕ → List ℕ → ℕ → Net → Option ℕ → Copies → Type 0
LooksUp c at cells width net (Some place) copies = (slice_get (keys net) place ≡ Some (key_cells width at cells))
    × (slice_get net.copies.items place ≡ Some copies)
LooksUp c at cells width net None copies = (Contains (keys net) (key_cells width at cells) → ⊥)
    × (copies.after ≡ copies.before)
    × ((row : Tuple) → StandForRow c at cells row → copies.before ≡ copies_among (counted_at c.relations at) row)

-- A key that was looked up has its copies in a table: at its place, or at a new one after the others.
abbrev pub SetsCopies : ℕ → List ℕ → Net → Option ℕ → Copies → Net → Type 0
SetsCopies width key old (Some place) copies new = IsNetTable width new × (keys new ≡ keys old)
    × (new.copies.items ≡ slice_set old.copies.items place copies)
SetsCopies width key old None copies new = IsNetTable width new × (keys new ≡ keys old ++ key ∷ [])
    × (new.copies.items ≡ old.copies.items ++ copies ∷ [])

-- Rows, each by the line that names it first, are in a table with their copies before lines and after them.
pub record RowsStand (relations : List Relation) (texts : List Bytes) (width : ℕ) (lines firsts : List HeldLine)
    (net : Net) : Type 0 where
  pub table : IsNetTable width net
  pub key : keys net ≡ map (row_key relations texts width) firsts
  pub copies : net.copies.items ≡ map (copies_by relations lines) firsts
  pub known : All (λ h. HaveCells texts h.row) firsts
  pub suit : All (Suits relations) firsts

-- The net of lines: the table has the rows that they name.
abbrev pub IsNet : List Relation → List Bytes → ℕ → List HeldLine → Net → Type 0
IsNet relations texts width lines net = RowsStand relations texts width lines (first_lines lines) net

-- a line of a row of the relation at a place
abbrev pub line_at : Verb → List Relation → ℕ → Tuple → HeldLine
line_at verb relations at row = record {
  verb = verb;
  relation = (relation_at relations at).name;
  row = row;
}

-- A line's row suits the relation at a place under the line's name.
pub record SuitsAt (relations : List Relation) (h : HeldLine) (at : ℕ) : Type 0 where
  pub below : at < length relations
  pub named : (relation_at relations at).name ≡ h.relation
  pub found : relation_of relations h.relation ≡ Some (relation_at relations at)
  pub suits : fits (relation_at relations at).types h.row ≡ true

-- A line can be judged: its relation is at a place, its row's cells and its key are short enough, and
-- there is a slot for one key more.
pub record CanBeJudged (relations : List Relation) (width : ℕ) (net : Net) (h : HeldLine) (at : ℕ) : Type 0 where
  pub suits : SuitsAt relations h at
  pub wide : 1 + length h.row ≤ width
  pub narrow : width ≤ KEY_CELLS
  pub table : IsNetTable width net
  pub few : length (keys net) < SLOTS

-- Over whatever lines a table has, it has one more.
abbrev pub PassesLine : List Relation → List Bytes → ℕ → Net → HeldLine → List Bytes → Net → Type 0
PassesLine relations texts width old h known new = (front : List HeldLine)
    → IsNet relations texts width front old
    → IsNet relations known width (front ++ h ∷ []) new × HasItsPlace relations front texts h known

-- A line is refused after whatever lines a table has.
abbrev pub RefusesLine : List Relation → List Bytes → ℕ → Net → HeldLine → List Bytes → LineRefusal → Type 0
RefusesLine relations texts width old h known r = (front : List HeldLine)
    → IsNet relations texts width front old → StopsAtLine relations front texts h known r

-- A line's row has these cells in the relation at a place under the line's name.
pub record IsRowAt (c : Catalog) (h : HeldLine) (at : ℕ) (cells : List ℕ) : Type 0 where
  pub suits : Suits c.relations h
  pub below : at < length c.relations
  pub named : (relation_at c.relations at).name ≡ h.relation
  pub found : relation_of c.relations h.relation ≡ Some (relation_at c.relations at)
  pub stand : StandForRow c at cells h.row
