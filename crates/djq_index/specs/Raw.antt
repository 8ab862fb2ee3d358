-- A table's parts: its tuples as the rows of an arena, a note for each slot, and for each group a head.
use Rattle.std.specs.Prelude.{◌≡◌, ◌≢◌, ◌⊎◌, ⊤, ℕ, ◌+◌, ◌<◌, ◌≤◌, ◌==◌, Bool, true, false, cond, List}
use Rattle.std.specs.Prelude.{[], ◌∷◌, ◌++◌, map, length, slice_index, slice_index_or, slice_set, max}
use Rattle.std.specs.Prelude.{Option, Some, None}
use Rattle.djq_arena.specs.declared.chain.Pair.{Pair}
use Rattle.djq_arena.specs.declared.chain.Ends.{Ends}
use Rattle.djq_arena.specs.Rows.{Row, SlotRows, AreRows, IsAbsent, IsRow, IsFull}
use Rattle.djq_arena.specs.Chains.{Linked, first_of, pair_at, entered}
use Rattle.djq_arena.specs.Store.{ends_of, extended, beside}
use Rattle.djq_index.specs.declared.place.Place.{Place}
use Rattle.djq_index.specs.declared.kind.Kind.{Kind}
use Rattle.djq_index.specs.declared.kind.Kind.TheVariants.{One, Keyed, Each}
use Rattle.djq_index.specs.declared.raw.Note.{Note}
use Rattle.djq_index.specs.declared.raw.Raw.{Raw}
use Rattle.djq_index.specs.Tuple.{pick}
use Rattle.djq_index.specs.Entries.{Entry, group_size, group_of, marks}
use Rattle.djq_index.specs.Table.{TuplesDiffer, AreColumns}
use Rattle.djq_arena.specs.declared.link.TheConstants.{SLOTS}

-- the note of a slot
abbrev pub note_at : List Note → ℕ → Note
note_at notes i = slice_index_or notes i (record { supports = 0; head = 0; marked = false })

-- a row with its note
unfoldable pub entry_of : List Note → Row → Entry
entry_of notes r = record {
  at = record { slot = r.slot };
  tuple = r.cells;
  supports = (note_at notes r.slot).supports;
  marked =
      (note_at notes r.slot).marked;
}

-- rows, each with its note
unfoldable pub entries_in : List Note → List Row → List Entry
entries_in notes rows = map (entry_of notes) rows

-- all entries of a table: its rows, each with its note
abbrev pub entries_of : Raw → List Entry
entries_of r = entries_in r.notes.items r.rows.rows

-- the slots of entries
unfoldable pub slots_at : List Entry → List ℕ
slots_at es = map (λ e. e.at.slot) es

-- the cells of the row in a slot
unfoldable pub row_at : List Row → ℕ → Option (List ℕ)
row_at [] i = None
row_at (r ∷ rs) i = cond (r.slot == i) (Some r.cells) (row_at rs i)

-- each entry's note names the head of its group
unfoldable pub AreSeated : List ℕ → List Note → List Row → List Entry → Type 0
AreSeated key notes keys [] = ⊤
AreSeated key notes keys (e ∷ es) = (row_at keys (note_at notes e.at.slot).head ≡ Some (pick key e.tuple))
    × AreSeated key notes keys es

-- the ends of a head's group
abbrev pub ends_at : List Ends → ℕ → Ends
ends_at ends h = slice_index_or ends h (record { first = None; last = None })

-- each group that has a tuple has one head, which knows its ends; each group is chained
pub record AreGroups (key : List ℕ) (notes : List Note) (links : List Pair) (keys : List Row) (ends : List Ends)
    (es : List Entry) : Type 0 where
  pub chained : (w : List ℕ) → Linked links None (slots_at (group_of key es w)) None
  pub headed : (h : ℕ) (w : List ℕ) → row_at keys h ≡ Some w → ends_at ends h ≡ ends_of (slots_at (group_of key es w))
  pub some : (h : ℕ) (w : List ℕ) → row_at keys h ≡ Some w → 0 < group_size key es w
  pub none : (w : List ℕ) → IsAbsent keys w → group_size key es w ≡ 0
  pub once : (h k : ℕ) (w : List ℕ) → row_at keys h ≡ Some w → row_at keys k ≡ Some w → h ≡ k
  pub seated : AreSeated key notes keys es

-- after a marked entry all are marked
unfoldable pub AreAllMarked : List Entry → Type 0
AreAllMarked [] = ⊤
AreAllMarked (e ∷ es) = (e.marked ≡ true) × AreAllMarked es

-- the marked entries follow all others
unfoldable pub AreTrailing : List Entry → Type 0
AreTrailing [] = ⊤
AreTrailing (e ∷ es) = (e.marked ≡ true → AreAllMarked es) × AreTrailing es

-- the columns of a key are all columns, in their order
pub record KeyIsWhole (width : ℕ) (key : List ℕ) : Type 0 where
  pub long : length key ≡ width
  pub each : (i : ℕ) → i < width → slice_index key i ≡ i

-- what a kind of groups requires of the key
abbrev pub IsKind : Kind → ℕ → List ℕ → Type 0
IsKind One width key = key ≡ []
IsKind Keyed width key = ⊤
IsKind Each width key = KeyIsWhole width key

-- what holds of a table's tuples, whatever their groups
pub record HoldsTuples (r : Raw) : Type 0 where
  pub rows : AreRows r.rows
  pub columns : AreColumns r.rows.width r.key.items
  pub kind : IsKind r.kind r.rows.width r.key.items
  pub notes : r.rows.room ≤ length r.notes.items
  pub apart : TuplesDiffer (entries_of r)
  pub trailing : AreTrailing (entries_of r)
  pub marked : r.marked ≡ first_of (slots_at (marks (entries_of r)))

-- what holds of groups with heads
pub record AreHeads (r : Raw) : Type 0 where
  pub keys : AreRows r.keys
  pub key_width : r.keys.width ≡ length r.key.items
  pub links : r.rows.room ≤ length r.links.items
  pub ends : r.keys.room ≤ length r.ends.items
  pub groups : AreGroups r.key.items r.notes.items r.links.items r.keys.rows r.ends.items (entries_of r)

-- what holds of a table's parts
pub record IsRaw (r : Raw) : Type 0 where
  pub bare : HoldsTuples r
  pub heads : r.kind ≡ Keyed → AreHeads r

-- no slot is free for a head, or the buffer is too short for its cells
abbrev pub HasNoRoomForHead : Raw → Type 0
HasNoRoomForHead r = IsFull r.keys ⊎ (r.cells.capacity < length r.key.items)

-- the place of a slot, if any
abbrev pub place_of : Option ℕ → Option Place
place_of None = None
place_of (Some i) = Some (record { slot = i })

-- head h is the head of the group with the cells w: an old one, or a new one of an empty group
abbrev pub IsSeat : List Row → List Row → List Ends → List Ends → ℕ → List ℕ → Type 0
IsSeat old new ends more h w =
    (IsRow old h w × (new ≡ old) × ((k : ℕ) → ends_at more k ≡ ends_at ends k))
    ⊎ (IsAbsent old w × (new ≡ old ++ record { slot = h; cells = w } ∷ [])
    × (ends_at more h ≡ record { first = None; last = None }) × ((k : ℕ) → k ≢ h → ends_at more k ≡ ends_at ends k))

-- the first marked slot, once slot i, which is followed by the slot `next`, is removed
abbrev pub passed : Option ℕ → ℕ → Option ℕ → Option ℕ
passed None i next = None
passed (Some m) i next = cond (m == i) next (Some m)

-- rows, with the notes beside them, can have the tuple u appended
pub record RowsCanTake (rows : SlotRows) (notes : List Note) (u : List ℕ) : Type 0 where
  pub rows_law : AreRows rows
  pub wide : length u ≡ rows.width
  pub few : length rows.rows < SLOTS
  pub room_notes : rows.room ≤ length notes

-- the tuple u is written into the slot i, after all others
pub record IsLaid (old rows : SlotRows) (before notes : List Note) (i : ℕ) (u : List ℕ) : Type 0 where
  pub rows_law : AreRows rows
  pub width : rows.width ≡ old.width
  pub laid : rows.rows ≡ old.rows ++ record { slot = i; cells = u } ∷ []
  pub room_notes : rows.room ≤ length notes
  pub same_notes : (k : ℕ) → note_at notes k ≡ note_at before k

-- the slot i is one that was free, or the next if none was
pub record IsSlotFor (old rows : SlotRows) (i : ℕ) : Type 0 where
  pub room : rows.room ≡ max old.room (i + 1)
  pub fits : i ≤ old.room
  pub reused : ¬ IsFull old → i < old.room

-- a tuple found no memory, since no slot was free: the rows stay
pub record IsUnlaid (old rows : SlotRows) (before notes : List Note) : Type 0 where
  pub rows_law : AreRows rows
  pub width : rows.width ≡ old.width
  pub same_rows : rows.rows ≡ old.rows
  pub room : rows.room ≡ old.room
  pub room_notes : rows.room ≤ length notes
  pub same_notes : (k : ℕ) → note_at notes k ≡ note_at before k
  pub full : IsFull old

-- the tuple u is laid into the slot i, beside room for its neighbours, and h is the head of its group
pub record IsLaidInto (a : Raw) (rows : SlotRows) (notes : List Note) (links : List Pair) (keys : SlotRows)
    (ends : List Ends)
    (i h : ℕ) (u : List ℕ) : Type 0 where
  pub laid : IsLaid a.rows rows a.notes.items notes i u
  pub room_links : rows.room ≤ length links
  pub same_links : (k : ℕ) → pair_at links k ≡ pair_at a.links.items k
  pub longer : length a.links.items ≤ length links
  pub keys_law : AreRows keys
  pub keys_width : keys.width ≡ a.keys.width
  pub room_ends : keys.room ≤ length ends
  pub seat : IsSeat a.keys.rows keys.rows a.ends.items ends h (pick a.key.items u)

-- the tuple in slot i is there, marked or not and with one support; h is its group's head
pub record IsNoted (mark : Bool) (a b : Raw) (rows : SlotRows) (notes : List Note) (i h : ℕ) : Type 0 where
  pub kind : b.kind ≡ a.kind
  pub key : b.key.items ≡ a.key.items
  pub rows_are : b.rows ≡ rows
  pub notes_are : b.notes.items ≡ slice_set notes i (record { supports = 1; head = h; marked = mark })
  pub marked : b.marked ≡ cond mark (beside a.marked (Some i) a.marked) a.marked

-- the tuple in slot i is there, as the last of the group of head h
pub record IsLastOfGroup (mark : Bool) (a b : Raw) (rows : SlotRows) (notes : List Note) (links : List Pair)
    (keys : SlotRows)
    (ends : List Ends) (i h : ℕ) : Type 0 where
  pub noted : IsNoted mark a b rows notes i h
  pub links_are : b.links.items ≡ entered (ends_at ends h).last i links
  pub keys_are : b.keys ≡ keys
  pub ends_are : b.ends.items ≡ slice_set ends h (extended i (ends_at ends h))

-- the tuple in slot i is marked, as the last of all
pub record IsMarked (a b : Raw) (i : ℕ) : Type 0 where
  pub kind : b.kind ≡ a.kind
  pub key : b.key.items ≡ a.key.items
  pub rows : b.rows ≡ a.rows
  pub notes : b.notes.items
      ≡ slice_set a.notes.items i
      (record { supports = (note_at a.notes.items i).supports; head = (note_at a.notes.items i).head; marked = true })
  pub links : b.links.items ≡ a.links.items
  pub keys : b.keys ≡ a.keys
  pub ends : b.ends.items ≡ a.ends.items
  pub marked : b.marked ≡ beside a.marked (Some i) a.marked

-- a note without its mark
abbrev pub without_mark : Note → Note
without_mark n = record { supports = n.supports; head = n.head; marked = false }
