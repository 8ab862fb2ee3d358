-- The entries of a knot in their slots.
use Rattle.std.specs.Prelude.{◌≡◌, ℕ, ◌-◌, ◌≤◌, List, ◌++◌, length, replicate, slice_index_or}
use Rattle.std.specs.Prelude.{slice_set, Option, Some, None, is_some, true}
use Rattle.djq_arena.specs.declared.link.TheConstants.{SLOTS}
use Rattle.djq_forest.specs.declared.slots.TheConstants.{OUT}

-- how many cells a tuple has; for each slot the tuple of the entry in it, if there is one; and for each slot how many of
-- the entry's needs aren't met, how many entries are tied to it, and by which change it was marked last
pub record SlotEntries : Type 0 where
  pub width : ℕ
  pub tuples : List (Option (List ℕ))
  pub missing : List ℕ
  pub refs : List ℕ
  pub marks : List ℕ

-- what lies in a slot
abbrev pub tuple_of_slot : SlotEntries → ℕ → Option (List ℕ)
tuple_of_slot s x = slice_index_or s.tuples x None

-- there is an entry in the slot
abbrev pub IsTaken : SlotEntries → ℕ → Type 0
IsTaken s x = is_some (tuple_of_slot s x) ≡ true

-- so many slots, the new ones without entries
abbrev pub with_slots : SlotEntries → ℕ → SlotEntries
with_slots s n = record {
  width = s.width;
  tuples = s.tuples ++ replicate (n - length s.tuples) None;
  missing = s.missing ++ replicate (n - length s.tuples) OUT;
  refs = s.refs ++ replicate (n - length s.tuples) 0;
  marks = s.marks ++ replicate (n - length s.tuples) 0;
}

-- an entry with this tuple was inserted into a slot, with so many unmet needs, to which nothing is tied
abbrev pub with_entry : SlotEntries → ℕ → List ℕ → ℕ → SlotEntries
with_entry s x u missing = record {
  width = s.width;
  tuples = slice_set s.tuples x (Some u);
  missing = slice_set s.missing x missing;
  refs = slice_set s.refs x 0;
  marks = slice_set s.marks x 0;
}

-- the entry in a slot was removed
abbrev pub with_free : SlotEntries → ℕ → SlotEntries
with_free s x = record {
  width = s.width;
  tuples = slice_set s.tuples x None;
  missing = slice_set s.missing x OUT;
  refs = slice_set s.refs x 0;
  marks = slice_set s.marks x 0;
}

-- the entry in a slot has these numbers
abbrev pub with_numbers : SlotEntries → ℕ → ℕ → ℕ → ℕ → SlotEntries
with_numbers s x missing refs mark = record {
  width = s.width;
  tuples = s.tuples;
  missing = slice_set s.missing x missing;
  refs = slice_set s.refs x refs;
  marks = slice_set s.marks x mark;
}

-- so many needs of the entry in a slot aren't met
abbrev pub with_unmet : SlotEntries → ℕ → ℕ → SlotEntries
with_unmet s x missing = record {
  width = s.width;
  tuples = s.tuples;
  missing = slice_set s.missing x missing;
  refs = s.refs;
  marks = s.marks;
}

-- so many entries are tied to the one in a slot
abbrev pub with_refs : SlotEntries → ℕ → ℕ → SlotEntries
with_refs s x refs = record {
  width = s.width;
  tuples = s.tuples;
  missing = s.missing;
  refs = slice_set s.refs x refs;
  marks = s.marks;
}

-- the entry in a slot was marked by this change
abbrev pub marked_by : SlotEntries → ℕ → ℕ → SlotEntries
marked_by s x mark = record {
  width = s.width;
  tuples = s.tuples;
  missing = s.missing;
  refs = s.refs;
  marks = slice_set s.marks x mark;
}

-- what holds of all slots: each has its numbers, and its tuple the width; no slot's number is too high
pub record AreSlotEntries (s : SlotEntries) : Type 0 where
  pub missing : length s.missing ≡ length s.tuples
  pub refs : length s.refs ≡ length s.tuples
  pub marks : length s.marks ≡ length s.tuples
  pub wide : (x : ℕ) (u : List ℕ) → tuple_of_slot s x ≡ Some u → length u ≡ s.width
  pub few : length s.tuples ≤ SLOTS
