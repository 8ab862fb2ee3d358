-- The entries of a knot as they lie in memory: the cells one after the other, and a note for each slot.
use Rattle.std.specs.Prelude.{ℕ, ◌*◌, ◌≤◌, ◌==◌, cond, List, map, length, slice_index_or}
use Rattle.std.specs.Prelude.{Option, Some, None}
use Rattle.djq_arena.specs.declared.link.TheConstants.{SLOTS}
use Rattle.djq_arena.specs.Store.{cells_at}
use Rattle.djq_hypergraph.specs.Hypergraph.{numbers_below}
use Rattle.djq_forest.specs.declared.slots.Note.{Note}
use Rattle.djq_forest.specs.declared.slots.TheConstants.{OUT}

-- the note of a slot without an entry
abbrev pub free_note : Note
free_note = record { missing = OUT; refs = 0; mark = 0 }

-- the note of a slot
abbrev pub note_in : List Note → ℕ → Note
note_in ns x = slice_index_or ns x free_note

-- what lies in a slot
unfoldable pub tuple_in : ℕ → List ℕ → List Note → ℕ → Option (List ℕ)
tuple_in width cells ns x = cond ((note_in ns x).missing == OUT) None (Some (cells_at width cells x))

-- what lies in each slot
unfoldable pub slot_tuples : ℕ → List ℕ → List Note → List (Option (List ℕ))
slot_tuples width cells ns = map (tuple_in width cells ns) (numbers_below (length ns))

-- how many needs aren't met, how many entries are tied, and which change marked last, slot by slot
unfoldable pub missing_in : List Note → List ℕ
missing_in ns = map (λ n. n.missing) ns

-- how many entries are tied to each
unfoldable pub refs_in : List Note → List ℕ
refs_in ns = map (λ n. n.refs) ns

-- which change marked each last
unfoldable pub marks_in : List Note → List ℕ
marks_in ns = map (λ n. n.mark) ns

-- what holds in memory: each slot has its cells, and no number of a slot is too high
pub record SlotsAreSound (width : ℕ) (cells : List ℕ) (ns : List Note) : Type 0 where
  pub long : length ns * width ≤ length cells
  pub few : length ns ≤ SLOTS
