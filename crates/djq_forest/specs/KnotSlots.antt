-- A knot as slots with entries.
use Rattle.std.specs.Prelude.{◌≡◌, ℕ, ◌<◌, ◌≤◌, Bool, false, List, [], length, Option}
use Rattle.djq_arena.specs.declared.link.TheConstants.{SLOTS}
use Rattle.djq_forest.specs.SlotEntries.{SlotEntries}
use Rattle.djq_forest.specs.Forest.{Knot}
use Rattle.djq_forest.specs.declared.index.Index.{Index}
use Rattle.djq_forest.specs.Index.{IsIndexOf}

-- the knot with these entries
abbrev pub as_knot : Bool → ℕ → SlotEntries → Knot
as_knot leaf rank s = record {
  leaf = leaf;
  width = s.width;
  rank = rank;
  tuples = s.tuples;
  missing = s.missing;
  refs = s.refs;
  marks = s.marks;
}

-- the entries of a knot
abbrev pub knot_slots : Knot → SlotEntries
knot_slots k = record { width = k.width; tuples = k.tuples; missing = k.missing; refs = k.refs; marks = k.marks }

-- the same knot with other entries
abbrev pub put_slots : Knot → SlotEntries → Knot
put_slots k s = as_knot k.leaf k.rank s

-- a knot without slots
abbrev pub empty_knot : Bool → ℕ → ℕ → Knot
empty_knot leaf width rank = as_knot leaf rank (record { width = width; tuples = []; missing = []; refs = []; marks = [] })

-- so many slots are to be there before a row's tuple is inserted into slot x
pub record IsWantedFor (ts : List (Option (List ℕ))) (x count : ℕ) : Type 0 where
  pub slot : x < count
  pub more : length ts ≤ count
  pub few : count ≤ SLOTS

-- what holds in memory: a view's entries are found by their tuples
abbrev pub IsIndexed : Bool → Index → SlotEntries → Type 0
IsIndexed leaf i s = leaf ≡ false → IsIndexOf i s.tuples
