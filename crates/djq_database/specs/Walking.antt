-- A walk over the rows of a relation.
use Rattle.std.specs.Prelude.{◌≡◌, ℕ, ◌-◌, ◌≤◌, List, [], ◌∷◌, length, drop, Option, Some, None}
use Rattle.std.specs.Borrow.{Bor}
use Rattle.djq_index.specs.Entries.{Entry, head_at}
use Rattle.djq_database.specs.Rows.{Rows, row_place_of}
use Rattle.djq_database.specs.Parts.{tuples_of}

-- the entries that are left, when there are so many of them
abbrev pub entries_left : Rows → ℕ → List Entry
entries_left r left = drop (length r.entries - left) r.entries

-- their tuples
abbrev pub tuples_left : Rows → ℕ → List (List ℕ)
tuples_left r left = tuples_of (entries_left r left)

-- a walk is at the first entry that is left
pub record IsWalk (r : Rows) (next : Option ℕ) (left : ℕ) : Type 0 where
  pub within : left ≤ length r.entries
  pub at : row_place_of next ≡ head_at (entries_left r left)

-- The first of the rows that are left is returned; none if none is left.
abbrev pub TellsRow : List (List ℕ) → Option (Bor (List ℕ)) → List (List ℕ) → Type 0
TellsRow old None new = (old ≡ []) × (new ≡ [])
TellsRow old (Some cells) new = old ≡ cells.now ∷ new
