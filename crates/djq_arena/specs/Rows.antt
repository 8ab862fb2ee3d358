-- What an arena holds, as a list of rows.
use Rattle.std.specs.Prelude.{◌≡◌, ◌≢◌, ⊤, ℕ, ◌≤◌, List, [], ◌∷◌, ◌++◌, map, length}
use Rattle.djq_arena.specs.Chains.{AreDistinctSlots, AreBelow}
use Rattle.djq_arena.specs.declared.link.TheConstants.{SLOTS}

-- a row: its slot, and its cells
pub record Row : Type 0 where
  pub slot : ℕ
  pub cells : List ℕ

-- the width of the rows, the number of slots, and the rows, the oldest first
pub record SlotRows : Type 0 where
  pub width : ℕ
  pub room : ℕ
  pub rows : List Row

-- each slot holds a row: none is free
abbrev pub IsFull : SlotRows → Type 0
IsFull a = length a.rows ≡ a.room

-- the slots of the rows
unfoldable pub slots : List Row → List ℕ
slots rows = map (λ r. r.slot) rows

-- no row has these cells
unfoldable pub IsAbsent : List Row → List ℕ → Type 0
IsAbsent [] u = ⊤
IsAbsent (r ∷ rs) u = (r.cells ≢ u) × IsAbsent rs u

-- a row with these cells lies in this slot
pub record IsRow (rows : List Row) (slot : ℕ) (cells : List ℕ) : Type 0 where
  pub front : List Row
  pub back : List Row
  pub is : rows ≡ front ++ record { slot = slot; cells = cells } ∷ back

-- a row lies in this slot
pub record IsRowHeld (rows : List Row) (slot : ℕ) : Type 0 where
  pub cells : List ℕ
  pub row : IsRow rows slot cells

-- each row has this many cells
unfoldable pub AreWideRows : ℕ → List Row → Type 0
AreWideRows width [] = ⊤
AreWideRows width (r ∷ rs) = (length r.cells ≡ width) × AreWideRows width rs

-- what holds of every arena: no two rows lie in one slot, each slot is one of the room, and each row has
-- the width
pub record AreRows (a : SlotRows) : Type 0 where
  pub different : AreDistinctSlots (slots a.rows)
  pub below : AreBelow a.room (slots a.rows)
  pub numbers : a.room ≤ SLOTS
  pub wide : AreWideRows a.width a.rows
