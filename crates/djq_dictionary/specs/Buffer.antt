-- The layout of texts in one buffer.
use Rattle.std.specs.Prelude.{◌≡◌, ℕ, ◌≤◌, List, [], ◌∷◌, slice_range}

-- what contracts see of texts in a buffer
pub record Shelf : Type 0 where
  pub texts : List (List ℕ)
  -- for how many more bytes there is room
  pub room : ℕ
  -- for how many more texts there is room, their bytes apart
  pub places : ℕ

-- the pieces of a buffer that end at the given places, the first of them from a start on
abbrev pub pieces : List ℕ → ℕ → List ℕ → List (List ℕ)
pieces bytes start [] = []
pieces bytes start (e ∷ ends) = slice_range bytes start e ∷ pieces bytes e ends

-- the places rise from a start to the buffer's end
abbrev pub IsCut : ℕ → List ℕ → ℕ → Type 0
IsCut start [] total = start ≡ total
IsCut start (e ∷ ends) total = (start ≤ e) × IsCut e ends total
