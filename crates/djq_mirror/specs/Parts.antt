-- How bytes are cut at a sign.
use Rattle.std.specs.Prelude.{ℕ, List, [], ◌∷◌, ◌==◌, ◌≡◌, Option, None, Some, if◌then◌else◌}
use Rattle.std.specs.Borrow.{Bor}
use Rattle.djq_model.specs.Data.{Bytes}
use Rattle.djq_model.specs.Parts.{with_first}

-- the parts between the signs, of which there is one at least
abbrev pub parts : ℕ → Bytes → List Bytes
parts sign [] = [] ∷ []
parts sign (b ∷ bs) = if b == sign then [] ∷ parts sign bs else with_first b (parts sign bs)

-- the parts after a sign, or none if there is no sign
abbrev pub parts_left : ℕ → Option Bytes → List Bytes
parts_left sign None = []
parts_left sign (Some bs) = parts sign bs

-- The first part is removed from those that are left; none is given if none is left.
abbrev pub TakesFirstPart : List Bytes → Option (Bor Bytes) → List Bytes → Type 0
TakesFirstPart old None new = (old ≡ []) × (new ≡ [])
TakesFirstPart old (Some p) new = old ≡ p.now ∷ new
