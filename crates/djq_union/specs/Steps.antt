-- What a union counts.
use Rattle.std.specs.Prelude.{ℕ, ◌+◌, ◌-◌, ◌*◌, List, [], ◌∷◌, length}
use Rattle.std.specs.List.{sum_by}

-- what one call counts at most: what the first member does, a test of its answer with each later
-- member, and what the union of the later ones does
abbrev pub union_steps : {M : Type 0} → (M → ℕ) → (M → ℕ) → List M → ℕ
union_steps most asks [] = 0
union_steps most asks (m ∷ ms) = most m + sum_by asks ms + union_steps most asks ms

-- the same for k members that each count at most c a call: k·c, and k-1 times what tests with all
-- members count
abbrev pub union_most : {M : Type 0} → (M → ℕ) → List M → ℕ → ℕ
union_most asks ms c = length ms * c + (length ms - 1) * sum_by asks ms
