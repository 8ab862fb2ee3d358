-- The first of a list that passes a test.
use Rattle.std.specs.Prelude.{ℕ, List, ◌≡◌, ◌<◌, Bool, true, false, Option, None, MatchOption, find}
use Rattle.std.specs.Prelude.{length, slice_index_or}

-- The first that passes is at this place.
pub record IsFirstPassing {A : Type 0} (p : A → Bool) (xs : List A) (i : ℕ) : Type 0 where
  pub below : i < length xs
  pub passes : (d : A) → p (slice_index_or xs i d) ≡ true
  pub before : (k : ℕ) (d : A) → k < i → p (slice_index_or xs k d) ≡ false

-- The place of the first that passes, or none if none does.
abbrev pub FindsFirst : {A : Type 0} → (A → Bool) → List A → Option ℕ → Type 0
FindsFirst p xs result = MatchOption result (find p xs ≡ None) (IsFirstPassing p xs)
