-- What a listing has still to give, and what a page of it gives.
use Rattle.std.specs.Prelude.{ℕ, List, ◌≡◌, ◌++◌, ◌≤◌, Bool, true, false, length, All, Contains}
use Rattle.djq_model.specs.Data.{Tuple}
use Rattle.djq_model.specs.Answer.{AreDifferent}

-- `next`

-- An answer is left: one that isn't among those given.
abbrev pub IsLeft : (Tuple → Type 0) → List Tuple → Tuple → Type 0
IsLeft Answer given t = Answer t × (Contains given t → ⊥)

-- each answer is among these
abbrev pub AreAll : (Tuple → Type 0) → List Tuple → Type 0
AreAll Answer ts = (t : Tuple) → Answer t → Contains ts t

-- These are listed after the answers that were given, at most as many as asked for; with the end if
-- and only if none is left, and else all that was asked for.
pub record TellsAnswers (Answer : Tuple → Type 0) (given : List Tuple) (count : ℕ)
    (told : List Tuple) (end : Bool) : Type 0 where
  pub answers : All Answer told
  pub different : AreDifferent (given ++ told)
  pub none_left : end ≡ true → AreAll Answer (given ++ told)
  pub some_left : end ≡ false → (t : Tuple) × IsLeft Answer (given ++ told) t
  pub at_most : length told ≤ count
  pub all_asked : end ≡ false → length told ≡ count
