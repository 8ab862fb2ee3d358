-- Lists of answers of any type, and the test whether something is one.
use Rattle.std.specs.Prelude.{◌≡◌, Bool, true, List, All, AllPairs, Contains}

-- no two of a list are equal
abbrev pub AreDistinctAnswers : {A : Type 0} → List A → Type 0
AreDistinctAnswers ts = AllPairs (λ s t. s ≡ t → ⊥) ts

-- different answers
pub record AreSomeCells {A : Type 0} (has : A → Bool) (ts : List A) : Type 0 where
  pub different : AreDistinctAnswers ts
  pub answers : All (λ t. has t ≡ true) ts

-- no answer is missing
abbrev pub AreAllCells : {A : Type 0} → (A → Bool) → List A → Type 0
AreAllCells {A} has ts = (t : A) → has t ≡ true → Contains ts t

-- a listing has each answer once, and nothing else
pub record IsListingOfCells {A : Type 0} (has : A → Bool) (ts : List A) : Type 0 where
  pub some : AreSomeCells has ts
  pub all : AreAllCells has ts
