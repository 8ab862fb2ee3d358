-- Listings of tuples.
use Rattle.std.specs.Prelude.{◌≡◌, ℕ, List, All, AllPairs, Contains}

-- no two of a list are equal
abbrev pub AreDistinctTuples : List (List ℕ) → Type 0
AreDistinctTuples ts = AllPairs (λ s t. s ≡ t → ⊥) ts

-- different tuples that have a property
pub record AreSome (P : List ℕ → Type 0) (ts : List (List ℕ)) : Type 0 where
  pub different : AreDistinctTuples ts
  pub all : All P ts

-- a tuple that has a property, and isn't among these
pub record IsTupleLeft (P : List ℕ → Type 0) (ts : List (List ℕ)) (t : List ℕ) : Type 0 where
  pub is : P t
  pub fresh : Contains ts t → ⊥

-- a listing has each tuple with the property once, and nothing else
pub record ListsTuples (P : List ℕ → Type 0) (ts : List (List ℕ)) : Type 0 where
  pub different : AreDistinctTuples ts
  pub all : All P ts
  pub complete : (t : List ℕ) → P t → Contains ts t
