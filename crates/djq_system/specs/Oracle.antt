use Rattle.std.specs.Prelude.{ℕ, Bool, List}

-- What a file does that no answer of a call shows: the bytes that it has at first; what a write that failed leaves, by
-- how many calls were before it; and whether a replacement that failed was made all the same.
pub record FileOracle : Type 0 where
  pub first : List ℕ
  pub left : ℕ → List ℕ
  pub replaces : ℕ → Bool
