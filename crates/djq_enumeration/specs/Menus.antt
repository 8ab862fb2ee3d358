-- Menus, lists of different tuples, and a choice from one.
use Rattle.std.specs.Prelude.{◌≡◌, ⊤, ℕ, Bool, false, cond, ◌||◌, List, [], ◌∷◌}
use Rattle.djq_index.specs.Tuple.{same}

-- whether a list of tuples has one
abbrev pub has_tuple : List (List ℕ) → List ℕ → Bool
has_tuple [] u = false
has_tuple (x ∷ xs) u = same x u || has_tuple xs u

-- no tuple occurs twice
abbrev pub TuplesOnce : List (List ℕ) → Type 0
TuplesOnce [] = ⊤
TuplesOnce (x ∷ xs) = (has_tuple xs x ≡ false) × TuplesOnce xs

-- the tuples ahead of one
abbrev pub tuples_ahead : List (List ℕ) → List ℕ → List (List ℕ)
tuples_ahead [] u = []
tuples_ahead (x ∷ xs) u = cond (same x u) [] (x ∷ tuples_ahead xs u)

-- the tuples after one; none if it isn't there
abbrev pub tuples_behind : List (List ℕ) → List ℕ → List (List ℕ)
tuples_behind [] u = []
tuples_behind (x ∷ xs) u = cond (same x u) xs (tuples_behind xs u)

-- the tuple is the first of these
abbrev pub IsFirstTuple : List (List ℕ) → List ℕ → Type 0
IsFirstTuple [] u = ⊥
IsFirstTuple (x ∷ xs) u = x ≡ u
