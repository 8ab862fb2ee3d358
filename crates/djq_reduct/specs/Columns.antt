-- The places of the variables of a group key in a label.
use Rattle.std.specs.Prelude.{ℕ, zero, suc, cond, ◌==◌, List, [], ◌∷◌, map}

-- the place of the variable x in a label, whose length if it isn't there
unfoldable pub column : List ℕ → ℕ → ℕ
column [] x = zero
column (y ∷ ys) x = cond (y == x) zero (suc (column ys x))

-- the places of a key's variables in a label
unfoldable pub columns : List ℕ → List ℕ → List ℕ
columns label key = map (λ x. column label x) key
