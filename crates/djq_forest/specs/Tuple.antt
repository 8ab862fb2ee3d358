-- Tuples, lists of numbers, and their projections.
use Rattle.std.specs.Prelude.{ℕ, zero, suc, Bool, cond, ◌==◌, List, [], ◌∷◌, map, slice_index}
use Rattle.std.specs.Str.{bytes_eq}

-- whether two tuples are the same
unfoldable pub same_tuple : List ℕ → List ℕ → Bool
same_tuple u v = bytes_eq u v

-- the cells of a tuple at these columns, in this order; 0 past its end
unfoldable pub projection : List ℕ → List ℕ → List ℕ
projection columns u = map (λ c. slice_index u c) columns

-- the place of the variable x in a label, whose length if it isn't there
unfoldable pub variable_column : List ℕ → ℕ → ℕ
variable_column [] x = zero
variable_column (y ∷ ys) x = cond (y == x) zero (suc (variable_column ys x))

-- the places of a key's variables in a label
unfoldable pub label_columns : List ℕ → List ℕ → List ℕ
label_columns label key = map (λ x. variable_column label x) key
