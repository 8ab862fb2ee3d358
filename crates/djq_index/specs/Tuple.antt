-- Tuples, lists of numbers, and their projections.
use Rattle.std.specs.Prelude.{ℕ, Bool, cond, List, map, slice_index}
use Rattle.std.specs.Str.{bytes_eq}

-- a tuple: one number for each column
abbrev pub CellTuple : Type 0
CellTuple = List ℕ

-- whether two tuples are the same
unfoldable pub same : List ℕ → List ℕ → Bool
same u v = bytes_eq u v

-- the cells of a tuple at these columns, in this order; 0 past its end
unfoldable pub pick : List ℕ → List ℕ → List ℕ
pick columns u = map (λ c. slice_index u c) columns

-- one if it is true, else nothing
unfoldable pub one_if : Bool → ℕ
one_if b = cond b 1 0
