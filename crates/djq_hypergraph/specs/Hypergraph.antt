-- A hypergraph is a list of edges, and an edge is a list of variables. The order of neither matters.
use Rattle.std.specs.Prelude.{ℕ, zero, suc, ◌+◌, Bool, true, false, cond, not, ◌==◌, ◌&&◌, ◌||◌}
use Rattle.std.specs.Prelude.{List, [], ◌∷◌, ◌++◌, filter, slice_index_or}

-- whether the variable lies in the edge
abbrev pub member : ℕ → List ℕ → Bool
member x [] = false
member x (y ∷ ys) = (x == y) || member x ys

-- whether each variable of the first edge lies in the second
abbrev pub subset : List ℕ → List ℕ → Bool
subset [] f = true
subset (x ∷ xs) f = member x f && subset xs f

-- the variables of the first edge that don't lie in the second
abbrev pub difference : List ℕ → List ℕ → List ℕ
difference e f = filter (λ x. not (member x f)) e

-- the variables of the first edge that lie in the second
abbrev pub intersection : List ℕ → List ℕ → List ℕ
intersection e f = filter (λ x. member x f) e

-- 1 for true, and 0 for false
abbrev pub one : Bool → ℕ
one b = cond b 1 0

-- in how many edges the variable lies
abbrev pub degree : ℕ → List (List ℕ) → ℕ
degree x [] = 0
degree x (e ∷ E) = one (member x e) + degree x E

-- the edge at a position, and the empty edge past the end
abbrev pub edge_at : List (List ℕ) → ℕ → List ℕ
edge_at E p = slice_index_or E p []

-- the numbers from 0 to n-1
abbrev pub numbers_below : ℕ → List ℕ
numbers_below zero = []
numbers_below (suc n) = numbers_below n ++ n ∷ []

-- the set of those numbers below n that are among these, in rising order
abbrev pub set_below : ℕ → List ℕ → List ℕ
set_below n xs = filter (λ x. member x xs) (numbers_below n)
