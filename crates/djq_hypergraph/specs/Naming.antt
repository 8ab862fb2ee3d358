-- The text of an edge: the names of its variables.
use Rattle.std.specs.Prelude.{ℕ, List, [], ◌∷◌, ◌++◌, codes, slice_index_or}

-- the name with a number
abbrev pub name_at : List (List ℕ) → ℕ → List ℕ
name_at names i = slice_index_or names i []

-- variables, with a comma before each
abbrev pub comma_listed : List (List ℕ) → List ℕ → List ℕ
comma_listed variables [] = []
comma_listed variables (x ∷ xs) = codes "," ++ name_at variables x ++ comma_listed variables xs

-- variables in their order, with commas between them
abbrev pub edge_text : List (List ℕ) → List ℕ → List ℕ
edge_text variables [] = []
edge_text variables (x ∷ xs) = name_at variables x ++ comma_listed variables xs
