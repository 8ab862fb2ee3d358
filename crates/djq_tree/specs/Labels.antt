-- Labels of nodes: sets of variables, side by side in a list.
use Rattle.std.specs.Prelude.{ℕ, List, [], slice_index_or}

-- the label with a number, and no variable past the end
abbrev pub label_at : List (List ℕ) → ℕ → List ℕ
label_at labels j = slice_index_or labels j []
