-- The places of the variables of nodes in an answer.
use Rattle.std.specs.Prelude.{ℕ, zero, suc, List, [], ◌∷◌, ◌++◌}
use Rattle.djq_tree.specs.Tree.{Tree}
use Rattle.djq_tree.specs.Labels.{label_at}
use Rattle.djq_reduct.specs.Columns.{column, columns}

-- for each of the first n nodes, the places of its label's variables in the head
unfoldable pub head_columns : Tree → ℕ → List (List ℕ)
head_columns t zero = []
head_columns t (suc n) = head_columns t n ++ columns t.head (label_at t.labels n) ∷ []

-- for each of the first n variables its place in the head
unfoldable pub head_places : List ℕ → ℕ → List ℕ
head_places F zero = []
head_places F (suc n) = head_places F n ++ column F n ∷ []
