-- Why a query isn't free-connex, with a rest that shows it.
use Rattle.std.specs.Prelude.{ℕ, List, ◌∷◌}
use Rattle.djq_hypergraph.specs.JoinTree.{HasJoinTree, HasJoinTreeFrom}
use Rattle.djq_hypergraph.specs.Gyo.{IsRest}

-- the edges H have no join tree, and R is a rest of them
pub record IsCyclic (H R : List (List ℕ)) : Type 0 where
  pub no_tree : HasJoinTree H → ⊥
  pub rest : IsRest H R

-- the edges H have a join tree, but the head F followed by them has none whose root is F, and R is a rest of these
pub record IsNotConnex (H : List (List ℕ)) (F : List ℕ) (R : List (List ℕ)) : Type 0 where
  pub tree : HasJoinTree H
  pub no_tree : HasJoinTreeFrom F H → ⊥
  pub rest : IsRest (F ∷ H) R
