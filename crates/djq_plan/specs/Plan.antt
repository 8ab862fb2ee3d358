-- What a plan is, and what refuses one.
use Rattle.std.specs.Prelude.{◌≡◌, ℕ, List}
use Rattle.djq_hypergraph.specs.Refusing.{IsCyclic, IsNotConnex}
use Rattle.djq_tree.specs.Counts.{IsSmall}
use Rattle.djq_tree.specs.Growing.{IsTreeOf}
use Rattle.djq_tree.specs.Tree.{Tree, IsTree, ShowsHead, leaf_labels}
use Rattle.djq_plan.specs.declared.refusal.PlanRefusal.{PlanRefusal}
use Rattle.djq_plan.specs.declared.refusal.PlanRefusal.TheVariants.{Cyclic, NotConnex, NoMem}

-- t is the plan of a query with the edges H and the head F
pub record IsPlan (H : List (List ℕ)) (F : List ℕ) (t : Tree) : Type 0 where
  -- it is the tree that the choice rule names
  pub named : IsTreeOf H F t
  pub tree : IsTree t
  -- the leaves have the edges' variables, and `out` has the head's
  pub atoms : leaf_labels t ≡ H
  pub head : t.head ≡ F
  pub shown : ShowsHead F t
  pub small : IsSmall t

-- why there is no plan. The first two exclude each other and a free-connex query
abbrev pub IsRefusal : List (List ℕ) → List ℕ → PlanRefusal → Type 0
IsRefusal H F (Cyclic R) = IsCyclic H R
IsRefusal H F (NotConnex R) = IsNotConnex H F R
IsRefusal H F NoMem = Unit {0}
