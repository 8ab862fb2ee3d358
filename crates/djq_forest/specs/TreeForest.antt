-- The forest of a tree, with how the tree's nodes are folded into its knots.
use Rattle.std.specs.Prelude.{◌≡◌, ℕ, List, [], Option}
use Rattle.djq_tree.specs.Tree.{Tree, IsTree}
use Rattle.djq_forest.specs.Forest.{Forest, nth_knot, nth_edge}
use Rattle.djq_forest.specs.Invariants.{IsForest}
use Rattle.djq_forest.specs.Reducts.{TreeTables}
use Rattle.djq_forest.specs.Fold.{Fold, IsFoldOf, reducts_of}
use Rattle.djq_forest.specs.Rising.{AreUps}

-- a tree, a forest, and how the one's nodes are folded into the other's knots
pub record TreeForest : Type 0 where
  pub tree : Tree
  pub forest : Forest
  pub fold : Fold

-- the reducts of the tree, as the forest has them
abbrev pub reducts_in : TreeForest → TreeTables
reducts_in x = reducts_of x.tree x.forest x.fold

-- what holds of it: the forest is one, over the tree
pub record IsTreeForest (x : TreeForest) : Type 0 where
  pub is_tree : IsTree x.tree
  pub forest : IsForest x.forest
  pub fold : IsFoldOf x.tree x.forest x.fold

-- what holds in memory: for each knot the edge that leads up from it is known, too
pub record IsForestWithUps (ups : List (Option ℕ)) (x : TreeForest) : Type 0 where
  pub sound : IsTreeForest x
  pub ups_are : AreUps ups x.forest

-- no knot has a slot, and no edge a place
pub record HasNoSlots (f : Forest) : Type 0 where
  pub tuples : (k : ℕ) → (nth_knot f.knots k).tuples ≡ []
  pub missing : (k : ℕ) → (nth_knot f.knots k).missing ≡ []
  pub refs : (k : ℕ) → (nth_knot f.knots k).refs ≡ []
  pub marks : (k : ℕ) → (nth_knot f.knots k).marks ≡ []
  pub ties : (j : ℕ) → (nth_edge f.edges j).ties ≡ []
  pub lists : (j : ℕ) → (nth_edge f.edges j).lists ≡ []
