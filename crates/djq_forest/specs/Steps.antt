-- When it can be propagated to an entry that another one lives, or lives no more: what a step of a change needs.
use Rattle.std.specs.Prelude.{◌≡◌, ℕ, ◌+◌, ◌<◌, Bool, true, false, List, length}
use Rattle.djq_hypergraph.specs.Hypergraph.{member}
use Rattle.djq_forest.specs.declared.slots.TheConstants.{OUT}
use Rattle.djq_forest.specs.Forest.{Knot, Edge, Forest, nth_edge, has_entry, missing_at, list_of}
use Rattle.djq_forest.specs.Shape.{AreAlong}
use Rattle.djq_forest.specs.Invariants.{is_empty}
use Rattle.djq_forest.specs.Telling.{IsToldSoFar, CanBeTold, target}

-- the forest of these knots and edges; the change's number doesn't matter
abbrev pub forest_with : List Knot → List Edge → Forest
forest_with ks es = record { knots = ks; edges = es; stamp = 0 }

-- in slot x of the edge j's big knot there is an entry that is tied to one
pub record IsTied (f : Forest) (j x : ℕ) : Type 0 where
  pub edge : j < length f.edges
  pub along : AreAlong f.knots f.edges
  pub entry : has_entry f.knots (nth_edge f.edges j).big x ≡ true
  pub tied : has_entry f.knots (nth_edge f.edges j).small (target f j x) ≡ true

-- the edge j, which feeds, can propagate that the entry in slot x lives: it isn't listed, and if nothing is a need
-- isn't met
pub record CanTellFed (f : Forest) (j x : ℕ) : Type 0 where
  pub is_tied : IsTied f j x
  pub out : member x (list_of (nth_edge f.edges j) (target f j x)) ≡ false
  pub unmet : is_empty (list_of (nth_edge f.edges j) (target f j x)) ≡ true
      → 0 < missing_at f.knots (nth_edge f.edges j).small (target f j x)

-- that it lives no more: it is listed
pub record CanUntellFed (f : Forest) (j x : ℕ) : Type 0 where
  pub is_tied : IsTied f j x
  pub listed : member x (list_of (nth_edge f.edges j) (target f j x)) ≡ true
  pub few : missing_at f.knots (nth_edge f.edges j).small (target f j x) + 1 < OUT

-- it can be propagated to the entry in slot x that its side by the edge j lives: a need isn't met
pub record CanTellSide (f : Forest) (j x : ℕ) : Type 0 where
  pub is_tied : IsTied f j x
  pub unmet : 0 < missing_at f.knots (nth_edge f.edges j).big x

-- that it lives no more
pub record CanUntellSide (f : Forest) (j x : ℕ) : Type 0 where
  pub is_tied : IsTied f j x
  pub few : missing_at f.knots (nth_edge f.edges j).big x + 1 < OUT

-- what is to be propagated, or to be undone, can be
pub record StepsCanBeTaken : Type 0 where
  pub fed : (f : Forest) (told : ℕ → ℕ → Bool) (j x : ℕ) → IsToldSoFar f told → CanBeTold f told j x false
      → (nth_edge f.edges j).feeds ≡ true → CanTellFed f j x
  pub fed_undone : (f : Forest) (told : ℕ → ℕ → Bool) (j x : ℕ) → length f.edges + 1 < OUT → IsToldSoFar f told
      → CanBeTold f told j x true → (nth_edge f.edges j).feeds ≡ true → CanUntellFed f j x
  pub side : (f : Forest) (told : ℕ → ℕ → Bool) (j x : ℕ) → IsToldSoFar f told → CanBeTold f told j x false
      → (nth_edge f.edges j).feeds ≡ false → CanTellSide f j x
  pub side_undone : (f : Forest) (told : ℕ → ℕ → Bool) (j x : ℕ) → length f.edges + 1 < OUT → IsToldSoFar f told
      → CanBeTold f told j x true → (nth_edge f.edges j).feeds ≡ false → CanUntellSide f j x
