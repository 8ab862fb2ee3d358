-- What is propagated of an entry that became live, and of all that become live by it.
use Rattle.std.specs.Prelude.{◌≡◌, ℕ, ◌-◌, ◌<◌, ◌≤◌, Bool, true, false, not, ◌==◌, ◌&&◌, List, [], ◌∷◌, length, slice_index_or, Option, Some, None}
use Rattle.std.specs.List.{sum_by}
use Rattle.djq_forest.specs.Forest.{Knot, Forest, nth_knot, nth_edge, has_entry, lives, list_of}
use Rattle.djq_forest.specs.Shape.{lower}
use Rattle.djq_forest.specs.Invariants.{AreEntries, IsForest}
use Rattle.djq_forest.specs.Telling.{to_tell, target, tell_fed, tell_side}
use Rattle.djq_forest.specs.Pending.{is_source, IsToldBut, comes_by_fed, comes_by_side}

-- the forest g has the entries of f, tied alike: it may differ in counts of unmet needs, and in what edges that feed list
pub record HasSameEntries (f g : Forest) : Type 0 where
  pub knots : length g.knots ≡ length f.knots
  pub edges : length g.edges ≡ length f.edges
  pub leaf : (k : ℕ) → (nth_knot g.knots k).leaf ≡ (nth_knot f.knots k).leaf
  pub width : (k : ℕ) → (nth_knot g.knots k).width ≡ (nth_knot f.knots k).width
  pub rank : (k : ℕ) → (nth_knot g.knots k).rank ≡ (nth_knot f.knots k).rank
  pub tuples : (k : ℕ) → (nth_knot g.knots k).tuples ≡ (nth_knot f.knots k).tuples
  pub counts : (k : ℕ) → length (nth_knot g.knots k).missing ≡ length (nth_knot f.knots k).missing
  pub refs : (k : ℕ) → (nth_knot g.knots k).refs ≡ (nth_knot f.knots k).refs
  pub marks : (k : ℕ) → (nth_knot g.knots k).marks ≡ (nth_knot f.knots k).marks
  pub big : (j : ℕ) → (nth_edge g.edges j).big ≡ (nth_edge f.edges j).big
  pub small : (j : ℕ) → (nth_edge g.edges j).small ≡ (nth_edge f.edges j).small
  pub feeds : (j : ℕ) → (nth_edge g.edges j).feeds ≡ (nth_edge f.edges j).feeds
  pub columns : (j : ℕ) → (nth_edge g.edges j).columns ≡ (nth_edge f.edges j).columns
  pub ties : (j : ℕ) → (nth_edge g.edges j).ties ≡ (nth_edge f.edges j).ties
  pub places : (j : ℕ) → length (nth_edge g.edges j).lists ≡ length (nth_edge f.edges j).lists
  pub sides : (j : ℕ) → (nth_edge f.edges j).feeds ≡ false → (nth_edge g.edges j).lists ≡ (nth_edge f.edges j).lists

-- what lives in the one lives in the other
abbrev pub LivesOn : Forest → Forest → Type 0
LivesOn f g = (k y : ℕ) → lives f.knots k y ≡ true → lives g.knots k y ≡ true

-- all that is pending of entries is to be propagated
abbrev pub IsDue : Forest → (ℕ → ℕ → Bool) → Type 0
IsDue f pending = (i z : ℕ) → i < length f.edges → has_entry f.knots (nth_edge f.edges i).big z ≡ true
    → pending i z ≡ true → to_tell f i z ≡ true

-- what the edge j propagates to slot x is pending
pub record IsPendingAt (f : Forest) (pending : ℕ → ℕ → Bool) (j x : ℕ) : Type 0 where
  pub told : IsToldBut f pending
  pub due : IsDue f pending
  pub tell : to_tell f j x ≡ true
  pub is : pending j x ≡ true

-- all is pending that is to be propagated of the entry in slot y of the knot k, which lives
pub record IsPendingOf (f : Forest) (pending : ℕ → ℕ → Bool) (k y : ℕ) : Type 0 where
  pub told : IsToldBut f pending
  pub due : IsDue f pending
  pub lives : lives f.knots k y ≡ true
  pub all : (i z : ℕ) → i < length f.edges → is_source f k y i z ≡ true → to_tell f i z ≡ true → pending i z ≡ true

-- what is pending, but for what the edge j propagates to slot x
abbrev pub less_at : (ℕ → ℕ → Bool) → ℕ → ℕ → ℕ → ℕ → Bool
less_at pending j x i z = pending i z && not ((i == j) && (z == x))

-- what is pending, but for what is to be propagated of the entry in slot y of the knot k
abbrev pub less_of : Forest → (ℕ → ℕ → Bool) → ℕ → ℕ → ℕ → ℕ → Bool
less_of f pending k y i z = pending i z && not (is_source f k y i z)

-- g is f once the edge j has propagated to slot x, and all that hangs on it; what is pending besides stays so
pub record HasTold (f g : Forest) (j x : ℕ) : Type 0 where
  pub same : HasSameEntries f g
  pub on : LivesOn f g
  pub told : (pending : ℕ → ℕ → Bool) → IsPendingAt f pending j x → IsToldBut g (less_at pending j x)

-- g is f once all has been propagated that hangs on the entry in slot y of the knot k; what is pending besides stays so
pub record HasRisen (f g : Forest) (k y : ℕ) : Type 0 where
  pub same : HasSameEntries f g
  pub on : LivesOn f g
  pub told : (pending : ℕ → ℕ → Bool) → IsPendingOf f pending k y → IsToldBut g (less_of f pending k y)

-- an entry that became live is to rise
abbrev pub MayRise : Forest → ℕ → ℕ → Type 0
MayRise f k y = (pending : ℕ → ℕ → Bool) × IsPendingOf f pending k y

-- for each knot the edge that leads up from it, if there is one
pub record AreUps (ups : List (Option ℕ)) (f : Forest) : Type 0 where
  pub long : length f.knots ≤ length ups
  pub edge : (k j : ℕ) → slice_index_or ups k None ≡ Some j → (j < length f.edges) × (lower (nth_edge f.edges j) ≡ k)
  pub none : (k j : ℕ) → slice_index_or ups k None ≡ None → j < length f.edges → lower (nth_edge f.edges j) ≡ k → ⊥

-- once the entry in slot z of the knot h has risen, the one in slot y of the knot k has
abbrev pub RisesWith : Forest → Forest → ℕ → ℕ → ℕ → ℕ → Type 0
RisesWith f g k y h z = (e : Forest) → HasRisen g e h z → HasRisen f e k y

-- how much higher than a knot others may be
abbrev pub height_left : List Knot → ℕ → ℕ
height_left ks k = sum_by (λ a. a.rank) ks - (nth_knot ks k).rank

-- the way up in f from the knot k ends in g at the entry in slot z of the knot h, which is to rise and is a side by the
-- edge j
pub record RiseStopsAt (f g : Forest) (k h j z : ℕ) : Type 0 where
  pub rise : MayRise g h z
  pub edge : j < length g.edges
  pub side : (nth_edge g.edges j).feeds ≡ false
  pub small : (nth_edge g.edges j).small ≡ h
  pub higher : height_left g.knots h ≤ height_left f.knots k

-- g is f once the edge j has propagated to these slots, one after the other, and all that hangs on it
abbrev pub HaveTold : Forest → Forest → ℕ → List ℕ → Type 0
HaveTold f g j [] = f ≡ g
HaveTold f g j (x ∷ xs) = (h : Forest) × HasTold f h j x × HaveTold h g j xs

-- a step propagates all that hangs on it if nothing becomes live by it; else what became live has to rise; and an entry
-- has risen once the edge that leads up from its knot has propagated it, or, if its knot is a side, to all that are tied
-- to it; or if no edge leads up. If nothing else was pending the forest is whole then
pub record RisingSteps : Type 0 where
  pub entries : (f g : Forest) → AreEntries f → HasSameEntries f g → AreEntries g
  pub fed : (f : Forest) (j x : ℕ) → AreEntries f → j < length f.edges → (nth_edge f.edges j).feeds ≡ true
      → to_tell f j x ≡ true → comes_by_fed f j x ≡ false → HasTold f (tell_fed f j x) j x
  pub fed_on : (f g : Forest) (j x : ℕ) → AreEntries f → j < length f.edges → (nth_edge f.edges j).feeds ≡ true
      → to_tell f j x ≡ true → comes_by_fed f j x ≡ true
      → HasRisen (tell_fed f j x) g (nth_edge f.edges j).small (target f j x) → HasTold f g j x
  pub side : (f : Forest) (j x : ℕ) → AreEntries f → j < length f.edges → (nth_edge f.edges j).feeds ≡ false
      → to_tell f j x ≡ true → comes_by_side f j x ≡ false → HasTold f (tell_side f j x) j x
  pub side_on : (f g : Forest) (j x : ℕ) → AreEntries f → j < length f.edges → (nth_edge f.edges j).feeds ≡ false
      → to_tell f j x ≡ true → comes_by_side f j x ≡ true → HasRisen (tell_side f j x) g (nth_edge f.edges j).big x
      → HasTold f g j x
  pub up : (f g : Forest) (j y : ℕ) → AreEntries f → j < length f.edges → (nth_edge f.edges j).feeds ≡ true
      → HasTold f g j y → HasRisen f g (nth_edge f.edges j).big y
  pub side_up : (f g : Forest) (j y : ℕ) → AreEntries f → j < length f.edges → (nth_edge f.edges j).feeds ≡ false
      → HaveTold f g j (list_of (nth_edge f.edges j) y) → HasRisen f g (nth_edge f.edges j).small y
  pub top : (f : Forest) (k y : ℕ) → ((j : ℕ) → j < length f.edges → lower (nth_edge f.edges j) ≡ k → ⊥) → HasRisen f f k y
  pub whole : (f g : Forest) (pending : ℕ → ℕ → Bool) (k y : ℕ) → AreEntries f → IsPendingOf f pending k y
      → ((i z : ℕ) → pending i z ≡ true → is_source f k y i z ≡ true) → HasRisen f g k y → IsForest g
