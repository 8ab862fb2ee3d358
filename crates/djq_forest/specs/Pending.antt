-- A forest in the midst of a change by which entries become live, or cease to be: what is still to be propagated.
use Rattle.std.specs.Prelude.{◌≡◌, ℕ, ◌-◌, ◌<◌, Bool, true, false, cond, not, ◌==◌, ◌&&◌, ◌||◌, length}
use Rattle.djq_forest.specs.TieLists.{list_less}
use Rattle.djq_forest.specs.Forest.{Forest, nth_edge, has_entry, missing_at, lives, list_of}
use Rattle.djq_forest.specs.Shape.{lower}
use Rattle.djq_forest.specs.Invariants.{AreEntries, IsForest, is_empty}
use Rattle.djq_forest.specs.Telling.{IsToldSoFar, to_tell, target, tell_fed, untell_fed, tell_side, untell_side}

-- the entry that the edge j propagates to slot x: if it feeds, the one in that slot of its big knot, else the side of it
abbrev pub source_knot : Forest → ℕ → ℕ
source_knot f j = lower (nth_edge f.edges j)

-- its slot
abbrev pub source_slot : Forest → ℕ → ℕ → ℕ
source_slot f j x = cond (nth_edge f.edges j).feeds x (target f j x)

-- whether that is the entry in slot y of the knot k
abbrev pub is_source : Forest → ℕ → ℕ → ℕ → ℕ → Bool
is_source f k y j x = (source_knot f j == k) && (source_slot f j x == y)

-- what there is to propagate, but for what is pending
abbrev pub told_but : Forest → (ℕ → ℕ → Bool) → ℕ → ℕ → Bool
told_but f pending j x = to_tell f j x && not (pending j x)

-- that has been propagated
abbrev pub IsToldBut : Forest → (ℕ → ℕ → Bool) → Type 0
IsToldBut f pending = IsToldSoFar f (told_but f pending)

-- what there is to propagate, and besides what was propagated of entries that have ceased to live since, which is pending
abbrev pub told_besides : Forest → (ℕ → ℕ → Bool) → ℕ → ℕ → Bool
told_besides f pending j x = has_entry f.knots (nth_edge f.edges j).big x && (cond (nth_edge f.edges j).feeds
    (lives f.knots (nth_edge f.edges j).big x) (lives f.knots (nth_edge f.edges j).small (target f j x)) || pending j x)

-- that has been propagated
abbrev pub IsToldBesides : Forest → (ℕ → ℕ → Bool) → Type 0
IsToldBesides f pending = IsToldSoFar f (told_besides f pending)

-- nothing is pending
abbrev pub no_pending : ℕ → ℕ → Bool
no_pending j x = false

-- what is pending once the edge j has propagated to slot x; and if by this the entry in slot y of the knot k became live,
-- or ceased to be, what is to be propagated of that
abbrev pub pending_after : Forest → (ℕ → ℕ → Bool) → ℕ → ℕ → Bool → ℕ → ℕ → ℕ → ℕ → Bool
pending_after f pending j x came k y i z = cond ((i == j) && (z == x)) false (pending i z || (came && is_source f k y i z))

-- whether the entry that slot x is tied to becomes live if the edge j, which feeds, propagates that the one in slot x does
abbrev pub comes_by_fed : Forest → ℕ → ℕ → Bool
comes_by_fed f j x = is_empty (list_of (nth_edge f.edges j) (target f j x))
    && (missing_at f.knots (nth_edge f.edges j).small (target f j x) - 1 == 0)

-- whether the entry in slot x becomes live if its side by the edge j does
abbrev pub comes_by_side : Forest → ℕ → ℕ → Bool
comes_by_side f j x = missing_at f.knots (nth_edge f.edges j).big x - 1 == 0

-- whether the entry that slot x is tied to ceases to live if the edge j, which feeds, propagates that the one in slot x
-- does
abbrev pub goes_by_fed : Forest → ℕ → ℕ → Bool
goes_by_fed f j x = is_empty (list_less x (list_of (nth_edge f.edges j) (target f j x)))
    && (missing_at f.knots (nth_edge f.edges j).small (target f j x) == 0)

-- whether the entry in slot x ceases to live if its side by the edge j does
abbrev pub goes_by_side : Forest → ℕ → ℕ → Bool
goes_by_side f j x = missing_at f.knots (nth_edge f.edges j).big x == 0

-- if nothing is pending the forest is whole; and what is propagated is pending no more, but what became live by it is, or
-- what ceased to be
pub record PendingMoves : Type 0 where
  pub whole : (f : Forest) → IsForest f → IsToldBut f no_pending
  pub settled : (f : Forest) → AreEntries f → IsToldBut f no_pending → IsForest f
  pub fed : (f : Forest) (pending : ℕ → ℕ → Bool) (j x : ℕ) → AreEntries f → IsToldBut f pending → j < length f.edges
      → (nth_edge f.edges j).feeds ≡ true → to_tell f j x ≡ true → pending j x ≡ true
      → IsToldBut (tell_fed f j x)
      (pending_after f pending j x (comes_by_fed f j x) (nth_edge f.edges j).small (target f j x))
  pub side : (f : Forest) (pending : ℕ → ℕ → Bool) (j x : ℕ) → AreEntries f → IsToldBut f pending → j < length f.edges
      → (nth_edge f.edges j).feeds ≡ false → to_tell f j x ≡ true → pending j x ≡ true
      → IsToldBut (tell_side f j x) (pending_after f pending j x (comes_by_side f j x) (nth_edge f.edges j).big x)
  pub whole_besides : (f : Forest) → IsForest f → IsToldBesides f no_pending
  pub settled_besides : (f : Forest) → AreEntries f → IsToldBesides f no_pending → IsForest f
  pub fed_undone : (f : Forest) (pending : ℕ → ℕ → Bool) (j x : ℕ) → AreEntries f → IsToldBesides f pending
      → j < length f.edges → (nth_edge f.edges j).feeds ≡ true → has_entry f.knots (nth_edge f.edges j).big x ≡ true
      → lives f.knots (nth_edge f.edges j).big x ≡ false → pending j x ≡ true
      → IsToldBesides (untell_fed f j x)
      (pending_after f pending j x (goes_by_fed f j x) (nth_edge f.edges j).small (target f j x))
  pub side_undone : (f : Forest) (pending : ℕ → ℕ → Bool) (j x : ℕ) → AreEntries f → IsToldBesides f pending
      → j < length f.edges → (nth_edge f.edges j).feeds ≡ false → has_entry f.knots (nth_edge f.edges j).big x ≡ true
      → lives f.knots (nth_edge f.edges j).small (target f j x) ≡ false → pending j x ≡ true
      → IsToldBesides (untell_side f j x) (pending_after f pending j x (goes_by_side f j x) (nth_edge f.edges j).big x)
