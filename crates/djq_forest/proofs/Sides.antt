-- An entry of a side has risen once all that are tied to it have been told.
use Rattle.std.specs.Prelude.{◌≡◌, ℕ, ◌<◌, Bool, true, false, cond, not, ◌==◌, ◌&&◌, ◌||◌, List, [], ◌∷◌, length}
use Rattle.std.proofs.Common.{refl, sym, ◌∙◌, ap, ap₂, subst, arith, inl, inr, eq-eqb, eqb-true}
use Rattle.std.proofs.lemmas.Bool.{cases_eq, ne_eqb}
use Rattle.djq_arena.specs.Chains.{AreDistinctSlots, IsOut}
use Rattle.djq_hypergraph.specs.Hypergraph.{member}
use Rattle.djq_forest.specs.Forest.{Forest, nth_edge, has_entry, lives, list_of}
use Rattle.djq_forest.specs.Invariants.{AreEntries, IsForest}
use Rattle.djq_forest.specs.Telling.{to_tell, target}
use Rattle.djq_forest.specs.Pending.{source_knot, source_slot, is_source, told_but, no_pending, IsToldBut}
use Rattle.djq_forest.specs.Rising.{HasSameEntries, LivesOn, IsDue, IsPendingOf, less_at, less_of, HaveTold, HasRisen, RisingSteps}
use Rattle.djq_forest.proofs.TieChanges.{not_member}
use Rattle.djq_forest.proofs.Alike.{same_lower}
use Rattle.djq_forest.proofs.Pendings.{pendings, of_life, life_source, choice_same, told_same, left_is, right_is, and_no, no_source}
use Rattle.djq_forest.proofs.Rises.{same_alike, same_self, same_on, same_sound, entry_same, to_tell_by}
use Rattle.djq_forest.proofs.Rises.{told_fed, told_fed_on, told_side, told_side_on, risen_up, risen_top}

-- ---- one after the other

pub have_same : (f g : Forest) (j : ℕ) (xs : List ℕ) → HaveTold f g j xs → HasSameEntries f g
have_same f g j [] t = subst (λ (e : Forest). HasSameEntries f e) t (same_self f)
have_same f g j (x ∷ xs) t = same_on f t.0 g t.1.same (have_same t.0 g j xs t.2)

pub have_on : (f g : Forest) (j : ℕ) (xs : List ℕ) → HaveTold f g j xs → LivesOn f g
have_on f g j [] t = subst (λ (e : Forest). LivesOn f e) t (λ k y alive. alive)
have_on f g j (x ∷ xs) t = λ k y alive. have_on t.0 g j xs t.2 k y (t.1.on k y alive)

-- what is to be told stays so
pub tell_on : (f h : Forest) (i z : ℕ) → HasSameEntries f h → LivesOn f h → to_tell f i z ≡ true → to_tell h i z ≡ true
tell_on f h i z same on tell =
    let entry = left_is (has_entry f.knots (nth_edge f.edges i).big z) (of_life f i z) tell in
    let life = right_is (has_entry f.knots (nth_edge f.edges i).big z) (of_life f i z) tell in
    let knot = same_lower f h i (same_alike f h same) in
    let slot : source_slot h i z ≡ source_slot f i z =
    choice_same (nth_edge f.edges i).feeds (nth_edge h.edges i).feeds z z (target h i z) (target f i z) (same.feeds i) refl
    ((same_alike f h same).tie i z) in
    to_tell_by h i z (entry_same f h i z same ∙ entry)
    (life_source h i z ∙ ap₂ (λ (a b : ℕ). lives h.knots a b) knot slot
    ∙ on (source_knot f i) (source_slot f i z) (sym (life_source f i z) ∙ life))

pub due_on : (f h : Forest) (pending : ℕ → ℕ → Bool) (j x : ℕ) → HasSameEntries f h → LivesOn f h → IsDue f pending
    → IsDue h (less_at pending j x)
due_on f h pending j x same on due = λ i z l e p. tell_on f h i z same on
    (due i z (let k = same.edges in omega arith) (sym (entry_same f h i z same) ∙ e)
    (left_is (pending i z) (not ((i == j) && (z == x))) p))

-- what is pending but for these slots
abbrev less_all : (ℕ → ℕ → Bool) → ℕ → List ℕ → ℕ → ℕ → Bool
less_all pending j [] i z = pending i z
less_all pending j (x ∷ xs) i z = less_all (less_at pending j x) j xs i z

pub less_true : (p a b : Bool) → p ≡ true → b ≡ false → (p && not (a && b)) ≡ true
less_true p a b h k = rw (h, k, and_no a) refl

pub distinct_parts : (x : ℕ) (xs : List ℕ) → AreDistinctSlots (x ∷ xs) → IsOut x xs × AreDistinctSlots xs
unfolding AreDistinctSlots
distinct_parts x xs d = d

pub first_in : (x : ℕ) (xs : List ℕ) → member x (x ∷ xs) ≡ true
first_in x xs = rw (eq-eqb x x refl) refl

pub later_in : (z x : ℕ) (xs : List ℕ) → member z xs ≡ true → member z (x ∷ xs) ≡ true
later_in z x xs h = or_true (z == x) (member z xs) h
  where
    or_true : (a b : Bool) → b ≡ true → (a || b) ≡ true
    or_true true b h = refl
    or_true false b h = h

pub later_other : (z x : ℕ) (xs : List ℕ) → IsOut x xs → member z xs ≡ true → z ≡ x → ⊥
later_other z x xs out m same =
    let here : member x xs ≡ true = ap (λ (n : ℕ). member n xs) (sym same) ∙ m in
    let both : true ≡ false = sym here ∙ not_member x xs out in
    cc

have_told : (f g : Forest) (pending : ℕ → ℕ → Bool) (j : ℕ) (xs : List ℕ) → HaveTold f g j xs → AreDistinctSlots xs
    → IsToldBut f pending → IsDue f pending
    → ((x : ℕ) → member x xs ≡ true → (to_tell f j x ≡ true) × (pending j x ≡ true)) → IsToldBut g (less_all pending j xs)
have_told f g pending j [] t d told due all = subst (λ (e : Forest). IsToldBut e pending) t told
have_told f g pending j (x ∷ xs) t d told due all =
    let h = t.0 in
    let first = all x (first_in x xs) in
    let parts = distinct_parts x xs d in
    have_told h g (less_at pending j x) j xs t.2 parts.1
    (t.1.told pending (record { told = told; due = due; tell = first.0; is = first.1 }))
    (due_on f h pending j x t.1.same t.1.on due)
    (λ z m.
    let each = all z (later_in z x xs m) in (
      tell_on f h j z t.1.same t.1.on each.0,
      less_true (pending j z) (j == j) (z == x) each.1 (ne_eqb z x (later_other z x xs parts.0 m)),
    ))

split_less : (p a b m : Bool) → ((p && not (a && b)) && not (a && m)) ≡ (p && not (a && (b || m)))
split_less false a b m = refl
split_less true false b m = refl
split_less true true true m = refl
split_less true true false m = refl

none_less : (p a : Bool) → p ≡ (p && not (a && false))
none_less true true = refl
none_less true false = refl
none_less false a = refl

less_is : (pending : ℕ → ℕ → Bool) (j : ℕ) (xs : List ℕ) (i z : ℕ)
    → less_all pending j xs i z ≡ (pending i z && not ((i == j) && member z xs))
less_is pending j [] i z = none_less (pending i z) (i == j)
less_is pending j (x ∷ xs) i z = less_is (less_at pending j x) j xs i z
    ∙ split_less (pending i z) (i == j) (z == x) (member z xs)

-- ---- up from a side

-- by an edge that has a side, an entry of that is told in the slots that are tied to it
side_source : (f : Forest) (j y z : ℕ) → (nth_edge f.edges j).feeds ≡ false
    → is_source f (nth_edge f.edges j).small y j z ≡ (target f j z == y)
side_source f j y z side =
    ap₂ (λ (a b : ℕ). (a == (nth_edge f.edges j).small) && (b == y))
    (ap (λ (b : Bool). cond b (nth_edge f.edges j).big (nth_edge f.edges j).small) side)
    (ap (λ (b : Bool). cond b z (target f j z)) side)
    ∙ ap (λ (b : Bool). b && (target f j z == y)) (eq-eqb (nth_edge f.edges j).small (nth_edge f.edges j).small refl)

tied_listed : (a feeds t e : Bool) → feeds ≡ false → e ≡ true → (a && cond feeds t e) ≡ a
tied_listed true feeds t e h k = rw (h, k) refl
tied_listed false feeds t e h k = refl

both_none : (t p q : Bool) → (t ≡ true → p ≡ q) → (t && not p) ≡ (t && not q)
both_none true p q h = rw (h refl) refl
both_none false p q h = refl

-- which slots are listed for it
pub listed_for : (f : Forest) (pending : ℕ → ℕ → Bool) (j y z : ℕ) → IsToldBut f pending → j < length f.edges
    → (nth_edge f.edges j).feeds ≡ false → has_entry f.knots (nth_edge f.edges j).big z ≡ true
    → member z (list_of (nth_edge f.edges j) y) ≡ (target f j z == y)
listed_for f pending j y z told l side e = told.listed j z y l
    ∙ tied_listed (target f j z == y) (nth_edge f.edges j).feeds (told_but f pending j z)
    (has_entry f.knots (nth_edge f.edges j).big z) side e

entry_of_listed : (a feeds t e : Bool) → feeds ≡ false → (a && cond feeds t e) ≡ true → e ≡ true
entry_of_listed true feeds t e h k = (let is : cond feeds t e ≡ e = rw h refl in sym is ∙ k)
entry_of_listed false feeds t e h k = absurd cc

less_same : (f : Forest) (pending : ℕ → ℕ → Bool) (j y i z : ℕ) → AreEntries f → IsToldBut f pending → j < length f.edges
    → i < length f.edges → (nth_edge f.edges j).feeds ≡ false → has_entry f.knots (nth_edge f.edges i).big z ≡ true
    → ((i == j) && member z (list_of (nth_edge f.edges j) y)) ≡ is_source f (nth_edge f.edges j).small y i z
less_same f pending j y i z a told l m side e =
    elim (cases_eq i j) [
      | inl here ↦
          let there = ap (λ (n : ℕ). has_entry f.knots (nth_edge f.edges n).big z) (sym here) ∙ e in
          subst (λ (n : ℕ). ((n == j) && member z (list_of (nth_edge f.edges j) y))
          ≡ is_source f (nth_edge f.edges j).small y n z) (sym here)
          (ap (λ (b : Bool). b && member z (list_of (nth_edge f.edges j) y)) (eq-eqb j j refl)
          ∙ listed_for f pending j y z told l side there ∙ sym (side_source f j y z side))
      | inr other ↦ ap (λ (b : Bool). b && member z (list_of (nth_edge f.edges j) y)) (ne_eqb i j other)
          ∙ sym (no_source (source_knot f i) (nth_edge f.edges j).small (source_slot f i z) y
          (λ same. other (a.shape.one_upper i j m l
          (same ∙ sym (ap (λ (b : Bool). cond b (nth_edge f.edges j).big (nth_edge f.edges j).small) side)))))
    ]

source_life : (f : Forest) (a k b y : ℕ) → ((a == k) && (b == y)) ≡ true → lives f.knots a b ≡ lives f.knots k y
source_life f a k b y is = ap₂ (λ (m n : ℕ). lives f.knots m n) (eqb-true a k (left_is (a == k) (b == y) is))
    (eqb-true b y (right_is (a == k) (b == y) is))

pub listed_pending : (f : Forest) (pending : ℕ → ℕ → Bool) (j y x : ℕ) → j < length f.edges
    → (nth_edge f.edges j).feeds ≡ false → IsPendingOf f pending (nth_edge f.edges j).small y
    → member x (list_of (nth_edge f.edges j) y) ≡ true → (to_tell f j x ≡ true) × (pending j x ≡ true)
listed_pending f pending j y x l side h is =
    let entry = entry_of_listed (target f j x == y) (nth_edge f.edges j).feeds (told_but f pending j x)
    (has_entry f.knots (nth_edge f.edges j).big x) side (sym (h.told.listed j x y l) ∙ is) in
    let own : is_source f (nth_edge f.edges j).small y j x ≡ true =
    side_source f j y x side ∙ sym (listed_for f pending j y x h.told l side entry) ∙ is in
    let life = life_source f j x
    ∙ source_life f (source_knot f j) (nth_edge f.edges j).small (source_slot f j x) y own ∙ h.lives in
    let tell = to_tell_by f j x entry life in
    (tell, h.all j x l own tell)

pub risen_side : (f g : Forest) (j y : ℕ) → AreEntries f → j < length f.edges → (nth_edge f.edges j).feeds ≡ false
    → HaveTold f g j (list_of (nth_edge f.edges j) y) → HasRisen f g (nth_edge f.edges j).small y
risen_side f g j y a l side t =
    let xs = list_of (nth_edge f.edges j) y in
    let same = have_same f g j xs t in
    record {
      same = same;
      on = have_on f g j xs t;
      told = λ pending h. told_same g (told_but g (less_all pending j xs))
          (told_but g (less_of f pending (nth_edge f.edges j).small y))
          (λ i z m. both_none (to_tell g i z) (less_all pending j xs i z)
          (less_of f pending (nth_edge f.edges j).small y i z)
          (λ tell. less_is pending j xs i z
          ∙ ap (λ (b : Bool). pending i z && not b) (less_same f pending j y i z a h.told l
          (let e = same.edges in omega arith) side
          (sym (entry_same f g i z same) ∙ left_is (has_entry g.knots (nth_edge g.edges i).big z) (of_life g i z) tell))))
          (have_told f g pending j xs t (h.told.once j y l) h.told h.due
          (λ x in_list. listed_pending f pending j y x l side h in_list));
    }

-- ---- at the end

less_none : (p s : Bool) → (p ≡ true → s ≡ true) → (p && not s) ≡ false
less_none true s h = rw (h refl) refl
less_none false s h = refl

risen_whole : (f g : Forest) (pending : ℕ → ℕ → Bool) (k y : ℕ) → AreEntries f → IsPendingOf f pending k y
    → ((i z : ℕ) → pending i z ≡ true → is_source f k y i z ≡ true) → HasRisen f g k y → IsForest g
risen_whole f g pending k y a h own risen = pendings.settled g (same_sound f g a risen.same)
    (told_same g (told_but g (less_of f pending k y)) (told_but g no_pending)
    (λ i z l. ap (λ (b : Bool). to_tell g i z && not b) (less_none (pending i z) (is_source f k y i z) (own i z)))
    (risen.told pending h))

-- ---- all steps

pub risings : RisingSteps
risings = record {
  entries = same_sound;
  fed = told_fed;
  fed_on = told_fed_on;
  side = told_side;
  side_on = told_side_on;
  up = risen_up;
  side_up = risen_side;
  top = risen_top;
  whole = risen_whole;
}
