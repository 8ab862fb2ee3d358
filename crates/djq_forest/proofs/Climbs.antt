-- On its way up an entry that came to live is told by one edge after the other.
use Rattle.std.specs.Prelude.{◌≡◌, ℕ, ◌<◌, ◌≤◌, Bool, true, false, cond, ◌==◌, ◌||◌, List, [], ◌∷◌, zero, suc, length, slice_index_or}
use Rattle.std.specs.Prelude.{Option, Some, None, MatchOption, IfSome}
use Rattle.std.specs.List.{sum_by}
use Rattle.std.proofs.Common.{refl, sym, ◌∙◌, ap, subst, arith}
use Rattle.std.proofs.lemmas.List.Sums.{sum_by-cons}
use Rattle.djq_forest.specs.Forest.{Knot, Forest, nth_knot, nth_edge, has_entry, missing_at, lives}
use Rattle.djq_forest.specs.Invariants.{AreEntries}
use Rattle.djq_forest.specs.Telling.{target, tell_fed}
use Rattle.djq_forest.specs.Pending.{told_but, pending_after, IsToldBut, comes_by_fed}
use Rattle.djq_forest.specs.Rising.{HasSameEntries, IsPendingOf, HasRisen, MayRise, AreUps, RisesWith, RiseStopsAt, height_left}
use Rattle.djq_forest.specs.Steps.{CanTellFed}
use Rattle.djq_forest.proofs.Checking.{knot_within}
use Rattle.djq_forest.proofs.Alike.{same_lower}
use Rattle.djq_forest.proofs.StepChanges.{steps}
use Rattle.djq_forest.proofs.Pendings.{can_be, fed_moves, life_fed, apart_fed, pending_fed, left_is}
use Rattle.djq_forest.proofs.Rises.{same_alike, same_fed, same_sound, pending_at, pending_came}
use Rattle.djq_forest.proofs.Sides.{risings}

-- ---- what stays

pub ups_same : (ups : List (Option ℕ)) (f g : Forest) → HasSameEntries f g → AreUps ups f → AreUps ups g
ups_same ups f g h u = record {
  long = let l = u.long in let k = h.knots in omega (arith, l, k);
  edge = λ k j is. (
    let l = (u.edge k j is).0 in let e = h.edges in omega (arith, l, e),
    same_lower f g j (same_alike f g h) ∙ (u.edge k j is).1,
  );
  none = λ k j is l up. u.none k j is (let e = h.edges in omega (arith, l, e)) (sym (same_lower f g j (same_alike f g h)) ∙ up);
}

-- ---- one step up

-- what is left to do on the way up may be said otherwise
pub option_on : {A : Type 0} (o : Option A) (P Q : Type 0) (R S : A → Type 0) → (P → Q) → ((a : A) → R a → S a)
    → MatchOption o P R → MatchOption o Q S
option_on None P Q R S f g h = f h
option_on (Some a) P Q R S f g h = g a h

-- the edge j leads up from the knot k and feeds
pub record LeadsUp (f : Forest) (k j : ℕ) : Type 0 where
  pub entries : AreEntries f
  pub within : j < length f.edges
  pub feeds : (nth_edge f.edges j).feeds ≡ true
  pub from : (nth_edge f.edges j).big ≡ k

pub leads_up : (ups : List (Option ℕ)) (f : Forest) (k j : ℕ) → AreEntries f → AreUps ups f → slice_index_or ups k None ≡ Some j
    → (nth_edge f.edges j).feeds ≡ true → LeadsUp f k j
leads_up ups f k j a u is feeds = record {
  entries = a;
  within = (u.edge k j is).0;
  feeds = feeds;
  from = sym (ap (λ (b : Bool). cond b (nth_edge f.edges j).big (nth_edge f.edges j).small) feeds) ∙ (u.edge k j is).1;
}

pending_big : (f : Forest) (pending : ℕ → ℕ → Bool) (k y j : ℕ) → LeadsUp f k j → IsPendingOf f pending k y
    → IsPendingOf f pending (nth_edge f.edges j).big y
pending_big f pending k y j u h = subst (λ (n : ℕ). IsPendingOf f pending n y) (sym u.from) h

pub climb_can : (f : Forest) (k y j : ℕ) → LeadsUp f k j → MayRise f k y → CanTellFed f j y
climb_can f k y j u rise =
    let h = pending_at f rise.0 j y u.entries u.within u.feeds (pending_big f rise.0 k y j u rise.1) in
    steps.fed f (told_but f rise.0) j y h.told (can_be f rise.0 j y u.entries u.within h.tell h.is) u.feeds

pub climb_may : (f : Forest) (k y j : ℕ) → LeadsUp f k j → MayRise f k y → comes_by_fed f j y ≡ true
    → MayRise (tell_fed f j y) (nth_edge f.edges j).small (target f j y)
climb_may f k y j u rise came =
    let s = (nth_edge f.edges j).small in
    let t = target f j y in
    let h = pending_at f rise.0 j y u.entries u.within u.feeds (pending_big f rise.0 k y j u rise.1) in
    let d = tell_fed f j y in (
      pending_after f rise.0 j y true s t,
      pending_came f d rise.0 j y s t (fed_moves f j y u.entries u.within h.tell)
          (life_fed f j y u.entries u.within h.tell ∙ ap (λ (c : Bool). lives f.knots s t || c) came)
          (apart_fed f j y u.entries u.within u.feeds) h.due
          (subst (λ (c : Bool). IsToldBut d (pending_after f rise.0 j y c s t)) came
          (pending_fed f rise.0 j y u.entries h.told u.within u.feeds h.tell h.is)),
    )

risen_from : (f g : Forest) (k y j : ℕ) → LeadsUp f k j → HasRisen f g (nth_edge f.edges j).big y → HasRisen f g k y
risen_from f g k y j u h = subst (λ (n : ℕ). HasRisen f g n y) u.from h

pub climb_stop : (f : Forest) (k y j : ℕ) → LeadsUp f k j → MayRise f k y → comes_by_fed f j y ≡ false
    → HasRisen f (tell_fed f j y) k y
climb_stop f k y j u rise none =
    let h = pending_at f rise.0 j y u.entries u.within u.feeds (pending_big f rise.0 k y j u rise.1) in
    risen_from f (tell_fed f j y) k y j u (risings.up f (tell_fed f j y) j y u.entries u.within u.feeds
    (risings.fed f j y u.entries u.within u.feeds h.tell none))

pub climb_on : (f : Forest) (k y j : ℕ) → LeadsUp f k j → MayRise f k y → comes_by_fed f j y ≡ true
    → RisesWith f (tell_fed f j y) k y (nth_edge f.edges j).small (target f j y)
climb_on f k y j u rise came g risen =
    let h = pending_at f rise.0 j y u.entries u.within u.feeds (pending_big f rise.0 k y j u rise.1) in
    risen_from f g k y j u (risings.up f g j y u.entries u.within u.feeds
    (risings.fed_on f g j y u.entries u.within u.feeds h.tell came risen))

pub climb_same : (f : Forest) (k y j : ℕ) → LeadsUp f k j → HasSameEntries f (tell_fed f j y)
climb_same f k y j u = same_fed f j y _ _ _ u.feeds

pub climb_sound : (f : Forest) (k y j : ℕ) → LeadsUp f k j → AreEntries (tell_fed f j y)
climb_sound f k y j u = same_sound f (tell_fed f j y) u.entries (climb_same f k y j u)

-- ---- how far it is

pub rank_low : (ks : List Knot) (k : ℕ) → (nth_knot ks k).rank ≤ sum_by (λ a. a.rank) ks
rank_low [] k = omega arith
rank_low (a ∷ ks) zero = let s = sum_by-cons (λ b. b.rank) a ks in omega (arith, s)
rank_low (a ∷ ks) (suc k) =
    let s = sum_by-cons (λ b. b.rank) a ks in let low = rank_low ks k in omega (arith, s, low)

pub ranks_same : (ks hs : List Knot) → length hs ≡ length ks → ((k : ℕ) → (nth_knot hs k).rank ≡ (nth_knot ks k).rank)
    → sum_by (λ a. a.rank) hs ≡ sum_by (λ a. a.rank) ks
ranks_same [] [] l h = refl
ranks_same [] (b ∷ hs) l h = absurd (omega arith)
ranks_same (a ∷ ks) [] l h = absurd (omega arith)
ranks_same (a ∷ ks) (b ∷ hs) l h =
    let here : b.rank ≡ a.rank = h 0 in
    let rest = ranks_same ks hs (omega arith) (λ k. h (suc k)) in
    omega (arith, sum_by-cons (λ c. c.rank) a ks, sum_by-cons (λ c. c.rank) b hs, here, rest)

pub climb_nearer : (f : Forest) (k y j : ℕ) → LeadsUp f k j
    → height_left (tell_fed f j y).knots (nth_edge f.edges j).small < height_left f.knots k
climb_nearer f k y j u =
    let s = (nth_edge f.edges j).small in
    let same = climb_same f k y j u in
    let sums = ranks_same f.knots (tell_fed f j y).knots same.knots same.rank in
    let there = same.rank s in
    let rises = u.entries.shape.rises j u.within in
    let low = ap (λ (b : Bool). (nth_knot f.knots (cond b (nth_edge f.edges j).big s)).rank) u.feeds
    ∙ ap (λ (n : ℕ). (nth_knot f.knots n).rank) u.from in
    let high = ap (λ (b : Bool). (nth_knot f.knots (cond b s (nth_edge f.edges j).big)).rank) u.feeds in
    let most = rank_low f.knots s in
    omega (arith, sums, there, rises, low, high, most)

pub may_within : (f : Forest) (k y : ℕ) → MayRise f k y → k < length f.knots
may_within f k y rise = knot_within f.knots k y
    (left_is (has_entry f.knots k y) (missing_at f.knots k y == 0) rise.1.lives)

-- ---- as the code has it

pub lead_by : (ups : List (Option ℕ)) (f : Forest) (k j : ℕ) (feeds : Bool) → AreEntries f → AreUps ups f
    → Some j ≡ slice_index_or ups k None → feeds ≡ (nth_edge f.edges j).feeds → feeds ≡ true → LeadsUp f k j
lead_by ups f k j feeds a u here fed does = leads_up ups f k j a u (sym here) (sym fed ∙ does)

-- the forest g, in which the entry in slot t of the knot s has come to live, is one step nearer
pub record Next (f g : Forest) (k y s t : ℕ) : Type 0 where
  pub nearer : height_left g.knots s < height_left f.knots k
  pub entries : AreEntries g
  pub same : HasSameEntries f g
  pub rise : MayRise g s t
  pub on : RisesWith f g k y s t

pub next_by : (f g : Forest) (k y j s t : ℕ) (came : Bool) → LeadsUp f k j → MayRise f k y → g ≡ tell_fed f j y
    → s ≡ (nth_edge f.edges j).small → t ≡ target f j y → came ≡ comes_by_fed f j y → came ≡ true → Next f g k y s t
next_by f g k y j s t came u rise is small to comes does = rw (is, small, to) (record {
  nearer = climb_nearer f k y j u;
  entries = climb_sound f k y j u;
  same = climb_same f k y j u;
  rise = climb_may f k y j u rise (sym comes ∙ does);
  on = climb_on f k y j u rise (sym comes ∙ does);
})

pub stop_same : (f g : Forest) (k y j : ℕ) → LeadsUp f k j → g ≡ tell_fed f j y → HasSameEntries f g
stop_same f g k y j u is = subst (λ (d : Forest). HasSameEntries f d) (sym is) (climb_same f k y j u)

pub stop_risen : (f g : Forest) (k y j : ℕ) (came : Bool) → LeadsUp f k j → MayRise f k y → g ≡ tell_fed f j y
    → came ≡ comes_by_fed f j y → came ≡ false → HasRisen f g k y
stop_risen f g k y j came u rise is comes not = subst (λ (d : Forest). HasRisen f d k y) (sym is)
    (climb_stop f k y j u rise (sym comes ∙ not))

-- ---- where it stops

pub stop_here : (ups : List (Option ℕ)) (f : Forest) (k y j : ℕ) (feeds : Bool) → AreUps ups f
    → Some j ≡ slice_index_or ups k None → feeds ≡ (nth_edge f.edges j).feeds → feeds ≡ false → MayRise f k y
    → RiseStopsAt f f k k j y
stop_here ups f k y j feeds u here fed not rise =
    let up = u.edge k j (sym here) in
    let side = sym fed ∙ not in
    record {
      rise = rise;
      edge = up.0;
      side = side;
      small = sym (ap (λ (b : Bool). cond b (nth_edge f.edges j).big (nth_edge f.edges j).small) side) ∙ up.1;
      higher = omega arith;
    }

stop_from : (f e g : Forest) (k s h j z : ℕ) → height_left e.knots s < height_left f.knots k → RiseStopsAt e g s h j z
    → RiseStopsAt f g k h j z
stop_from f e g k s h j z near at = record {
  rise = at.rise;
  edge = at.edge;
  side = at.side;
  small = at.small;
  higher = let high = at.higher in omega (arith, near, high);
}

pub some_on : {A : Type 0} (o : Option A) (R S : A → Type 0) → ((a : A) → R a → S a) → IfSome o R → IfSome o S
some_on None R S h i = i
some_on (Some a) R S h i = h a i

pub stops_from : {A : Type 0} (o : Option A) (knot edge slot : A → ℕ) (f e g : Forest) (k y s t : ℕ) → Next f e k y s t
    → IfSome o (λ a. RiseStopsAt e g s (knot a) (edge a) (slot a)) → IfSome o (λ a. RiseStopsAt f g k (knot a) (edge a) (slot a))
stops_from o knot edge slot f e g k y s t next = some_on o (λ a. RiseStopsAt e g s (knot a) (edge a) (slot a))
    (λ a. RiseStopsAt f g k (knot a) (edge a) (slot a))
    (λ a at. stop_from f e g k s (knot a) (edge a) (slot a) next.nearer at)
