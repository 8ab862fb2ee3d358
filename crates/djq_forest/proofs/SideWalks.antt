-- A walk over the slots that an edge lists for an entry of a side: one after the other is told, and rises if it comes to
-- live.
use Rattle.std.specs.Prelude.{◌≡◌, ℕ, ◌-◌, ◌<◌, Bool, true, false, cond, not, ◌==◌, ◌||◌, List, [], ◌∷◌, ◌++◌, length}
use Rattle.std.specs.Prelude.{slice_index_or, Option, Some, None}
use Rattle.std.proofs.Common.{refl, sym, ◌∙◌, ap, subst, arith, eq-eqb, eqb-true}
use Rattle.std.proofs.lemmas.Bool.{ne_eqb}
use Rattle.djq_arena.specs.Chains.{AreDistinctSlots, first_of}
use Rattle.djq_hypergraph.specs.Hypergraph.{member}
use Rattle.djq_forest.specs.Forest.{Edge, Forest, nth_knot, nth_edge, has_entry, missing_at, lives, tie_of, list_of}
use Rattle.djq_forest.specs.Invariants.{AreEntries}
use Rattle.djq_forest.specs.Telling.{to_tell, target, tell_side}
use Rattle.djq_forest.specs.Pending.{told_but, pending_after, IsToldBut, comes_by_side}
use Rattle.djq_forest.specs.Rising.{HasSameEntries, IsDue, HasTold, HasRisen, HaveTold, MayRise, AreUps, RisesWith, RiseStopsAt}
use Rattle.djq_forest.specs.Rising.{less_at, height_left}
use Rattle.djq_forest.specs.Steps.{CanTellSide}
use Rattle.djq_forest.proofs.Checking.{slot_within}
use Rattle.djq_forest.proofs.StepChanges.{steps}
use Rattle.djq_forest.proofs.Pendings.{can_be, of_life, left_is, side_moves, life_side, apart_side, pending_side}
use Rattle.djq_forest.proofs.Rises.{same_side, same_sound, pending_came}
use Rattle.djq_forest.proofs.Sides.{risings, tell_on, due_on, less_true, distinct_parts, first_in, later_in, later_other}
use Rattle.djq_forest.proofs.Sides.{listed_for, listed_pending}
use Rattle.djq_forest.proofs.Climbs.{ups_same, rank_low, ranks_same}

-- ---- lists

abbrev slot_or : Option ℕ → ℕ
slot_or None = 0
slot_or (Some x) = x

split_first : (x : ℕ) (rest : List ℕ) → Some x ≡ first_of rest → (xs : List ℕ) × (rest ≡ x ∷ xs)
split_first x [] h = absurd cc
split_first x (z ∷ xs) h = (xs, ap (λ (n : ℕ). n ∷ xs) (sym (ap slot_or h)))

none_first : (rest : List ℕ) → None ≡ first_of rest → rest ≡ []
none_first [] h = refl
none_first (z ∷ xs) h = absurd cc

one_on : (done : List ℕ) (x : ℕ) (xs : List ℕ) → done ++ x ∷ xs ≡ (done ++ x ∷ []) ++ xs
one_on [] x xs = refl
one_on (d ∷ done) x xs = ap (λ (ns : List ℕ). d ∷ ns) (one_on done x xs)

member_mid : (done : List ℕ) (x : ℕ) (xs : List ℕ) → member x (done ++ x ∷ xs) ≡ true
member_mid [] x xs = first_in x xs
member_mid (d ∷ done) x xs = later_in x d (done ++ x ∷ xs) (member_mid done x xs)

-- a list from the first x on
abbrev pub from_slot : ℕ → List ℕ → List ℕ
from_slot x [] = []
from_slot x (y ∷ ys) = cond (x == y) (y ∷ ys) (from_slot x ys)

-- from a slot on, if there is one
abbrev pub left_from : Option ℕ → List ℕ → List ℕ
left_from None ys = []
left_from (Some x) ys = from_slot x ys

from_mid : (done : List ℕ) (x : ℕ) (xs : List ℕ) → AreDistinctSlots (done ++ x ∷ xs) → from_slot x (done ++ x ∷ xs) ≡ x ∷ xs
from_mid [] x xs d = rw (eq-eqb x x refl) refl
from_mid (z ∷ done) x xs d =
    let parts = distinct_parts z (done ++ x ∷ xs) d in
    let other = ne_eqb x z (later_other x z (done ++ x ∷ xs) parts.0 (member_mid done x xs)) in
    ap (λ (b : Bool). cond b (z ∷ done ++ x ∷ xs) (from_slot x (done ++ x ∷ xs))) other ∙ from_mid done x xs parts.1

left_is_rest : (done rest : List ℕ) → AreDistinctSlots (done ++ rest) → left_from (first_of rest) (done ++ rest) ≡ rest
left_is_rest done [] d = refl
left_is_rest done (x ∷ xs) d = from_mid done x xs d

-- ---- how far it is

pub height_same : (f g : Forest) (k : ℕ) → HasSameEntries f g → height_left g.knots k ≡ height_left f.knots k
height_same f g k same =
    let sums = ranks_same f.knots g.knots same.knots same.rank in
    let here = same.rank k in
    omega (arith, sums, here)

higher_big : (f : Forest) (j : ℕ) → AreEntries f → j < length f.edges → (nth_edge f.edges j).feeds ≡ false
    → height_left f.knots (nth_edge f.edges j).big < height_left f.knots (nth_edge f.edges j).small
higher_big f j a l side =
    let b = (nth_edge f.edges j).big in
    let s = (nth_edge f.edges j).small in
    let rises = a.shape.rises j l in
    let low = ap (λ (c : Bool). (nth_knot f.knots (cond c b s)).rank) side in
    let high = ap (λ (c : Bool). (nth_knot f.knots (cond c s b)).rank) side in
    let most = rank_low f.knots b in
    omega (arith, rises, low, high, most)

-- ---- what is ahead

-- in h these slots are still to be told by the edge j, which lists them for slot z; then the entry in slot y of the knot k
-- of f has risen
pub record Ahead (ups : List (Option ℕ)) (f h : Forest) (k y j z big : ℕ) (rest : List ℕ) : Type 0 where
  pub entries : AreEntries h
  pub ups_are : AreUps ups h
  pub within : j < length h.edges
  pub side : (nth_edge h.edges j).feeds ≡ false
  pub big_is : big ≡ (nth_edge h.edges j).big
  pub higher : height_left h.knots big < height_left f.knots k
  pub done : List ℕ
  pub whole : list_of (nth_edge h.edges j) z ≡ done ++ rest
  pub pending : ℕ → ℕ → Bool
  pub told : IsToldBut h pending
  pub due : IsDue h pending
  pub all : (x : ℕ) → member x rest ≡ true → (to_tell h j x ≡ true) × (pending j x ≡ true)
  pub once : AreDistinctSlots rest
  pub on : (g : Forest) → HaveTold h g j rest → HasRisen f g k y

-- the same from a slot on, if there is one
abbrev pub Walking : List (Option ℕ) → Forest → Forest → ℕ → ℕ → ℕ → ℕ → ℕ → Option ℕ → Type 0
Walking ups f h k y j z big at = (rest : List ℕ) × (at ≡ first_of rest) × Ahead ups f h k y j z big rest

pub walk_start : (ups : List (Option ℕ)) (f h : Forest) (k y s j z big : ℕ) (at : Option ℕ) → AreEntries f → AreUps ups f
    → HasSameEntries f h → RisesWith f h k y s z → RiseStopsAt f h k s j z → big ≡ (nth_edge h.edges j).big
    → at ≡ first_of (list_of (nth_edge h.edges j) z) → Walking ups f h k y j z big at
walk_start ups f h k y s j z big at a u same rises stop is first =
    let sound = same_sound f h a same in
    let p = subst (λ (n : ℕ). MayRise h n z) (sym stop.small) stop.rise in
    let near = higher_big h j sound stop.edge stop.side in
    let small = ap (λ (n : ℕ). height_left h.knots n) stop.small in
    let there = ap (λ (n : ℕ). height_left h.knots n) is in
    let high = stop.higher in (
      list_of (nth_edge h.edges j) z,
      first,
      record {
        entries = sound;
        ups_are = ups_same ups f h same u;
        within = stop.edge;
        side = stop.side;
        big_is = is;
        higher = omega (arith, near, small, there, high);
        done = [];
        whole = refl;
        pending = p.0;
        told = p.1.told;
        due = p.1.due;
        all = λ x m. listed_pending h p.0 j z x stop.edge stop.side p.1 m;
        once = p.1.told.once j z stop.edge;
        on = λ g t. rises g (subst (λ (n : ℕ). HasRisen h g n z) stop.small
            (risings.side_up h g j z sound stop.edge stop.side t));
      },
    )

ahead_on : (ups : List (Option ℕ)) (f h e : Forest) (k y j z big x : ℕ) (xs : List ℕ) → Ahead ups f h k y j z big (x ∷ xs)
    → HasTold h e j x → Ahead ups f e k y j z big xs
ahead_on ups f h e k y j z big x xs a t =
    let first = a.all x (first_in x xs) in
    let parts = distinct_parts x xs a.once in
    let heights = height_same h e big t.same in
    let high = a.higher in
    record {
      entries = same_sound h e a.entries t.same;
      ups_are = ups_same ups h e t.same a.ups_are;
      within = let l = a.within in let es = t.same.edges in omega (arith, l, es);
      side = t.same.feeds j ∙ a.side;
      big_is = a.big_is ∙ sym (t.same.big j);
      higher = omega (arith, heights, high);
      done = a.done ++ x ∷ [];
      whole = ap (λ (ls : List (List ℕ)). slice_index_or ls z []) (t.same.sides j a.side) ∙ a.whole ∙ one_on a.done x xs;
      pending = less_at a.pending j x;
      told = t.told a.pending (record { told = a.told; due = a.due; tell = first.0; is = first.1 });
      due = due_on h e a.pending j x t.same t.on a.due;
      all = λ i m.
          let each = a.all i (later_in i x xs m) in (
            tell_on h e j i t.same t.on each.0,
            less_true (a.pending j i) (j == j) (i == x) each.1 (ne_eqb i x (later_other i x xs parts.0 m)),
          );
      once = parts.1;
      on = λ g s. a.on g (e, t, s);
    }

ahead_of : (ups : List (Option ℕ)) (f h : Forest) (k y j z big x : ℕ) (at : Option ℕ) → Walking ups f h k y j z big at
    → Some x ≡ at → (xs : List ℕ) × Ahead ups f h k y j z big (x ∷ xs)
ahead_of ups f h k y j z big x at w here =
    let s = split_first x w.0 (here ∙ w.1) in
    (s.0, subst (λ (ns : List ℕ). Ahead ups f h k y j z big ns) s.1 w.2)

ahead_entry : (ups : List (Option ℕ)) (f h : Forest) (k y j z big x : ℕ) (xs : List ℕ) → Ahead ups f h k y j z big (x ∷ xs)
    → has_entry h.knots (nth_edge h.edges j).big x ≡ true
ahead_entry ups f h k y j z big x xs a = left_is (has_entry h.knots (nth_edge h.edges j).big x) (of_life h j x)
    (a.all x (first_in x xs)).0

-- the slots ahead are tied to slot z
ahead_tie : (ups : List (Option ℕ)) (f h : Forest) (k y j z big x : ℕ) (xs : List ℕ) → Ahead ups f h k y j z big (x ∷ xs)
    → tie_of (nth_edge h.edges j) x ≡ z
ahead_tie ups f h k y j z big x xs a = eqb-true (target h j x) z
    (sym (listed_for h a.pending j z x a.told a.within a.side (ahead_entry ups f h k y j z big x xs a))
    ∙ ap (λ (ns : List ℕ). member x ns) a.whole ∙ member_mid a.done x xs)

ahead_list : (ups : List (Option ℕ)) (f h : Forest) (k y j z big x : ℕ) (xs : List ℕ) → (a : Ahead ups f h k y j z big (x ∷ xs))
    → list_of (nth_edge h.edges j) (tie_of (nth_edge h.edges j) x) ≡ a.done ++ x ∷ xs
ahead_list ups f h k y j z big x xs a =
    ap (λ (n : ℕ). list_of (nth_edge h.edges j) n) (ahead_tie ups f h k y j z big x xs a) ∙ a.whole

ahead_can : (ups : List (Option ℕ)) (f h : Forest) (k y j z big x : ℕ) (xs : List ℕ) → Ahead ups f h k y j z big (x ∷ xs)
    → CanTellSide h j x
ahead_can ups f h k y j z big x xs a =
    let first = a.all x (first_in x xs) in
    steps.side h (told_but h a.pending) j x a.told (can_be h a.pending j x a.entries a.within first.0 first.1) a.side

ahead_may : (ups : List (Option ℕ)) (f h : Forest) (k y j z big x : ℕ) (xs : List ℕ) → Ahead ups f h k y j z big (x ∷ xs)
    → comes_by_side h j x ≡ true → MayRise (tell_side h j x) (nth_edge h.edges j).big x
ahead_may ups f h k y j z big x xs a came =
    let b = (nth_edge h.edges j).big in
    let first = a.all x (first_in x xs) in
    let d = tell_side h j x in (
      pending_after h a.pending j x true b x,
      pending_came h d a.pending j x b x (side_moves h j x first.0)
          (life_side h j x a.entries first.0 ∙ ap (λ (c : Bool). lives h.knots b x || c) came)
          (apart_side h j x a.entries a.within a.side) a.due
          (subst (λ (c : Bool). IsToldBut d (pending_after h a.pending j x c b x)) came
          (pending_side h a.pending j x a.entries a.told a.within a.side first.0 first.1)),
    )

-- ---- as the code has it

pub walk_within : (ups : List (Option ℕ)) (f h : Forest) (k y j z big : ℕ) (at : Option ℕ) → Walking ups f h k y j z big at
    → j < length h.edges
walk_within ups f h k y j z big at w = w.2.within

pub walk_listed : (ups : List (Option ℕ)) (f h : Forest) (k y j z big x : ℕ) (at : Option ℕ) → Walking ups f h k y j z big at
    → Some x ≡ at → member x (list_of (nth_edge h.edges j) (tie_of (nth_edge h.edges j) x)) ≡ true
walk_listed ups f h k y j z big x at w here =
    let a = ahead_of ups f h k y j z big x at w here in
    ap (λ (ns : List ℕ). member x ns) (ahead_list ups f h k y j z big x a.0 a.1) ∙ member_mid a.1.done x a.0

pub walk_can : (ups : List (Option ℕ)) (f h : Forest) (k y j z big x : ℕ) (at : Option ℕ) → Walking ups f h k y j z big at
    → Some x ≡ at → CanTellSide h j x
walk_can ups f h k y j z big x at w here =
    let a = ahead_of ups f h k y j z big x at w here in
    ahead_can ups f h k y j z big x a.0 a.1

-- what follows slot x in its list
abbrev pub Follows : Forest → ℕ → ℕ → Option ℕ → Type 0
Follows h j x next = (xs ys : List ℕ) → list_of (nth_edge h.edges j) (tie_of (nth_edge h.edges j) x) ≡ xs ++ x ∷ ys
    → next ≡ first_of ys

-- slot x was told in h, and nothing came to live by it
pub walk_stay : (ups : List (Option ℕ)) (f h g : Forest) (k y j z big x : ℕ) (at next : Option ℕ) (came : Bool)
    → Walking ups f h k y j z big at → Some x ≡ at → Follows h j x next → g ≡ tell_side h j x
    → came ≡ comes_by_side h j x → came ≡ false → Walking ups f g k y j z big next
walk_stay ups f h g k y j z big x at next came w here follows is comes not =
    let a = ahead_of ups f h k y j z big x at w here in
    let first = a.1.all x (first_in x a.0) in (
      a.0,
      follows a.1.done a.0 (ahead_list ups f h k y j z big x a.0 a.1),
      ahead_on ups f h g k y j z big x a.0 a.1 (subst (λ (d : Forest). HasTold h d j x) (sym is)
          (risings.side h j x a.1.entries a.1.within a.1.side first.0 (sym comes ∙ not))),
    )

-- slot x was told in h, and it came to live in g, where it may rise
pub record Came (ups : List (Option ℕ)) (f g : Forest) (k big x : ℕ) : Type 0 where
  pub nearer : height_left g.knots big < height_left f.knots k
  pub entries : AreEntries g
  pub ups_are : AreUps ups g
  pub rise : MayRise g big x

pub walk_came : (ups : List (Option ℕ)) (f h g : Forest) (k y j z big x : ℕ) (at : Option ℕ) (came : Bool)
    → Walking ups f h k y j z big at → Some x ≡ at → g ≡ tell_side h j x
    → came ≡ comes_by_side h j x → came ≡ true → Came ups f g k big x
walk_came ups f h g k y j z big x at came w here is comes does =
    let a = ahead_of ups f h k y j z big x at w here in
    let d = tell_side h j x in
    let same : HasSameEntries h d =
    same_side h (nth_edge h.edges j).big x (missing_at h.knots (nth_edge h.edges j).big x - 1) in
    let heights = height_same h d big same in
    let high = a.1.higher in
    rw is (record {
      nearer = omega (arith, heights, high);
      entries = same_sound h d a.1.entries same;
      ups_are = ups_same ups h d same a.1.ups_are;
      rise = subst (λ (n : ℕ). MayRise d n x) (sym a.1.big_is)
          (ahead_may ups f h k y j z big x a.0 a.1 (sym comes ∙ does));
    })

pub walk_rise : (ups : List (Option ℕ)) (f h g e : Forest) (k y j z big x : ℕ) (at next : Option ℕ) (came : Bool)
    → Walking ups f h k y j z big at → Some x ≡ at → Follows h j x next → g ≡ tell_side h j x
    → came ≡ comes_by_side h j x → came ≡ true → HasRisen g e big x → Walking ups f e k y j z big next
walk_rise ups f h g e k y j z big x at next came w here follows is comes does risen =
    let a = ahead_of ups f h k y j z big x at w here in
    let first = a.1.all x (first_in x a.0) in (
      a.0,
      follows a.1.done a.0 (ahead_list ups f h k y j z big x a.0 a.1),
      ahead_on ups f h e k y j z big x a.0 a.1
          (risings.side_on h e j x a.1.entries a.1.within a.1.side first.0 (sym comes ∙ does)
          (subst (λ (d : Forest). HasRisen d e (nth_edge h.edges j).big x) is
          (subst (λ (n : ℕ). HasRisen g e n x) a.1.big_is risen))),
    )

pub walk_end : (ups : List (Option ℕ)) (f h : Forest) (k y j z big : ℕ) (at : Option ℕ) → Walking ups f h k y j z big at
    → None ≡ at → HasRisen f h k y
walk_end ups f h k y j z big at w end =
    let a = subst (λ (ns : List ℕ). Ahead ups f h k y j z big ns) (none_first w.0 (end ∙ w.1)) w.2 in
    a.on h refl

-- ---- it ends

pub walk_nearer : (ups : List (Option ℕ)) (f h : Forest) (k y j z big x : ℕ) (at next : Option ℕ) (ns : List ℕ)
    → Walking ups f h k y j z big at → Some x ≡ at → Follows h j x next → ns ≡ list_of (nth_edge h.edges j) z
    → length (left_from next ns) < length (left_from at (list_of (nth_edge h.edges j) z))
walk_nearer ups f h k y j z big x at next ns w here follows is =
    let a = ahead_of ups f h k y j z big x at w here in
    let once = subst (λ (ms : List ℕ). AreDistinctSlots ms) a.1.whole (a.1.told.once j z a.1.within) in
    let old : left_from at (list_of (nth_edge h.edges j) z) ≡ x ∷ a.0 =
    ap (λ (o : Option ℕ). left_from o (list_of (nth_edge h.edges j) z)) (sym here)
    ∙ ap (λ (ms : List ℕ). from_slot x ms) a.1.whole ∙ from_mid a.1.done x a.0 once in
    let new : left_from next ns ≡ a.0 =
    ap (λ (o : Option ℕ). left_from o ns) (follows a.1.done a.0 (ahead_list ups f h k y j z big x a.0 a.1))
    ∙ ap (λ (ms : List ℕ). left_from (first_of a.0) ms) (is ∙ a.1.whole ∙ one_on a.1.done x a.0)
    ∙ left_is_rest (a.1.done ++ x ∷ []) a.0
    (subst (λ (ms : List ℕ). AreDistinctSlots ms) (one_on a.1.done x a.0) once) in
    let more = ap (λ (ms : List ℕ). length ms) old in
    let less = ap (λ (ms : List ℕ). length ms) new in
    omega (arith, more, less)

-- the list stays while slot x is told, and all that hangs on it
pub walk_listing : (ups : List (Option ℕ)) (f h g e : Forest) (k y j z big x : ℕ) (at : Option ℕ)
    → Walking ups f h k y j z big at → g ≡ tell_side h j x → HasRisen g e big x
    → list_of (nth_edge e.edges j) z ≡ list_of (nth_edge h.edges j) z
walk_listing ups f h g e k y j z big x at w is risen =
    let edges = ap (λ (d : Forest). nth_edge d.edges j) is in
    ap (λ (ls : List (List ℕ)). slice_index_or ls z [])
    (risen.same.sides j (ap (λ (a : Edge). a.feeds) edges ∙ w.2.side) ∙ ap (λ (a : Edge). a.lists) edges)

-- ---- the walk begins

pub stop_listed : (f h : Forest) (k s j z : ℕ) → AreEntries f → HasSameEntries f h → RiseStopsAt f h k s j z
    → z < length (nth_edge h.edges j).lists
stop_listed f h k s j z a same stop =
    let entry = left_is (has_entry h.knots s z) (missing_at h.knots s z == 0) stop.rise.1.lives in
    let slots = slot_within h.knots s z entry in
    let places = (same_sound f h a same).along.lists j stop.edge in
    let small = ap (λ (n : ℕ). length (nth_knot h.knots n).tuples) stop.small in
    omega (arith, slots, places, small)
