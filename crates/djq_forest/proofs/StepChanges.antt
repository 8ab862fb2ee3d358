-- What a step of a change writes is what is told.
use Rattle.std.specs.Prelude.{◌≡◌, ℕ, zero, suc, ◌+◌, ◌<◌, ◌≤◌, Bool, true, false, cond, ◌==◌, ◌&&◌}
use Rattle.std.specs.Prelude.{List, [], length, slice_index_or, slice_set}
use Rattle.std.proofs.Common.{refl, ◌∙◌, ap, subst, arith, inl, inr, get_or-set_same, eq-eqb}
use Rattle.std.proofs.lemmas.Bool.{cases_lt}
use Rattle.std.proofs.lemmas.List.{get_or_past}
use Rattle.djq_hypergraph.specs.Hypergraph.{member, one}
use Rattle.djq_tree.specs.Counts.{how_many}
use Rattle.djq_forest.specs.declared.slots.TheConstants.{OUT}
use Rattle.djq_forest.specs.TieLists.{list_less, taken_out}
use Rattle.djq_forest.specs.EdgeTies.{edge_ties, put_ties}
use Rattle.djq_forest.specs.Forest.{Knot, Edge, Forest, nth_knot, nth_edge, has_entry, missing_at, tie_of, list_of}
use Rattle.djq_forest.specs.Invariants.{is_empty}
use Rattle.djq_forest.specs.Telling.{IsToldSoFar, CanBeTold, target, lacks}
use Rattle.djq_forest.specs.Steps.{IsTied, StepsCanBeTaken}
use Rattle.djq_forest.proofs.Checking.{slot_within, knot_within}
use Rattle.djq_forest.proofs.Rooms.{read_knot, read_edge}
use Rattle.djq_forest.proofs.Tellings.{many_some}

-- ---- what is written

pub written_knot : (ks : List Knot) (k : ℕ) (a h : Knot) (change : Knot → Knot) → k < length ks → a ≡ slice_index_or ks k a
    → h ≡ change a → slice_set ks k h ≡ slice_set ks k (change (nth_knot ks k))
written_knot ks k a h change l is new =
    ap (λ (b : Knot). slice_set ks k b) (new ∙ ap change (read_knot ks k a l is))

pub written_edge : (es : List Edge) (j : ℕ) (e g : Edge) (change : Edge → Edge) → j < length es → e ≡ slice_index_or es j e
    → g ≡ change e → slice_set es j g ≡ slice_set es j (change (nth_edge es j))
written_edge es j e g change l is new =
    ap (λ (b : Edge). slice_set es j b) (new ∙ ap change (read_edge es j e l is))

-- what is listed is listed for one of the slots
pub listed_inside : (e : Edge) (x y : ℕ) → member x (list_of e y) ≡ true → y < length e.lists
listed_inside e x y h =
    elim (cases_lt y (length e.lists)) [
      | inl l ↦ l
      | inr past ↦ absurd (let none : list_of e y ≡ [] = get_or_past e.lists y [] past in
          let k : member x [] ≡ true = subst (λ (ns : List ℕ). member x ns ≡ true) none h in cc)
    ]

pub list_left : (e g : Edge) (x : ℕ) → member x (list_of e (tie_of e x)) ≡ true → g ≡ put_ties e (taken_out (edge_ties e) x)
    → list_of g (tie_of e x) ≡ list_less x (list_of e (tie_of e x))
list_left e g x h is = ap (λ (a : Edge). list_of a (tie_of e x)) is
    ∙ get_or-set_same e.lists (tie_of e x) (list_less x (list_of e (tie_of e x))) [] (listed_inside e x (tie_of e x) h)

-- ---- what is tied lies within

pub tied_knot : (f : Forest) (j x : ℕ) → IsTied f j x → (nth_edge f.edges j).small < length f.knots
tied_knot f j x h = knot_within f.knots (nth_edge f.edges j).small (target f j x) h.tied

pub tied_big : (f : Forest) (j x : ℕ) → IsTied f j x → (nth_edge f.edges j).big < length f.knots
tied_big f j x h = knot_within f.knots (nth_edge f.edges j).big x h.entry

pub tied_tie : (f : Forest) (j x : ℕ) → IsTied f j x → x < length (nth_edge f.edges j).ties
tied_tie f j x h =
    let l = slot_within f.knots (nth_edge f.edges j).big x h.entry in
    let m = h.along.ties j h.edge in
    omega (arith, l, m)

pub tied_list : (f : Forest) (j x : ℕ) → IsTied f j x → target f j x < length (nth_edge f.edges j).lists
tied_list f j x h =
    let l = slot_within f.knots (nth_edge f.edges j).small (target f j x) h.tied in
    let m = h.along.lists j h.edge in
    omega (arith, l, m)

-- ---- what can be told

tied_by_told : (f : Forest) (told : ℕ → ℕ → Bool) (j x : ℕ) (b : Bool) → CanBeTold f told j x b → IsTied f j x
tied_by_told f told j x b c = record { edge = c.edge; along = c.along; entry = c.entry; tied = c.tied }

-- whether the slot is listed is what was told
listed_told : (f : Forest) (told : ℕ → ℕ → Bool) (j x : ℕ) (b : Bool) → IsToldSoFar f told → CanBeTold f told j x b
    → (nth_edge f.edges j).feeds ≡ true → member x (list_of (nth_edge f.edges j) (target f j x)) ≡ b
listed_told f told j x b h c feeds = h.listed j x (target f j x) c.edge
    ∙ here (target f j x == target f j x) (nth_edge f.edges j).feeds (told j x) (has_entry f.knots (nth_edge f.edges j).big x) b
    (eq-eqb (target f j x) (target f j x) refl) feeds c.was_told
  where
    here : (p q s t b : Bool) → p ≡ true → q ≡ true → s ≡ b → (p && cond q s t) ≡ b
    here p q s t b h k l = rw (h, k) l

lacks_fed : (f : Forest) (told : ℕ → ℕ → Bool) (j x : ℕ) → (nth_edge f.edges j).feeds ≡ true
    → is_empty (list_of (nth_edge f.edges j) x) ≡ true → lacks f told (nth_edge f.edges j).small x j ≡ true
lacks_fed f told j x feeds none = rw (feeds, eq-eqb (nth_edge f.edges j).small (nth_edge f.edges j).small refl, none) refl

lacks_side : (f : Forest) (told : ℕ → ℕ → Bool) (j x : ℕ) → (nth_edge f.edges j).feeds ≡ false → told j x ≡ false
    → lacks f told (nth_edge f.edges j).big x j ≡ true
lacks_side f told j x feeds none = rw (feeds, eq-eqb (nth_edge f.edges j).big (nth_edge f.edges j).big refl, none) refl

unmet_some : (f : Forest) (told : ℕ → ℕ → Bool) (k x j : ℕ) → IsToldSoFar f told → j < length f.edges
    → has_entry f.knots k x ≡ true → lacks f told k x j ≡ true → 0 < missing_at f.knots k x
unmet_some f told k x j h l i lacking =
    let some = many_some (lacks f told k x) (length f.edges) j l lacking in
    let is = h.missing k x i in
    omega (arith, some, is)

many_few : (p : ℕ → Bool) (n : ℕ) → how_many p n ≤ n
many_few p zero = omega arith
many_few p (suc n) = let k = many_few p n in let l = one_few (p n) in omega (arith, k, l)
  where
    one_few : (b : Bool) → one b ≤ 1
    one_few true = omega arith
    one_few false = omega arith

unmet_few : (f : Forest) (told : ℕ → ℕ → Bool) (k x : ℕ) → IsToldSoFar f told → has_entry f.knots k x ≡ true
    → length f.edges + 1 < OUT → missing_at f.knots k x + 1 < OUT
unmet_few f told k x h i few =
    let m = many_few (lacks f told k x) (length f.edges) in
    let is = h.missing k x i in
    omega (arith, m, is, few)

pub steps : StepsCanBeTaken
steps = record {
  fed = λ f told j x h c feeds. record {
    is_tied = tied_by_told f told j x false c;
    out = listed_told f told j x false h c feeds;
    unmet = λ none. unmet_some f told (nth_edge f.edges j).small (target f j x) j h c.edge c.tied
        (lacks_fed f told j (target f j x) feeds none);
  };
  fed_undone = λ f told j x few h c feeds. record {
    is_tied = tied_by_told f told j x true c;
    listed = listed_told f told j x true h c feeds;
    few = unmet_few f told (nth_edge f.edges j).small (target f j x) h c.tied few;
  };
  side = λ f told j x h c feeds. record {
    is_tied = tied_by_told f told j x false c;
    unmet = unmet_some f told (nth_edge f.edges j).big x j h c.edge c.entry (lacks_side f told j x feeds c.was_told);
  };
  side_undone = λ f told j x few h c feeds. record {
    is_tied = tied_by_told f told j x true c;
    few = unmet_few f told (nth_edge f.edges j).big x h c.entry few;
  };
}
