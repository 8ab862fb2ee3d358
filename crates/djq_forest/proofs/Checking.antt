-- A forest is one where each of its slots passes what can be tested of it.
use Rattle.std.specs.Prelude.{◌≡◌, ℕ, zero, suc, ◌<◌, ◌≤◌, Bool, true, false, cond, not, ◌==◌, ◌&&◌, ◌||◌, nat_lt, nat_le}
use Rattle.std.specs.Prelude.{List, [], ◌∷◌, length, Option, None, is_some, slice_index_or}
use Rattle.std.proofs.Common.{refl, sym, ◌∙◌, ap, subst, arith, inl, inr, eqb-true, eq-eqb}
use Rattle.std.proofs.lemmas.List.{get_or_past}
use Rattle.djq_arena.specs.Chains.{AreDistinctSlots}
use Rattle.djq_forest.specs.Tuple.{same_tuple, projection}
use Rattle.djq_forest.specs.Forest.{entry_tuple, refs_at}
use Rattle.djq_forest.specs.Shape.{upper, lower}
use Rattle.djq_forest.specs.Invariants.{IsForest, tied_to, unmet}
use Rattle.djq_forest.proofs.Tuples.{same_is, is_same}
use Rattle.djq_forest.proofs.TieChanges.{member_not}
use Rattle.std.proofs.lemmas.Bool.{cases_eq, cases_lt, ltb-true, leb-true, ne_eqb}
use Rattle.djq_hypergraph.specs.Hypergraph.{member}
use Rattle.djq_forest.specs.Forest.{Knot, Edge, Forest, nth_knot, nth_edge, has_entry}
use Rattle.djq_forest.specs.Forest.{missing_at, tie_of, list_of}
use Rattle.djq_forest.specs.Invariants.{is_to_list}

-- whether each number below n passes the test
abbrev pub all_below : ℕ → (ℕ → Bool) → Bool
all_below zero test = true
all_below (suc n) test = test n && all_below n test

and_first : (a b : Bool) → (a && b) ≡ true → a ≡ true
and_first true b h = refl
and_first false b h = absurd cc

and_second : (a b : Bool) → (a && b) ≡ true → b ≡ true
and_second true b h = h
and_second false b h = absurd cc

pub all_passed : (n : ℕ) (test : ℕ → Bool) → all_below n test ≡ true → (k : ℕ) → k < n → test k ≡ true
all_passed zero test h k l = absurd (omega arith)
all_passed (suc n) test h k l =
    elim (cases_eq k n) [
      | inl same ↦ subst (λ (i : ℕ). test i ≡ true) (sym same) (and_first (test n) (all_below n test) h)
      | inr other ↦ all_passed n test (and_second (test n) (all_below n test) h) k (omega arith)
    ]

-- whether the one is true, the other is
abbrev pub implied : Bool → Bool → Bool
implied a b = not a || b

pub given : (a b : Bool) → implied a b ≡ true → a ≡ true → b ≡ true
given true b h k = h
given false b h k = absurd cc

-- an entry lies within its knot's slots, and its knot is one of the forest's
some_within : (us : List (Option (List ℕ))) (x : ℕ) → is_some (slice_index_or us x None) ≡ true → x < length us
some_within [] x h = absurd cc
some_within (u ∷ us) zero h = omega arith
some_within (u ∷ us) (suc x) h = omega (arith, some_within us x h)

pub slot_within : (ks : List Knot) (k x : ℕ) → has_entry ks k x ≡ true → x < length (nth_knot ks k).tuples
slot_within ks k x h = some_within (nth_knot ks k).tuples x h

pub knot_within : (ks : List Knot) (k x : ℕ) → has_entry ks k x ≡ true → k < length ks
knot_within [] k x h = absurd cc
knot_within (j ∷ ks) zero x h = omega arith
knot_within (j ∷ ks) (suc k) x h = omega (arith, knot_within ks k x h)

-- whether each entry passes the test
abbrev pub each_entry : Forest → (ℕ → ℕ → Bool) → Bool
each_entry f test = all_below (length f.knots)
    (λ k. all_below (length (nth_knot f.knots k).tuples) (λ x. implied (has_entry f.knots k x) (test k x)))

-- whether each entry of each edge's big knot does
abbrev pub each_tie : Forest → (ℕ → ℕ → Bool) → Bool
each_tie f test = all_below (length f.edges)
    (λ j. all_below (length (nth_knot f.knots (nth_edge f.edges j).big).tuples)
    (λ x. implied (has_entry f.knots (nth_edge f.edges j).big x) (test j x)))

-- each entry passes what is tested at each slot
pub at_entries : (ks : List Knot) (test : ℕ → ℕ → Bool)
    → all_below (length ks) (λ k. all_below (length (nth_knot ks k).tuples) (λ x. implied (has_entry ks k x) (test k x))) ≡ true
    → (k x : ℕ) → has_entry ks k x ≡ true → test k x ≡ true
at_entries ks test h k x i =
    given (has_entry ks k x) (test k x)
    (all_passed (length (nth_knot ks k).tuples) (λ x. implied (has_entry ks k x) (test k x))
    (all_passed (length ks) (λ k. all_below (length (nth_knot ks k).tuples) (λ x. implied (has_entry ks k x) (test k x))) h k
    (knot_within ks k x i)) x (slot_within ks k x i)) i

-- the same at each edge
pub at_edges : (es : List Edge) (test : ℕ → Bool) → all_below (length es) test ≡ true → (j : ℕ) → j < length es
    → test j ≡ true
at_edges es test h j l = all_passed (length es) test h j l

-- what is tested of entries of each edge's big knot
pub at_ties : (f : Forest) (test : ℕ → ℕ → Bool)
    → all_below (length f.edges) (λ j. all_below (length (nth_knot f.knots (nth_edge f.edges j).big).tuples)
    (λ x. implied (has_entry f.knots (nth_edge f.edges j).big x) (test j x))) ≡ true
    → (j x : ℕ) → j < length f.edges → has_entry f.knots (nth_edge f.edges j).big x ≡ true → test j x ≡ true
at_ties f test h j x l i =
    given (has_entry f.knots (nth_edge f.edges j).big x) (test j x)
    (all_passed (length (nth_knot f.knots (nth_edge f.edges j).big).tuples)
    (λ x. implied (has_entry f.knots (nth_edge f.edges j).big x) (test j x))
    (all_passed (length f.edges) (λ j. all_below (length (nth_knot f.knots (nth_edge f.edges j).big).tuples)
    (λ x. implied (has_entry f.knots (nth_edge f.edges j).big x) (test j x))) h j l) x
    (slot_within f.knots (nth_edge f.edges j).big x i)) i

-- whether two truths are the same
abbrev pub agree : Bool → Bool → Bool
agree true b = b
agree false b = not b

pub agreed : (a b : Bool) → agree a b ≡ true → a ≡ b
agreed true b h = sym h
agreed false true h = absurd cc
agreed false false h = refl

-- whether each of a list is below n
abbrev pub all_less : ℕ → List ℕ → Bool
all_less n [] = true
all_less n (x ∷ xs) = nat_lt x n && all_less n xs

less_out : (n x : ℕ) (xs : List ℕ) → all_less n xs ≡ true → n ≤ x → member x xs ≡ false
less_out n x [] h l = refl
less_out n x (y ∷ ys) h l =
    let below : y < n = ltb-true y n (and_first (nat_lt y n) (all_less n ys) h) in
    rw (ne_eqb x y (λ same. omega arith), less_out n x ys (and_second (nat_lt y n) (all_less n ys) h) l) refl

-- a list past the end is empty
past_end : (ls : List (List ℕ)) (y : ℕ) → length ls ≤ y → slice_index_or ls y [] ≡ []
past_end [] y h = refl
past_end (l ∷ ls) zero h = absurd (omega arith)
past_end (l ∷ ls) (suc y) h = past_end ls y (omega arith)

untrue : (b : Bool) → (b ≡ true → ⊥) → b ≡ false
untrue true h = absurd (h refl)
untrue false h = refl

out_unlisted : (here feeds within zero_missing : Bool) → within ≡ false
    → (here && cond feeds (within && zero_missing) within) ≡ false
out_unlisted true true within m h = rw h refl
out_unlisted true false within m h = h
out_unlisted false feeds within m h = refl

other_unlisted : (here feeds within zero_missing : Bool) → (here ≡ true → within ≡ true → ⊥)
    → (here && cond feeds (within && zero_missing) within) ≡ false
other_unlisted true feeds within m h = out_unlisted true feeds within m (untrue within (h refl))
other_unlisted false feeds within m h = refl

-- whether the edge j lists no slot past its big knot's, and whether it lists what it has to
abbrev pub lists_below : Forest → ℕ → Bool
lists_below f j = all_below (length (nth_edge f.edges j).lists)
    (λ y. all_less (length (nth_knot f.knots (nth_edge f.edges j).big).tuples) (list_of (nth_edge f.edges j) y))

abbrev pub lists_right : Forest → ℕ → Bool
lists_right f j = all_below (length (nth_edge f.edges j).lists)
    (λ y. all_below (length (nth_knot f.knots (nth_edge f.edges j).big).tuples)
    (λ x. agree (member x (list_of (nth_edge f.edges j) y)) (is_to_list f.knots (nth_edge f.edges j) x y)))

-- each edge lists what it has to, where it does within its arrays
pub at_lists : (f : Forest)
    → ((j x : ℕ) → j < length f.edges → has_entry f.knots (nth_edge f.edges j).big x ≡ true
    → has_entry f.knots (nth_edge f.edges j).small (tie_of (nth_edge f.edges j) x) ≡ true)
    → ((j : ℕ) → j < length f.edges → length (nth_knot f.knots (nth_edge f.edges j).small).tuples
    ≤ length (nth_edge f.edges j).lists)
    → all_below (length f.edges) (lists_below f) ≡ true → all_below (length f.edges) (lists_right f) ≡ true
    → (j x y : ℕ) → j < length f.edges → member x (list_of (nth_edge f.edges j) y)
    ≡ is_to_list f.knots (nth_edge f.edges j) x y
at_lists f tied long less same j x y l =
    let e = nth_edge f.edges j in
    let n = length (nth_knot f.knots e.big).tuples in
    elim (cases_lt y (length e.lists)) [
      | inl inside ↦
          elim (cases_lt x n) [
            | inl within ↦ agreed (member x (list_of e y)) (is_to_list f.knots e x y)
                (all_passed n (λ x. agree (member x (list_of e y)) (is_to_list f.knots e x y))
                (all_passed (length e.lists)
                (λ y. all_below n (λ x. agree (member x (list_of e y)) (is_to_list f.knots e x y)))
                (at_edges f.edges (lists_right f) same j l) y inside) x within)
            | inr past ↦ less_out n x (list_of e y)
                (all_passed (length e.lists) (λ y. all_less n (list_of e y))
                (at_edges f.edges (lists_below f) less j l) y inside) past
                ∙ sym (out_unlisted (tie_of e x == y) e.feeds (has_entry f.knots e.big x) (missing_at f.knots e.big x == 0)
                (untrue (has_entry f.knots e.big x) (λ i. let k = slot_within f.knots e.big x i in omega arith)))
          ]
      | inr beyond ↦ rw (past_end e.lists y beyond)
          (sym (other_unlisted (tie_of e x == y) e.feeds (has_entry f.knots e.big x) (missing_at f.knots e.big x == 0)
          (λ here i.
          let at : tie_of e x ≡ y = eqb-true (tie_of e x) y here in
          let k = slot_within f.knots e.small (tie_of e x) (tied j x l i) in
          let m = long j l in
          omega arith)))
    ]

-- ---- a forest

not_true : (b : Bool) → not b ≡ true → b ≡ false
not_true true h = absurd cc
not_true false h = refl

both : (a b : Bool) → a ≡ true → b ≡ true → (a && b) ≡ true
both a b h k = rw (h, k) refl

-- whether no slot stands twice in the list
abbrev pub is_apart : List ℕ → Bool
is_apart [] = true
is_apart (x ∷ xs) = not (member x xs) && is_apart xs

apart_by : (xs : List ℕ) → is_apart xs ≡ true → AreDistinctSlots xs
unfolding AreDistinctSlots
apart_by [] h = tt
apart_by (x ∷ xs) h = (
  member_not x xs (not_true (member x xs) (and_first (not (member x xs)) (is_apart xs) h)),
  apart_by xs (and_second (not (member x xs)) (is_apart xs) h),
)

-- whether each entry's tuple is in no other slot of its knot
abbrev pub is_alone : Forest → ℕ → ℕ → Bool
is_alone f k x = all_below (length (nth_knot f.knots k).tuples)
    (λ y. implied (has_entry f.knots k y && same_tuple (entry_tuple f.knots k x) (entry_tuple f.knots k y)) (x == y))

-- whether no other edge leads up from the same knot
abbrev pub is_only : Forest → ℕ → Bool
is_only f i = all_below (length f.edges)
    (λ j. implied (lower (nth_edge f.edges i) == lower (nth_edge f.edges j)) (i == j))

-- each slot and each edge passes
pub record Passes (f : Forest) : Type 0 where
  pub big : all_below (length f.edges) (λ j. nat_lt (nth_edge f.edges j).big (length f.knots)) ≡ true
  pub small : all_below (length f.edges) (λ j. nat_lt (nth_edge f.edges j).small (length f.knots)) ≡ true
  pub view : all_below (length f.edges) (λ j. not (nth_knot f.knots (nth_edge f.edges j).small).leaf) ≡ true
  pub rises : all_below (length f.edges) (λ j. nat_lt (nth_knot f.knots (lower (nth_edge f.edges j))).rank
      (nth_knot f.knots (upper (nth_edge f.edges j))).rank) ≡ true
  pub one_upper : all_below (length f.edges) (is_only f) ≡ true
  pub columns : all_below (length f.edges) (λ j. length (nth_edge f.edges j).columns
      == (nth_knot f.knots (nth_edge f.edges j).small).width) ≡ true
  pub counts : all_below (length f.knots) (λ k. length (nth_knot f.knots k).missing == length (nth_knot f.knots k).tuples) ≡ true
  pub holds : all_below (length f.knots) (λ k. length (nth_knot f.knots k).refs == length (nth_knot f.knots k).tuples) ≡ true
  pub marks : all_below (length f.knots) (λ k. length (nth_knot f.knots k).marks == length (nth_knot f.knots k).tuples) ≡ true
  pub ties : all_below (length f.edges) (λ j. nat_le (length (nth_knot f.knots (nth_edge f.edges j).big).tuples)
      (length (nth_edge f.edges j).ties)) ≡ true
  pub lists : all_below (length f.edges) (λ j. nat_le (length (nth_knot f.knots (nth_edge f.edges j).small).tuples)
      (length (nth_edge f.edges j).lists)) ≡ true
  pub wide : each_entry f (λ k x. length (entry_tuple f.knots k x) == (nth_knot f.knots k).width) ≡ true
  pub differ : each_entry f (is_alone f) ≡ true
  pub tied : each_tie f (λ j x. has_entry f.knots (nth_edge f.edges j).small (tie_of (nth_edge f.edges j) x)) ≡ true
  pub projected : each_tie f (λ j x. same_tuple
      (entry_tuple f.knots (nth_edge f.edges j).small (tie_of (nth_edge f.edges j) x))
      (projection (nth_edge f.edges j).columns (entry_tuple f.knots (nth_edge f.edges j).big x))) ≡ true
  pub refs : each_entry f (λ k y. refs_at f.knots k y == tied_to f k y) ≡ true
  pub held : each_entry f (λ k y. implied (not (nth_knot f.knots k).leaf) (nat_lt 0 (refs_at f.knots k y))) ≡ true
  pub below : all_below (length f.edges) (lists_below f) ≡ true
  pub right : all_below (length f.edges) (lists_right f) ≡ true
  pub once : all_below (length f.edges) (λ j. all_below (length (nth_edge f.edges j).lists)
      (λ y. is_apart (list_of (nth_edge f.edges j) y))) ≡ true
  pub missing : each_entry f (λ k x. missing_at f.knots k x == unmet f k x) ≡ true

past_knot : (ks : List Knot) (k : ℕ) (g h : Knot → ℕ) → (k < length ks → g (nth_knot ks k) ≡ h (nth_knot ks k))
    → g (nth_knot [] k) ≡ h (nth_knot [] k) → g (nth_knot ks k) ≡ h (nth_knot ks k)
past_knot ks k g h inside outside =
    elim (cases_lt k (length ks)) [
      | inl within ↦ inside within
      | inr past ↦ ap g (get_or_past ks k _ past) ∙ outside ∙ sym (ap h (get_or_past ks k _ past))
    ]

apart_at : (f : Forest) → Passes f → (j y : ℕ) → j < length f.edges → AreDistinctSlots (list_of (nth_edge f.edges j) y)
unfolding AreDistinctSlots
apart_at f p j y l =
    elim (cases_lt y (length (nth_edge f.edges j).lists)) [
      | inl inside ↦ apart_by (list_of (nth_edge f.edges j) y)
          (all_passed (length (nth_edge f.edges j).lists) (λ y. is_apart (list_of (nth_edge f.edges j) y))
          (at_edges f.edges (λ j. all_below (length (nth_edge f.edges j).lists)
          (λ y. is_apart (list_of (nth_edge f.edges j) y))) p.once j l) y inside)
      | inr past ↦ rw (past_end (nth_edge f.edges j).lists y past) tt
    ]

pub forest_by : (f : Forest) → Passes f → IsForest f
forest_by f p =
    let tied = at_ties f (λ j x. has_entry f.knots (nth_edge f.edges j).small (tie_of (nth_edge f.edges j) x)) p.tied in
    let long = λ (j : ℕ) (l : j < length f.edges). leb-true (length (nth_knot f.knots (nth_edge f.edges j).small).tuples) _
    (at_edges f.edges (λ j. nat_le (length (nth_knot f.knots (nth_edge f.edges j).small).tuples)
    (length (nth_edge f.edges j).lists)) p.lists j l) in
    record {
      entries = record {
        shape = record {
          big = λ j l. ltb-true _ _ (at_edges f.edges (λ j. nat_lt (nth_edge f.edges j).big (length f.knots)) p.big j l);
          small = λ j l. ltb-true _ _ (at_edges f.edges (λ j. nat_lt (nth_edge f.edges j).small (length f.knots)) p.small j l);
          view = λ j l. not_true _ (at_edges f.edges (λ j. not (nth_knot f.knots (nth_edge f.edges j).small).leaf) p.view j l);
          rises = λ j l. ltb-true _ _ (at_edges f.edges (λ j. nat_lt (nth_knot f.knots (lower (nth_edge f.edges j))).rank
              (nth_knot f.knots (upper (nth_edge f.edges j))).rank) p.rises j l);
          one_upper = λ i j l m h. eqb-true i j
              (given (lower (nth_edge f.edges i) == lower (nth_edge f.edges j)) (i == j)
              (all_passed (length f.edges) (λ j. implied (lower (nth_edge f.edges i) == lower (nth_edge f.edges j)) (i == j))
              (at_edges f.edges (is_only f) p.one_upper i l) j m) (eq-eqb _ _ h));
          columns = λ j l. eqb-true _ _ (at_edges f.edges (λ j. length (nth_edge f.edges j).columns
              == (nth_knot f.knots (nth_edge f.edges j).small).width) p.columns j l);
        };
        along = record {
          missing = λ k. past_knot f.knots k (λ n. length n.missing) (λ n. length n.tuples)
              (λ l. eqb-true _ _ (all_passed (length f.knots) (λ k. length (nth_knot f.knots k).missing
              == length (nth_knot f.knots k).tuples) p.counts k l)) refl;
          refs = λ k. past_knot f.knots k (λ n. length n.refs) (λ n. length n.tuples)
              (λ l. eqb-true _ _ (all_passed (length f.knots) (λ k. length (nth_knot f.knots k).refs
              == length (nth_knot f.knots k).tuples) p.holds k l)) refl;
          marks = λ k. past_knot f.knots k (λ n. length n.marks) (λ n. length n.tuples)
              (λ l. eqb-true _ _ (all_passed (length f.knots) (λ k. length (nth_knot f.knots k).marks
              == length (nth_knot f.knots k).tuples) p.marks k l)) refl;
          ties = λ j l. leb-true _ _ (at_edges f.edges (λ j. nat_le (length (nth_knot f.knots (nth_edge f.edges j).big).tuples)
              (length (nth_edge f.edges j).ties)) p.ties j l);
          lists = long;
        };
        wide = λ k x i. eqb-true _ _ (at_entries f.knots
            (λ k x. length (entry_tuple f.knots k x) == (nth_knot f.knots k).width) p.wide k x i);
        differ = λ k x y i j h. eqb-true x y
            (given (has_entry f.knots k y && same_tuple (entry_tuple f.knots k x) (entry_tuple f.knots k y)) (x == y)
            (all_passed (length (nth_knot f.knots k).tuples)
            (λ y. implied (has_entry f.knots k y && same_tuple (entry_tuple f.knots k x) (entry_tuple f.knots k y)) (x == y))
            (at_entries f.knots (is_alone f) p.differ k x i) y (slot_within f.knots k y j))
            (both (has_entry f.knots k y) _ j (is_same _ _ h)));
        tied = tied;
        projected = λ j x l i. same_is _ _ (at_ties f (λ j x. same_tuple
            (entry_tuple f.knots (nth_edge f.edges j).small (tie_of (nth_edge f.edges j) x))
            (projection (nth_edge f.edges j).columns (entry_tuple f.knots (nth_edge f.edges j).big x))) p.projected j x l i);
        refs = λ k y i. eqb-true _ _ (at_entries f.knots (λ k y. refs_at f.knots k y == tied_to f k y) p.refs k y i);
        held = λ k y i view. ltb-true _ _ (given (not (nth_knot f.knots k).leaf) (nat_lt 0 (refs_at f.knots k y))
            (at_entries f.knots (λ k y. implied (not (nth_knot f.knots k).leaf) (nat_lt 0 (refs_at f.knots k y))) p.held k y i)
            (rw view refl));
      };
      listed = at_lists f tied long p.below p.right;
      once = apart_at f p;
      missing = λ k x i. eqb-true _ _ (at_entries f.knots (λ k x. missing_at f.knots k x == unmet f k x) p.missing k x i);
    }
