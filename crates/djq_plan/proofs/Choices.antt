-- The choice rule: what its searches find, and what its steps do to trees of labels.
use Rattle.std.proofs.Common.{◌≡◌, ◌≢◌, ℕ, zero, suc, ◌+◌, ◌<◌, ◌≤◌, min, max, List, [], ◌∷◌, ◌++◌, length, map, take}
use Rattle.std.proofs.Common.{drop, refl, ap, ap₂, sym, arith, inl, inr, Bool, true, false, not, ◌&&◌, filter, Option}
use Rattle.std.proofs.Common.{Some, None, is_some, ◌∙◌, ltb-true}
use Rattle.std.specs.Prelude.{remove, slice_index_or, ◌==◌, nat_lt, unwrap_or}
use Rattle.std.proofs.lemmas.List.{map-append, take-map, drop-map, nil_from_length}
use Rattle.std.proofs.lemmas.Bool.{cases_lt, lt-ltb, false≢true, and_parts, cases_Bool, eqb-true, eq-eqb, ne_eqb}
use Rattle.djq_hypergraph.specs.Hypergraph.{one, member, subset, difference, intersection, degree, edge_at}
use Rattle.djq_hypergraph.proofs.Labels.{Test, times, Bag, total, total_out, same_item, times_append, numbers, labels}
use Rattle.djq_hypergraph.proofs.Labels.{count, Same, count_self, degree_same}
use Rattle.djq_hypergraph.proofs.Sets.{has_bit, Sub, one_le, one_true, from_true, has_difference, has_filter, has_here}
use Rattle.djq_hypergraph.proofs.Sets.{subset_from, subset_says}
use Rattle.djq_hypergraph.proofs.LabelTrees.{Rooted, rooted_same, progress, Own, Inner, trimmed, untrimmed, dropped}
use Rattle.djq_hypergraph.proofs.LabelTrees.{undropped, all_plugged}
use Rattle.djq_tree.specs.declared.choice.Choice.{Choice}
use Rattle.djq_tree.specs.declared.choice.Choice.TheVariants.{Trim, Meet, Stuck}
use Rattle.djq_tree.specs.Growing.{without_both, Growth, grown, grow, current_after, are_within, is_root}
use Rattle.djq_tree.specs.Choosing.{lowest, removable, has_removable, are_equal, is_inside, twin, cover, choose_inside}
use Rattle.djq_tree.specs.Choosing.{choose_equal, choose, choose_trim}
use Rattle.djq_tree.proofs.Paths.{lowest_is, lowest_none_is, lowest_some, lowest_none}

-- ---- Places of a list: what stands at one, and what is left without it.

module _ {A : Type 0} (T : Test A) where
  -- what stands at a place, and the rest
  pub times_remove : (a d : A) (L : List A) (i : ℕ) → i < length L → times T a L
      ≡ one (T.eq a (slice_index_or L i d)) + times T a (remove L i)
  times_remove a d [] i h = absurd (omega arith)
  times_remove a d (l ∷ L) zero h = refl
  times_remove a d (l ∷ L) (suc i) h = omega (arith, times_remove a d L i (omega arith))

  pub bag_remove : (d : A) (L : List A) (i : ℕ) → i < length L → Bag T L (slice_index_or L i d ∷ remove L i)
  bag_remove d L i h a = times_remove a d L i h

  pub times_push : (a b : A) (L : List A) → times T a (L ++ b ∷ []) ≡ one (T.eq a b) + times T a L
  times_push a b L = omega (arith, times_append T a L (b ∷ []))

  pub bag_push : (b : A) (L : List A) → Bag T (L ++ b ∷ []) (b ∷ L)
  bag_push b L a = times_push a b L

  -- below the place that is taken out, all stays
  pub at_remove_below : (d : A) (L : List A) (i j : ℕ) → j < i → slice_index_or (remove L i) j d ≡ slice_index_or L j d
  at_remove_below d [] zero j h = absurd (omega arith)
  at_remove_below d [] (suc i) j h = refl
  at_remove_below d (l ∷ L) zero j h = absurd (omega arith)
  at_remove_below d (l ∷ L) (suc i) zero h = refl
  at_remove_below d (l ∷ L) (suc i) (suc j) h = at_remove_below d L i j (omega arith)

  pub length_remove : (L : List A) (i : ℕ) → i < length L → length (remove L i) + 1 ≡ length L
  length_remove [] i h = absurd (omega arith)
  length_remove (l ∷ L) zero h = omega arith
  length_remove (l ∷ L) (suc i) h = omega (arith, length_remove L i (omega arith))

  both_ordered : (d : A) (L : List A) (i j : ℕ) → i < j → j < length L → (a : A) → times T a L
      ≡ one (T.eq a (slice_index_or L j d)) + (one (T.eq a (slice_index_or L i d)) + times T a (remove (remove L j) i))
  both_ordered d L i j h within a =
      let e = times_remove a d L j within in
      let f = times_remove a d (remove L j) i (omega (arith, length_remove L j within)) in
      let g : one (T.eq a (slice_index_or (remove L j) i d))
      ≡ one (T.eq a (slice_index_or L i d)) = ap (λ (z : A). one (T.eq a z)) (at_remove_below d L j i h) in
      omega arith

  -- what stands at two places, and the rest
  pub bag_both : (d : A) (L : List A) (i j : ℕ) → i ≢ j → i < length L → j < length L
      → Bag T L (slice_index_or L i d ∷ slice_index_or L j d ∷ without_both L i j)
  bag_both d L i j apart in_i in_j a =
      elim (cases_lt i j) [
        | inl low ↦
            let m : max i j ≡ j = omega arith in
            let n : min i j ≡ i = omega arith in
            let e = both_ordered d L i j low in_j a in
            rw (m, n) (omega arith)
        | inr high ↦
            let m : max i j ≡ i = omega arith in
            let n : min i j ≡ j = omega arith in
            let e = both_ordered d L j i (omega arith) in_i a in
            rw (m, n) (omega arith)
      ]

  -- the item at a place is in the list
  pub times_at : (d : A) (L : List A) (i : ℕ) → i < length L → 0 < times T (slice_index_or L i d) L
  times_at d [] i h = absurd (omega arith)
  times_at d (l ∷ L) zero h = let k = T.itself l in rw k (omega arith)
  times_at d (l ∷ L) (suc i) h = omega (arith, times_at d L i (omega arith))

  -- a total is at least what an item adds to it
  pub total_in : (g : A → ℕ) (a : A) (L : List A) → 0 < times T a L → g a ≤ total g L
  total_in g a L h = omega (arith, total_out T g a L h)

  -- the place of an item
  pub record Place (a d : A) (L : List A) : Type 0 where
    pub at : ℕ
    pub below : at < length L
    pub is : slice_index_or L at d ≡ a

  pub place_of : (a d : A) (L : List A) → 0 < times T a L → Place a d L
  place_of a d [] h = absurd (omega arith)
  place_of a d (l ∷ L) h =
      elim (cases_lt 0 (one (T.eq a l))) [
        | inl here ↦ record { at = 0; below = omega arith; is = sym (same_item T a l here) }
        | inr other ↦
            let r = place_of a d L (omega arith) in
            record { at = suc r.at; below = let b = r.below in omega arith; is = r.is }
      ]

-- the images of what is left
pub map_remove : {A B : Type 0} (f : A → B) (L : List A) (i : ℕ) → remove (map f L) i ≡ map f (remove L i)
map_remove f L i = rw (take-map f i L, drop-map f (suc i) L) (sym (map-append f (take i L) (drop (suc i) L)))

pub map_both : {A B : Type 0} (f : A → B) (L : List A) (i j : ℕ) → without_both (map f L) i j
    ≡ map f (without_both L i j)
map_both f L i j = rw (map_remove f L (max i j)) (map_remove f (remove L (max i j)) (min i j))

-- functions that agree on a list's numbers have the same images and totals over it
pub map_agree : {B : Type 0} (f g : ℕ → B) (L : List ℕ) → ((j : ℕ) → 0 < times numbers j L → f j ≡ g j) → map f L
    ≡ map g L
map_agree f g [] h = refl
map_agree f g (l ∷ L) h =
    ap₂ (λ x xs. x ∷ xs) (h l (times_at numbers 0 (l ∷ L) 0 (omega arith))) (map_agree f g L (λ j k. h j (omega arith)))

pub total_agree : (f g : ℕ → ℕ) (L : List ℕ) → ((j : ℕ) → 0 < times numbers j L → f j ≡ g j) → total f L ≡ total g L
total_agree f g [] h = refl
total_agree f g (l ∷ L) h =
    let e = h l (times_at numbers 0 (l ∷ L) 0 (omega arith)) in
    omega (arith, total_agree f g L (λ j k. h j (omega arith)))

-- ---- What the searches of the choice rule find.

pub twin_is : (L : List (List ℕ)) (a b : ℕ) → a < b → b < length L → are_equal L a b ≡ true
    → ((i : ℕ) → i < b → (nat_lt a i && are_equal L a i) ≡ false) → Some b ≡ twin L a
twin_is L a b low within same others =
    sym (lowest_is (λ b. nat_lt a b && are_equal L a b) 0 (length L) b (omega arith) (omega arith)
    (rw (lt-ltb a b low, same) refl) (λ j from below. others j below))

pub twin_none : (L : List (List ℕ)) (a : ℕ) → ((i : ℕ) → i < length L → (nat_lt a i && are_equal L a i) ≡ false) → None
    ≡ twin L a
twin_none L a others = sym
    (lowest_none_is (λ b. nat_lt a b && are_equal L a b) 0 (length L) (λ j from below. others j (omega arith)))

pub cover_is : (L : List (List ℕ)) (s g : ℕ) → g < length L → is_inside L s g ≡ true
    → ((i : ℕ) → i < g → is_inside L s i ≡ false) → Some g ≡ cover L s
cover_is L s g within inside others =
    sym (lowest_is (λ g. is_inside L s g) 0 (length L) g (omega arith) (omega arith) inside
    (λ j from below. others j below))

pub cover_none : (L : List (List ℕ)) (s : ℕ) → ((i : ℕ) → i < length L → is_inside L s i ≡ false) → None ≡ cover L s
cover_none L s others = sym
    (lowest_none_is (λ g. is_inside L s g) 0 (length L) (λ j from below. others j (omega arith)))

pub inside_is : (L : List (List ℕ)) (s g : ℕ) → s < length L → Some g ≡ cover L s
    → ((i : ℕ) → i < s → is_some (cover L i) ≡ false) → Meet g s ≡ choose_inside L (lowest (λ s. is_some (cover L s)) L)
inside_is L s g within is others =
    rw (lowest_is (λ s. is_some (cover L s)) 0 (length L) s (omega arith) (omega arith) (ap is_some (sym is))
    (λ j from below. others j below))
    (ap (λ (o : Option ℕ). Meet (unwrap_or o 0) s) is)

pub inside_none : (L : List (List ℕ)) → ((i : ℕ) → i < length L → is_some (cover L i) ≡ false) → Stuck
    ≡ choose_inside L (lowest (λ s. is_some (cover L s)) L)
inside_none L others = rw
    (lowest_none_is (λ s. is_some (cover L s)) 0 (length L) (λ j from below. others j (omega arith))) refl

pub equal_is : (L : List (List ℕ)) (a b : ℕ) → a < length L → Some b ≡ twin L a
    → ((i : ℕ) → i < a → is_some (twin L i) ≡ false) → Meet a b ≡ choose_equal L (lowest (λ a. is_some (twin L a)) L)
equal_is L a b within is others =
    rw (lowest_is (λ a. is_some (twin L a)) 0 (length L) a (omega arith) (omega arith) (ap is_some (sym is))
    (λ j from below. others j below))
    (ap (λ (o : Option ℕ). Meet a (unwrap_or o 0)) is)

pub equal_none : (L : List (List ℕ)) (c : Choice) → ((i : ℕ) → i < length L → is_some (twin L i) ≡ false) → c
    ≡ choose_inside L (lowest (λ s. is_some (cover L s)) L) → c ≡ choose_equal L (lowest (λ a. is_some (twin L a)) L)
equal_none L c others is = rw
    (lowest_none_is (λ a. is_some (twin L a)) 0 (length L) (λ j from below. others j (omega arith))) is

-- ---- removable variables

filter_same : (p q : ℕ → Bool) (l : List ℕ) → ((x : ℕ) → p x ≡ q x) → filter p l ≡ filter q l
filter_same p q [] h = refl
filter_same p q (x ∷ l) h = rw (h x, filter_same p q l h) refl

pub removable_by : (keep : List ℕ) (L : List (List ℕ)) (i : ℕ) (own a l : List ℕ)
    → ((x : ℕ) → member x own ≡ (degree x L == 1)) → l ≡ edge_at L i → a ≡ difference (intersection l own) keep → a
    ≡ removable keep L i
removable_by keep L i own a l all at is =
    is ∙ ap (λ (k : List ℕ). difference (intersection k own) keep) at
    ∙ ap (λ (k : List ℕ). difference k keep)
    (filter_same (λ x. member x own) (λ x. degree x L == 1) (edge_at L i) all)

pub has_by : (keep : List ℕ) (L : List (List ℕ)) (i : ℕ) (a : List ℕ) (b : Bool) → a ≡ removable keep L i
    → (length a == 0) ≡ b → has_removable keep L i ≡ not b
has_by keep L i a b is empty = ap not (ap (λ (k : List ℕ). length k == 0) (sym is) ∙ empty)

pub trim_is : (keep : List ℕ) (L : List (List ℕ)) (i : ℕ) (X : List ℕ) → i < length L → has_removable keep L i ≡ true
    → X ≡ removable keep L i → ((j : ℕ) → j < i → has_removable keep L j ≡ false) → Trim i X ≡ choose keep L
trim_is keep L i X within some is others =
    rw (lowest_is (λ i. has_removable keep L i) 0 (length L) i (omega arith) (omega arith) some
    (λ j from below. others j below)) (ap (λ (k : List ℕ). Trim i k) is)

pub trim_none : (keep : List ℕ) (L : List (List ℕ)) (c : Choice)
    → ((j : ℕ) → j < length L → has_removable keep L j ≡ false) → c
    ≡ choose_equal L (lowest (λ a. is_some (twin L a)) L) → c ≡ choose keep L
trim_none keep L c others is = rw
    (lowest_none_is (λ i. has_removable keep L i) 0 (length L) (λ j from below. others j (omega arith))) is

-- ---- what the code reads

pub equal_read : (L : List (List ℕ)) (i j : ℕ) (a b : List ℕ) (r : Bool) → a ≡ edge_at L i → b ≡ edge_at L j → r
    ≡ (subset a b && subset b a) → r ≡ true → are_equal L i j ≡ true
equal_read L i j a b r p q is holds = rw (← p, ← q) (sym is ∙ holds)

pub inside_read : (L : List (List ℕ)) (i j : ℕ) (a b : List ℕ) (r v : Bool) → a ≡ edge_at L i → b ≡ edge_at L j → r
    ≡ (subset a b && not (subset b a)) → r ≡ v → is_inside L i j ≡ v
inside_read L i j a b r v p q is holds = rw (← p, ← q) (sym is ∙ holds)

-- ---- What the choice rule's answer says.

-- the node at the place is trimmed of its removable variables, of which there is one
pub record Trims (keep : List ℕ) (L : List (List ℕ)) (i : ℕ) (X : List ℕ) : Type 0 where
  pub within : i < length L
  pub are : X ≡ removable keep L i
  pub some : has_removable keep L i ≡ true

-- two different nodes meet, the side lying within the guard
pub record Meets (L : List (List ℕ)) (g s : ℕ) : Type 0 where
  pub guard : g < length L
  pub side : s < length L
  pub apart : g ≢ s
  pub inside : subset (edge_at L s) (edge_at L g) ≡ true

-- no node has a removable variable, and none lies within another
pub record Sticks (keep : List ℕ) (L : List (List ℕ)) : Type 0 where
  pub no_own : (i : ℕ) → i < length L → has_removable keep L i ≡ false
  pub no_twin : (a b : ℕ) → a < b → b < length L → are_equal L a b ≡ false
  pub no_inside : (s g : ℕ) → s < length L → g < length L → is_inside L s g ≡ false

abbrev pub Says : List ℕ → List (List ℕ) → Choice → Type 0
Says keep L (Trim i X) = Trims keep L i X
Says keep L (Meet g s) = Meets L g s
Says keep L Stuck = Sticks keep L

-- ---- tests

pub after_and : (a b : Bool) → a ≡ true → (a && b) ≡ false → b ≡ false
after_and true b e h = h
after_and false b e h = absurd cc

none_some : {A : Type 0} (o : Option A) → is_some o ≡ false → o ≡ None
none_some None h = refl
none_some (Some x) h = absurd cc

-- ---- the three rules, the last one first

inside_found : (L : List (List ℕ)) (s : ℕ) (o : Option ℕ) → s < length L → o ≡ cover L s → is_some o ≡ true
    → Meets L (unwrap_or o 0) s
inside_found L s None within e h = absurd cc
inside_found L s (Some g) within e h =
    let f = lowest_some (λ g. is_inside L s g) 0 (length L) g (sym e) in
    let guard : g < length L = (let b = f.below in omega arith) in
    let both = and_parts (subset (edge_at L s) (edge_at L g)) (not (subset (edge_at L g) (edge_at L s))) f.passes in
    let sub = both.0 in
    let other = both.1 in
    record {
      guard = guard;
      side = within;
      apart = λ same.
          let e : edge_at L g ≡ edge_at L s = ap (λ (z : ℕ). edge_at L z) same in
          let k : subset (edge_at L g) (edge_at L s) ≡ true = ap₂ (λ (a b : List ℕ). subset a b) e (sym e) ∙ sub in
          false≢true (sym (ap (λ (b : Bool). not b) k) ∙ other);
      inside = sub;
    }

says_inside : (keep : List ℕ) (L : List (List ℕ)) (o : Option ℕ) → o ≡ lowest (λ s. is_some (cover L s)) L
    → ((i : ℕ) → i < length L → has_removable keep L i ≡ false)
    → ((a b : ℕ) → a < b → b < length L → are_equal L a b ≡ false)
    → Says keep L (choose_inside L o)
says_inside keep L (Some s) e own twins =
    let f = lowest_some (λ s. is_some (cover L s)) 0 (length L) s (sym e) in
    inside_found L s (cover L s) (let b = f.below in omega arith) refl f.passes
says_inside keep L None e own twins = record {
  no_own = own;
  no_twin = twins;
  no_inside = λ s g in_s in_g.
      let c = lowest_none (λ s. is_some (cover L s)) 0 (length L) (sym e) s (omega arith) (omega arith) in
      lowest_none (λ g. is_inside L s g) 0 (length L) (none_some (cover L s) c) g (omega arith) (omega arith);
}

equal_found : (L : List (List ℕ)) (a : ℕ) (o : Option ℕ) → a < length L → o ≡ twin L a → is_some o ≡ true
    → Meets L a (unwrap_or o 0)
equal_found L a None within e h = absurd cc
equal_found L a (Some b) within e h =
    let f = lowest_some (λ b. nat_lt a b && are_equal L a b) 0 (length L) b (sym e) in
    let above : nat_lt a b ≡ true = (and_parts (nat_lt a b) (are_equal L a b) f.passes).0 in
    let low : a < b = ltb-true a b above in
    record {
      guard = within;
      side = (let k = f.below in omega arith);
      apart = λ same. omega arith;
      inside = (and_parts (subset (edge_at L a) (edge_at L b)) (subset (edge_at L b) (edge_at L a))
          (and_parts (nat_lt a b) (are_equal L a b) f.passes).1).1;
    }

-- no node has a twin, so no two labels are equal
pub no_twins : (L : List (List ℕ)) → lowest (λ a. is_some (twin L a)) L ≡ None → (a b : ℕ) → a < b → b < length L
    → are_equal L a b ≡ false
no_twins L e a b low within =
    let c = lowest_none (λ a. is_some (twin L a)) 0 (length L) e a (omega arith) (omega arith) in
    let d = lowest_none (λ b. nat_lt a b && are_equal L a b) 0 (length L) (none_some (twin L a) c) b (omega arith)
    (omega arith) in
    after_and (nat_lt a b) (are_equal L a b) (lt-ltb a b low) d

says_equal : (keep : List ℕ) (L : List (List ℕ)) (o : Option ℕ) → o ≡ lowest (λ a. is_some (twin L a)) L
    → ((i : ℕ) → i < length L → has_removable keep L i ≡ false) → Says keep L (choose_equal L o)
says_equal keep L (Some a) e own =
    let f = lowest_some (λ a. is_some (twin L a)) 0 (length L) a (sym e) in
    equal_found L a (twin L a) (let b = f.below in omega arith) refl f.passes
says_equal keep L None e own = says_inside keep L (lowest (λ s. is_some (cover L s)) L) refl own (no_twins L (sym e))

says_trim : (keep : List ℕ) (L : List (List ℕ)) (o : Option ℕ) → o ≡ lowest (λ i. has_removable keep L i) L
    → Says keep L (choose_trim keep L o)
says_trim keep L (Some i) e =
    let f = lowest_some (λ i. has_removable keep L i) 0 (length L) i (sym e) in
    record { within = (let b = f.below in omega arith); are = refl; some = f.passes }
says_trim keep L None e =
    says_equal keep L (lowest (λ a. is_some (twin L a)) L) refl
    (λ i within. lowest_none (λ i. has_removable keep L i) 0 (length L) (sym e) i (omega arith) (omega arith))

pub choose_says : (keep : List ℕ) (L : List (List ℕ)) → Says keep L (choose keep L)
choose_says keep L = says_trim keep L (lowest (λ i. has_removable keep L i) L) refl

-- ---- What the planner's steps do to trees of labels below a fixed root label.

-- ---- what a trim removes

pub record Removed (keep : List ℕ) (L : List (List ℕ)) (i x : ℕ) : Type 0 where
  pub here : has_bit x (edge_at L i) ≡ 1
  pub only : degree x L ≡ 1
  pub free : has_bit x keep ≡ 0

pub removed_says : (keep : List ℕ) (L : List (List ℕ)) (i x : ℕ) → 0 < has_bit x (removable keep L i)
    → Removed keep L i x
removed_says keep L i x h =
    let m = has_difference x (filter (λ x. degree x L == 1) (edge_at L i)) keep in
    let f = has_filter (λ x. degree x L == 1) x (edge_at L i) in
    let a = one_le (member x (edge_at L i)) in
    let b = one_le (degree x L == 1) in
    record {
      here = omega arith;
      only = eqb-true (degree x L) 1 (one_true (degree x L == 1) (omega arith));
      free = omega arith;
    }

pub removed_from : (keep : List ℕ) (L : List (List ℕ)) (i x : ℕ) → Removed keep L i x
    → has_bit x (removable keep L i) ≡ 1
removed_from keep L i x r =
    let m = has_difference x (filter (λ x. degree x L == 1) (edge_at L i)) keep in
    let f = has_filter (λ x. degree x L == 1) x (edge_at L i) in
    let a = r.here in let c = r.free in
    let b = from_true (degree x L == 1) (eq-eqb (degree x L) 1 r.only) in
    omega (arith, one_le (degree x L == 1))

nonempty : (x : ℕ) (l : List ℕ) → 0 < has_bit x l → not (length l == 0) ≡ true
nonempty x [] h = absurd (omega arith)
nonempty x (y ∷ l) h = rw (ne_eqb (length (y ∷ l)) 0 (λ e. absurd (omega arith))) refl

pub has_removable_from : (keep : List ℕ) (L : List (List ℕ)) (i x : ℕ) → Removed keep L i x → has_removable keep L i
    ≡ true
has_removable_from keep L i x r = nonempty x (removable keep L i) (let h = removed_from keep L i x r in omega arith)

-- the other labels have none of the removed variables
pub removed_elsewhere : (keep : List ℕ) (L : List (List ℕ)) (i x : ℕ) → i < length L → Removed keep L i x
    → degree x (remove L i) ≡ 0
removed_elsewhere keep L i x within r =
    let d = degree_same x L (edge_at L i ∷ remove L i) (bag_remove labels [] L i within) in
    let a = r.here in let b = r.only in omega arith

-- ---- a step

pub after_trim : (L : List (List ℕ)) (i : ℕ) (X : List ℕ)
    → Same (difference (edge_at L i) X ∷ remove L i) (current_after L (Trim i X))
after_trim L i X a = let p = bag_push labels (difference (edge_at L i) X) (remove L i) a in omega arith

pub after_meet : (L : List (List ℕ)) (g s : ℕ) → Same (edge_at L g ∷ without_both L g s) (current_after L (Meet g s))
after_meet L g s a = let p = bag_push labels (edge_at L g) (without_both L g s) a in omega arith

swapped : (L : List (List ℕ)) (g s : ℕ) → Meets L g s → Same L (edge_at L s ∷ edge_at L g ∷ without_both L g s)
swapped L g s m a = let b = bag_both labels [] L g s m.apart m.guard m.side a in omega arith

free_of : (F keep : List ℕ) (L : List (List ℕ)) (i : ℕ) (X : List ℕ) → Sub F keep → Trims keep L i X → (x : ℕ)
    → 0 < has_bit x X → degree x (F ∷ remove L i) ≡ 0
free_of F keep L i X sub t x h =
    let r = removed_says keep L i x
    (let e : has_bit x X ≡ has_bit x (removable keep L i) = ap (λ (l : List ℕ). has_bit x l) t.are in omega arith) in
    let d = removed_elsewhere keep L i x t.within r in
    let f = r.free in let s = sub x in omega arith

pub choice_to : (F keep : List ℕ) (L : List (List ℕ)) (c : Choice) → Sub F keep → Says keep L c → Rooted F L
    → Rooted F (current_after L c)
choice_to F keep L (Trim i X) sub t r =
    rooted_same F (difference (edge_at L i) X ∷ remove L i) (current_after L (Trim i X)) (after_trim L i X)
    (trimmed F (edge_at L i) X (remove L i) (free_of F keep L i X sub t)
    (rooted_same F L (edge_at L i ∷ remove L i) (bag_remove labels [] L i t.within) r))
choice_to F keep L (Meet g s) sub m r =
    rooted_same F (edge_at L g ∷ without_both L g s) (current_after L (Meet g s)) (after_meet L g s)
    (dropped F (edge_at L s) (edge_at L g) (edge_at L g ∷ without_both L g s)
    (count_self (edge_at L g) (without_both L g s)) (subset_says (edge_at L s) (edge_at L g) m.inside)
    (rooted_same F L (edge_at L s ∷ edge_at L g ∷ without_both L g s) (swapped L g s m) r))
choice_to F keep L Stuck sub m r = r

pub choice_back : (F keep : List ℕ) (L : List (List ℕ)) (c : Choice) → Sub F keep → Says keep L c
    → Rooted F (current_after L c) → Rooted F L
choice_back F keep L (Trim i X) sub t r =
    rooted_same F (edge_at L i ∷ remove L i) L (λ a. sym (bag_remove labels [] L i t.within a))
    (untrimmed F (edge_at L i) X (remove L i) (free_of F keep L i X sub t)
    (rooted_same F (current_after L (Trim i X)) (difference (edge_at L i) X ∷ remove L i)
    (λ a. sym (after_trim L i X a)) r))
choice_back F keep L (Meet g s) sub m r =
    rooted_same F (edge_at L s ∷ edge_at L g ∷ without_both L g s) L (λ a. sym (swapped L g s m a))
    (undropped F (edge_at L s) (edge_at L g) (edge_at L g ∷ without_both L g s)
    (count_self (edge_at L g) (without_both L g s)) (subset_says (edge_at L s) (edge_at L g) m.inside)
    (rooted_same F (current_after L (Meet g s)) (edge_at L g ∷ without_both L g s) (λ a. sym (after_meet L g s a)) r))
choice_back F keep L Stuck sub m r = r

-- ---- many steps

pub grown_current : (s : Growth) (c : Choice) → (grown s c).current ≡ current_after s.current c
grown_current s (Trim i X) = refl
grown_current s (Meet g d) = refl
grown_current s Stuck = refl

pub run_to : (F keep : List ℕ) (n : ℕ) (s : Growth) → Sub F keep → Rooted F s.current → Rooted F (grow keep n s).current
unfolding grow
run_to F keep zero s sub r = r
run_to F keep (suc n) s sub r =
    let t = grow keep n s in
    rw (grown_current t (choose keep t.current))
    (choice_to F keep t.current (choose keep t.current) sub (choose_says keep t.current) (run_to F keep n s sub r))

pub run_back : (F keep : List ℕ) (n : ℕ) (s : Growth) → Sub F keep → Rooted F (grow keep n s).current
    → Rooted F s.current
unfolding grow
run_back F keep zero s sub r = r
run_back F keep (suc n) s sub r =
    let t = grow keep n s in
    let r2 : Rooted F (current_after t.current (choose keep t.current)) = rw (← grown_current t (choose keep t.current))
    r in
    run_back F keep n s sub (choice_back F keep t.current (choose keep t.current) sub (choose_says keep t.current) r2)

-- ---- no step

at_remove_above : (L : List (List ℕ)) (i j : ℕ) → i ≤ j → edge_at (remove L i) j ≡ edge_at L (suc j)
at_remove_above [] zero j h = refl
at_remove_above [] (suc i) j h = refl
at_remove_above (l ∷ L) zero j h = refl
at_remove_above (l ∷ L) (suc i) zero h = absurd (omega arith)
at_remove_above (l ∷ L) (suc i) (suc j) h = at_remove_above L i j (omega arith)

-- another place with a label
record Other (L : List (List ℕ)) (i : ℕ) (a : List ℕ) : Type 0 where
  at : ℕ
  below : at < length L
  apart : i ≢ at
  is : edge_at L at ≡ a

other_place : (L : List (List ℕ)) (i : ℕ) (a : List ℕ) → i < length L → 0 < count a (remove L i) → Other L i a
other_place L i a within h =
    let p = place_of labels a [] (remove L i) h in
    let n = length_remove labels L i within in
    let low = p.below in
    elim (cases_lt p.at i) [
      | inl below ↦ record {
        at = p.at;
        below = omega arith;
        apart = λ e. omega arith;
        is = sym
            (at_remove_below labels [] L i p.at below) ∙ p.is;
      }
      | inr above ↦ record {
        at = suc p.at;
        below = omega arith;
        apart = λ e. omega arith;
        is = sym
            (at_remove_above L i p.at above) ∙ p.is;
      }
    ]

no_pair : (keep : List ℕ) (L : List (List ℕ)) (i j : ℕ) → Sticks keep L → i < length L → j < length L → i ≢ j
    → subset (edge_at L i) (edge_at L j) ≡ true → ⊥
no_pair keep L i j st in_i in_j apart sub =
    elim (cases_Bool (subset (edge_at L j) (edge_at L i))) [
      | inl back ↦
          elim (cases_lt i j) [
            | inl low ↦ false≢true (sym (st.no_twin i j low in_j) ∙ (rw (sub, back) refl))
            | inr high ↦ false≢true (sym (st.no_twin j i (omega arith) in_i) ∙ (rw (back, sub) refl))
          ]
      | inr none ↦ false≢true (sym (st.no_inside i j in_i in_j) ∙ (rw (sub, none) refl))
    ]

-- where no step applies, all labels lie in the root's
pub stuck_low : (F : List ℕ) (L : List (List ℕ)) → Sticks F L → Rooted F L → (a : List ℕ) → 0 < count a L → Sub a F
stuck_low F L st r a stands =
    elim (progress F r.order r.tree) [
      | inl low ↦ low a (let k = r.those a in omega arith)
      | inr more ↦ absurd (elim more [ inl own ↦ no_own own | inr inner ↦ no_inner inner ])
    ]
  where
    no_own : Own F r.order → ⊥
    no_own o =
        let in_L : Same L (o.label ∷ o.rest) = λ b. sym (r.those b) ∙ o.here b in
        let p = place_of labels o.label [] L (let k = in_L o.label in let c = count_self o.label o.rest in omega arith)
        in
        let d = degree_same o.var L (o.label ∷ o.rest) in_L in
        let w = o.within in let al = o.alone in
        let le = one_le (member o.var o.label) in
        let same : has_bit o.var (edge_at L p.at) ≡ has_bit o.var o.label = ap (λ (l : List ℕ). has_bit o.var l) p.is in
        false≢true (sym (st.no_own p.at p.below)
        ∙ has_removable_from F L p.at o.var (record { here = omega arith; only = omega arith; free = omega arith }))

    no_inner : Inner r.order → ⊥
    no_inner o =
        let in_L : Same L (o.label ∷ o.rest) = λ b. sym (r.those b) ∙ o.here b in
        let p = place_of labels o.label [] L (let k = in_L o.label in let c = count_self o.label o.rest in omega arith)
        in
        let t = times_remove labels o.over [] L p.at p.below in
        let same : one (labels.eq o.over (edge_at L p.at))
        ≡ one (labels.eq o.over o.label) = ap (λ (l : List ℕ). one (labels.eq o.over l)) p.is in
        let q = other_place L p.at o.over p.below (let k = in_L o.over in let th = o.there in omega arith) in
        no_pair F L p.at q.at st p.below q.below q.apart (subset_from (edge_at L p.at) (edge_at L q.at)
        (λ x. let i = o.inside x in
        let e : has_bit x (edge_at L p.at) ≡ has_bit x o.label = ap (λ (l : List ℕ). has_bit x l) p.is in
        let f : has_bit x (edge_at L q.at) ≡ has_bit x o.over = ap (λ (l : List ℕ). has_bit x l) q.is in omega arith))

-- ---- where a stage stands

pub within_all : (keep : List ℕ) (L : List (List ℕ)) → are_within keep L ≡ true → (a : List ℕ) → 0 < count a L
    → Sub a keep
within_all keep [] h a stands = absurd (omega arith)
within_all keep (l ∷ L) h a stands =
    elim (cases_lt 0 (one (labels.eq a l))) [
      | inl here ↦ rw (same_item labels a l here)
          (subset_says l keep (and_parts (subset l keep) (are_within keep L) h).0)
      | inr other ↦ within_all keep L (and_parts (subset l keep) (are_within keep L) h).1 a (omega arith)
    ]

pub within_from : (keep : List ℕ) (L : List (List ℕ)) → ((a : List ℕ) → 0 < count a L → Sub a keep) → are_within keep L
    ≡ true
within_from keep [] h = refl
within_from keep (l ∷ L) h =
    let here = subset_from l keep (h l (count_self l L)) in
    rw here (within_from keep L (λ a k. h a (omega arith)))

-- where all labels lie in the root's, they are a tree below it
pub within_rooted : (F : List ℕ) (L : List (List ℕ)) → are_within F L ≡ true → Rooted F L
within_rooted F L h = all_plugged F L (within_all F L h)

pub first_stuck : (F : List ℕ) (L : List (List ℕ)) → Sticks F L → are_within F L ≡ false → Rooted F L → ⊥
first_stuck F L st off r = false≢true (sym off ∙ within_from F L (stuck_low F L st r))

empty_label : (l : List ℕ) → Sub l [] → l ≡ []
empty_label [] h = refl
empty_label (x ∷ l) h = absurd (let k = h x in let m = has_here x x l refl in omega arith)

pub second_stuck : (L : List (List ℕ)) → 0 < length L → Sticks [] L → is_root L ≡ false → Rooted [] L → ⊥
second_stuck [] some st off r = absurd (omega arith)
second_stuck (l ∷ []) some st off r =
    let e = empty_label l (stuck_low [] (l ∷ []) st r l (count_self l [])) in
    false≢true (sym off ∙ rw e refl)
second_stuck (l ∷ m ∷ L) some st off r =
    let low = stuck_low [] (l ∷ m ∷ L) st r in
    let e = empty_label l (low l (count_self l (m ∷ L))) in
    let f = empty_label m (low m (let k = count_self m L in omega arith)) in
    let tw = st.no_twin 0 1 (omega arith) (omega arith) in
    false≢true (sym tw ∙ rw (e, f) refl)

-- one node with an empty label is a tree
pub root_rooted : (L : List (List ℕ)) → is_root L ≡ true → Rooted [] L
root_rooted L h = all_plugged [] L (λ a stands. root_empty L h a stands)
  where
    root_empty : (L : List (List ℕ)) → is_root L ≡ true → (a : List ℕ) → 0 < count a L → Sub a []
    root_empty [] h a stands = absurd (omega arith)
    root_empty (l ∷ []) h a stands =
        let e : l ≡ [] = nil_from_length l
        (eqb-true (length l) 0 (and_parts (length (l ∷ []) == 1) (length l == 0) h).1) in
        let f = same_item labels a l (omega arith) in
        rw (f, e) (λ x. omega arith)
    root_empty (l ∷ m ∷ L) h a stands = absurd
        (let e = eqb-true (length (l ∷ m ∷ L)) 1 (and_parts (length (l ∷ m ∷ L) == 1) (length l == 0) h).0 in
        omega arith)

-- ---- Which variables the current labels have as the planner goes on.

-- a step adds no variable to a label
pub degree_falls : (keep : List ℕ) (L : List (List ℕ)) (c : Choice) (x : ℕ) → Says keep L c
    → degree x (current_after L c) ≤ degree x L
degree_falls keep L (Trim i X) x t =
    let a = degree_same x (difference (edge_at L i) X ∷ remove L i) (current_after L (Trim i X)) (after_trim L i X) in
    let b = degree_same x L (edge_at L i ∷ remove L i) (bag_remove labels [] L i t.within) in
    let m = has_difference x (edge_at L i) X in
    omega arith
degree_falls keep L (Meet g d) x t =
    let a = degree_same x (edge_at L g ∷ without_both L g d) (current_after L (Meet g d)) (after_meet L g d) in
    let b = degree_same x L (edge_at L g ∷ edge_at L d ∷ without_both L g d)
    (bag_both labels [] L g d t.apart t.guard t.side) in
    omega arith
degree_falls keep L Stuck x t = omega arith

pub degree_grow : (keep : List ℕ) (n : ℕ) (s : Growth) (x : ℕ) → degree x (grow keep n s).current ≤ degree x s.current
unfolding grow
degree_grow keep zero s x = omega arith
degree_grow keep (suc n) s x =
    let t = grow keep n s in
    let d = degree_falls keep t.current (choose keep t.current) x (choose_says keep t.current) in
    rw (grown_current t (choose keep t.current)) (let r = degree_grow keep n s x in omega arith)

-- ---- the variables that are kept

kept_step : (keep : List ℕ) (L : List (List ℕ)) (c : Choice) (x : ℕ) → Says keep L c → 0 < has_bit x keep
    → 0 < degree x L
    → 0 < degree x (current_after L c)
kept_step keep L (Trim i X) x t kept h =
    let a = degree_same x (difference (edge_at L i) X ∷ remove L i) (current_after L (Trim i X)) (after_trim L i X) in
    let b = degree_same x L (edge_at L i ∷ remove L i) (bag_remove labels [] L i t.within) in
    let m = has_difference x (edge_at L i) X in
    let k : has_bit x X ≡ has_bit x (removable keep L i) = ap (has_bit x) t.are in
    elim (cases_lt 0 (has_bit x X)) [
      | inl gone ↦ absurd (let r = removed_says keep L i x (omega arith) in let f = r.free in omega arith)
      | inr stays ↦ omega (arith, one_le (member x (edge_at L i)))
    ]
kept_step keep L (Meet g d) x t kept h =
    let a = degree_same x (edge_at L g ∷ without_both L g d) (current_after L (Meet g d)) (after_meet L g d) in
    let b = degree_same x L (edge_at L g ∷ edge_at L d ∷ without_both L g d)
    (bag_both labels [] L g d t.apart t.guard t.side) in
    let i = subset_says (edge_at L d) (edge_at L g) t.inside x in
    omega arith
kept_step keep L Stuck x t kept h = h

pub kept_grow : (keep : List ℕ) (n : ℕ) (s : Growth) (x : ℕ) → 0 < has_bit x keep → 0 < degree x s.current
    → 0 < degree x (grow keep n s).current
unfolding grow
kept_grow keep zero s x kept h = h
kept_grow keep (suc n) s x kept h =
    let t = grow keep n s in
    rw (grown_current t (choose keep t.current))
    (kept_step keep t.current (choose keep t.current) x (choose_says keep t.current) kept
    (kept_grow keep n s x kept h))
