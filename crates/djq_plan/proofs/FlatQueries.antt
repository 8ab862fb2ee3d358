-- Flat queries: all meets of their trees have equal labels.
use Rattle.std.proofs.Common.{◌≡◌, ◌⊎◌, ℕ, zero, suc, ◌+◌, ◌<◌, ◌≤◌, min, Bool, false, ◌&&◌, List, [], ◌∷◌, length}
use Rattle.std.proofs.Common.{refl, ap, sym, ◌∙◌, arith, inl, inr, true, ◌++◌, Option, Some, None, is_some, subst}
use Rattle.std.specs.Prelude.{remove, ◌==◌, nat_lt, unwrap_or, slice_index}
use Rattle.std.proofs.lemmas.Bool.{cases_Bool, cases_lt, false≢true, eqb-true, and_parts}
use Rattle.std.proofs.lemmas.List.{get_or_past, nil_from_length}
use Rattle.std.proofs.lemmas.List.Kept.{AllPairs-from_increasing}
use Rattle.djq_hypergraph.specs.Hypergraph.{member, subset, difference, degree, edge_at}
use Rattle.djq_hypergraph.specs.Flat.{IsFlat}
use Rattle.djq_hypergraph.specs.Variables.{AreCovered}
use Rattle.djq_hypergraph.proofs.Sets.{has_bit, has_difference, one_le, from_true, has_here, subset_from, same_one}
use Rattle.djq_hypergraph.proofs.Sets.{subset_says, same_sets}
use Rattle.djq_hypergraph.proofs.Labels.{edge_with, edge_in, labels, numbers, Same, degree_same, outside}
use Rattle.djq_tree.specs.declared.choice.Choice.{Choice}
use Rattle.djq_tree.specs.declared.choice.Choice.TheVariants.{Trim, Meet, Stuck}
use Rattle.djq_tree.specs.declared.node.Node.{Node}
use Rattle.djq_tree.specs.declared.node.Node.TheVariants as node
use Rattle.djq_tree.specs.Choosing.{removable, has_removable, are_equal, lowest, twin, cover, choose_inside}
use Rattle.djq_tree.specs.Choosing.{choose_equal, choose_trim, choose}
use Rattle.djq_tree.specs.Growing.{current_after, without_both, are_within, is_root, Growth, start, grown, grow}
use Rattle.djq_tree.specs.Growing.{IsTreeOf}
use Rattle.djq_tree.specs.Flat.{HasEqualMeets}
use Rattle.djq_tree.specs.Tree.{Tree, node_at, IsTree}
use Rattle.djq_tree.proofs.Paths.{lowest_some, lowest_none}
use Rattle.djq_plan.specs.Stages.{IsStageEnd, IsStuckAt}
use Rattle.djq_plan.proofs.Choices.{bag_remove, bag_both, times_at, Trims, Meets, Says, no_twins, choose_says}
use Rattle.djq_plan.proofs.Choices.{removed_says, removed_elsewhere, has_removable_from, after_trim, after_meet}
use Rattle.djq_plan.proofs.Choices.{grown_current}
use Rattle.djq_plan.proofs.GrowthSteps.{start_low, Grown, step_grown, grow_grown, start_grown, same_length, current_at}
use Rattle.djq_plan.proofs.GrowthSteps.{some_leaf}
use Rattle.djq_plan.proofs.LabelPairs.{pairs, pairs_same, pairs_turn, pairs_most, pairs_least, pairs_at, pairs_each}
use Rattle.djq_plan.proofs.LabelPairs.{IsEven, even_of, flat_of}
use Rattle.djq_plan.proofs.GrownTrees.{some_current, Extends, extends_itself, extends_step, extends_node, extends_label}
use Rattle.djq_plan.proofs.GrownTrees.{grow_extends, within_has}
use Rattle.djq_plan.proofs.GrowthInvariant.{by_node, node_new, label_old}

-- ---- A step of the planner on the labels of a flat query: they stay so, and no proper subset is ever needed.

-- ---- a trim

module _ (keep : List ℕ) (L : List (List ℕ)) (i : ℕ) (X : List ℕ) (t : Trims keep L i X) where
  abbrev M : List (List ℕ)
  M = current_after L (Trim i X)

  abbrev R : List (List ℕ)
  R = remove L i

  was : Same L (edge_at L i ∷ R)
  was = bag_remove labels [] L i t.within

  is : Same M (difference (edge_at L i) X ∷ R)
  is a = sym (after_trim L i X a)

  -- a variable that goes lies in one label before, in none after, and isn't kept
  record Gone (x : ℕ) : Type 0 where
    before : degree x L ≡ 1
    after : degree x M ≡ 0
    free : has_bit x keep ≡ 0

  -- another one lies in as many
  record Stays (x : ℕ) : Type 0 where
    out : has_bit x X ≡ 0
    same : degree x M ≡ degree x L

  fate : (x : ℕ) → Gone x ⊎ Stays x
  fate x =
      let d = degree_same x L (edge_at L i ∷ R) was in
      let e = degree_same x M (difference (edge_at L i) X ∷ R) is in
      let m = has_difference x (edge_at L i) X in
      let k : has_bit x X ≡ has_bit x (removable keep L i) = ap (has_bit x) t.are in
      elim (cases_lt 0 (has_bit x X)) [
        | inl gone ↦
            let r = removed_says keep L i x (omega arith) in
            let n = removed_elsewhere keep L i x t.within r in
            inl (record {
              before = r.only;
              after = (let h = r.here in let o = one_le (member x X) in omega arith);
              free
                  = r.free;
            })
        | inr stays ↦ inr (record { out = omega arith; same = omega (arith, one_le (member x (edge_at L i))) })
      ]

  both_stay : (x y : ℕ) → Stays x → Stays y → pairs x y M ≡ pairs x y L
  both_stay x y p q =
      let d = pairs_same x y L (edge_at L i ∷ R) was in
      let e = pairs_same x y M (difference (edge_at L i) X ∷ R) is in
      let m = has_difference x (edge_at L i) X in let n = has_difference y (edge_at L i) X in
      let a = one_le (member x (edge_at L i)) in let b = one_le (member y (edge_at L i)) in
      let c = p.out in let f = q.out in
      omega arith

  trim_nested : IsEven keep L → (x y : ℕ)
      → (pairs x y M ≡ degree x M) ⊎ ((pairs x y M ≡ degree y M) ⊎ (pairs x y M ≡ 0))
  trim_nested even x y =
      elim (fate x) [
        | inl gone ↦ inr (inr (let a = gone.after in let m = pairs_most x y M in omega arith))
        | inr stays ↦
            elim (fate y) [
              | inl gone ↦ inr (inr (let a = gone.after in let m = pairs_least x y M in omega arith))
              | inr stays2 ↦
                  let p = both_stay x y stays stays2 in let d = stays.same in let e = stays2.same in
                  elim (even.nested x y) [
                    | inl h ↦ inl (omega arith)
                    | inr r ↦ elim r [ inl h ↦ inr (inl (omega arith)) | inr h ↦ inr (inr (omega arith)) ]
                  ]
            ]
      ]

  trim_headed : IsEven keep L → (x y : ℕ) → 0 < has_bit x keep → 0 < degree x M → pairs x y M ≡ degree x M
      → (pairs x y M ≡ degree y M) ⊎ (0 < has_bit y keep)
  trim_headed even x y head some full =
      elim (fate x) [
        | inl gone ↦ absurd (let a = gone.after in omega arith)
        | inr stays ↦
            elim (fate y) [
              | inl gone ↦ absurd (let a = gone.after in let m = pairs_least x y M in omega arith)
              | inr stays2 ↦
                  let p = both_stay x y stays stays2 in let d = stays.same in let e = stays2.same in
                  elim (even.headed x y head (omega arith) (omega arith)) [ inl h ↦ inl (omega arith) | inr h ↦ inr h ]
            ]
      ]

  untrim_nested : IsEven keep M → (x y : ℕ)
      → (pairs x y L ≡ degree x L) ⊎ ((pairs x y L ≡ degree y L) ⊎ (pairs x y L ≡ 0))
  untrim_nested even x y =
      elim (cases_lt 0 (pairs x y L)) [
        | inr none ↦ inr (inr (omega arith))
        | inl some ↦
            elim (fate x) [
              | inl gone ↦ inl (let a = gone.before in let m = pairs_most x y L in omega arith)
              | inr stays ↦
                  elim (fate y) [
                    | inl gone ↦ inr (inl (let a = gone.before in let m = pairs_least x y L in omega arith))
                    | inr stays2 ↦
                        let p = both_stay x y stays stays2 in let d = stays.same in let e = stays2.same in
                        elim (even.nested x y) [
                          | inl h ↦ inl (omega arith)
                          | inr r ↦ elim r [ inl h ↦ inr (inl (omega arith)) | inr h ↦ inr (inr (omega arith)) ]
                        ]
                  ]
            ]
      ]

  untrim_headed : IsEven keep M → (x y : ℕ) → 0 < has_bit x keep → 0 < degree x L → pairs x y L ≡ degree x L
      → (pairs x y L ≡ degree y L) ⊎ (0 < has_bit y keep)
  untrim_headed even x y head some full =
      elim (fate x) [
        | inl gone ↦ absurd (let a = gone.free in omega arith)
        | inr stays ↦
            elim (fate y) [
              | inl gone ↦ inl (let a = gone.before in let m = pairs_least x y L in omega arith)
              | inr stays2 ↦
                  let p = both_stay x y stays stays2 in let d = stays.same in let e = stays2.same in
                  elim (even.headed x y head (omega arith) (omega arith)) [ inl h ↦ inl (omega arith) | inr h ↦ inr h ]
            ]
      ]

-- ---- a meet of two equal labels

module _ (keep : List ℕ) (L : List (List ℕ)) (g s : ℕ) (m : Meets L g s)
    (equal : (x : ℕ) → has_bit x (edge_at L s) ≡ has_bit x (edge_at L g)) where
  abbrev N : List (List ℕ)
  N = current_after L (Meet g s)

  abbrev W : List (List ℕ)
  W = without_both L g s

  meet_degree : (x : ℕ) → degree x L ≡ has_bit x (edge_at L g) + degree x N
  meet_degree x =
      let a = degree_same x L (edge_at L g ∷ edge_at L s ∷ W) (bag_both labels [] L g s m.apart m.guard m.side) in
      let b = degree_same x (edge_at L g ∷ W) N (after_meet L g s) in
      omega (arith, equal x)

  meet_pairs : (x y : ℕ) → pairs x y L ≡ min (has_bit x (edge_at L g)) (has_bit y (edge_at L g)) + pairs x y N
  meet_pairs x y =
      let a = pairs_same x y L (edge_at L g ∷ edge_at L s ∷ W) (bag_both labels [] L g s m.apart m.guard m.side) in
      let b = pairs_same x y (edge_at L g ∷ W) N (after_meet L g s) in
      omega (arith, equal x, equal y)

  -- the label is still there once
  meet_rest : (x y : ℕ) → (pairs x y N ≡ min (has_bit x (edge_at L g)) (has_bit y (edge_at L g)) + pairs x y W)
      × (degree x N ≡ has_bit x (edge_at L g) + degree x W) × (degree y N ≡ has_bit y (edge_at L g) + degree y W)
  meet_rest x y =
      let a = pairs_same x y (edge_at L g ∷ W) N (after_meet L g s) in
      let b = degree_same x (edge_at L g ∷ W) N (after_meet L g s) in
      let c = degree_same y (edge_at L g ∷ W) N (after_meet L g s) in
      (omega arith, omega arith, omega arith)

  meet_nested : IsEven keep L → (x y : ℕ)
      → (pairs x y N ≡ degree x N) ⊎ ((pairs x y N ≡ degree y N) ⊎ (pairs x y N ≡ 0))
  meet_nested even x y =
      let p = meet_pairs x y in let d = meet_degree x in let e = meet_degree y in let r = meet_rest x y in
      let a = r.0 in let b = r.1 in let c = r.2 in let u = pairs_most x y W in let v = pairs_least x y W in
      elim (even.nested x y) [
        | inl h ↦ inl (omega arith)
        | inr q ↦ elim q [ inl h ↦ inr (inl (omega arith)) | inr h ↦ inr (inr (omega arith)) ]
      ]

  meet_headed : IsEven keep L → (x y : ℕ) → 0 < has_bit x keep → 0 < degree x N → pairs x y N ≡ degree x N
      → (pairs x y N ≡ degree y N) ⊎ (0 < has_bit y keep)
  meet_headed even x y head some full =
      let p = meet_pairs x y in let d = meet_degree x in let e = meet_degree y in let r = meet_rest x y in
      let a = r.0 in let b = r.1 in let c = r.2 in let u = pairs_most x y W in let v = pairs_least x y W in
      elim (even.headed x y head (omega arith) (omega arith)) [ inl h ↦ inl (omega arith) | inr h ↦ inr h ]

  unmeet_nested : IsEven keep N → (x y : ℕ)
      → (pairs x y L ≡ degree x L) ⊎ ((pairs x y L ≡ degree y L) ⊎ (pairs x y L ≡ 0))
  unmeet_nested even x y =
      let p = meet_pairs x y in let d = meet_degree x in let e = meet_degree y in let r = meet_rest x y in
      let a = r.0 in let b = r.1 in let c = r.2 in let u = pairs_most x y W in let v = pairs_least x y W in
      elim (even.nested x y) [
        | inl h ↦ inl (omega arith)
        | inr q ↦ elim q [ inl h ↦ inr (inl (omega arith)) | inr h ↦ inr (inr (omega arith)) ]
      ]

  unmeet_headed : IsEven keep N → (x y : ℕ) → 0 < has_bit x keep → 0 < degree x L → pairs x y L ≡ degree x L
      → (pairs x y L ≡ degree y L) ⊎ (0 < has_bit y keep)
  unmeet_headed even x y head some full =
      let p = meet_pairs x y in let d = meet_degree x in let e = meet_degree y in let r = meet_rest x y in
      let a = r.0 in let b = r.1 in let c = r.2 in let u = pairs_most x y W in let v = pairs_least x y W in
      elim (even.headed x y head (omega arith) (omega arith)) [ inl h ↦ inl (omega arith) | inr h ↦ inr h ]

-- ---- a step

-- where it is a meet, its two labels have the same variables
abbrev pub MeetsEqual : List (List ℕ) → Choice → Type 0
MeetsEqual L (Trim i X) = Unit {0}
MeetsEqual L (Meet g s) = (x : ℕ) → has_bit x (edge_at L s) ≡ has_bit x (edge_at L g)
MeetsEqual L Stuck = Unit {0}

pub even_step : (keep : List ℕ) (L : List (List ℕ)) (c : Choice) → Says keep L c → MeetsEqual L c → IsEven keep L
    → IsEven keep (current_after L c)
even_step keep L (Trim i X) t equal even = record
    { nested = trim_nested keep L i X t even; headed = trim_headed keep L i X t even }
even_step keep L (Meet g s) t equal even = record
    { nested = meet_nested keep L g s t equal even; headed = meet_headed keep L g s t equal even }
even_step keep L Stuck t equal even = even

pub even_back : (keep : List ℕ) (L : List (List ℕ)) (c : Choice) → Says keep L c → MeetsEqual L c
    → IsEven keep (current_after L c) → IsEven keep L
even_back keep L (Trim i X) t equal even = record
    { nested = untrim_nested keep L i X t even; headed = untrim_headed keep L i X t even }
even_back keep L (Meet g s) t equal even = record
    { nested = unmeet_nested keep L g s t equal even; headed = unmeet_headed keep L g s t equal even }
even_back keep L Stuck t equal even = even

-- ---- where only a proper subset is left

-- no node has a removable variable, and no two have equal labels
pub record IsBare (keep : List ℕ) (L : List (List ℕ)) : Type 0 where
  pub no_own : (i : ℕ) → i < length L → has_removable keep L i ≡ false
  pub no_twin : (a b : ℕ) → a < b → b < length L → are_equal L a b ≡ false

-- two places with the variable
record Two (x : ℕ) (L : List (List ℕ)) : Type 0 where
  a : ℕ
  b : ℕ
  apart : a < b
  below : b < length L
  in_a : 0 < has_bit x (edge_at L a)
  in_b : 0 < has_bit x (edge_at L b)

two_places : (x : ℕ) (L : List (List ℕ)) → 1 < degree x L → Two x L
two_places x [] h = absurd (omega arith)
two_places x (l ∷ L) h =
    elim (cases_lt 0 (has_bit x l)) [
      | inl here ↦
          let p = edge_with L x (omega (arith, one_le (member x l))) in
          record {
            a = 0;
            b = suc p.0;
            apart = omega arith;
            below = (let w = start_low L x p.0 p.1 in omega arith);
            in_a
                = here;
            in_b = from_true (member x (edge_at L p.0)) p.1;
          }
      | inr other ↦
          let r = two_places x L (omega arith) in
          record {
            a = suc r.a;
            b = suc r.b;
            apart = (let w = r.apart in omega arith);
            below =
                (let w = r.below in omega arith);
            in_a = r.in_a;
            in_b = r.in_b;
          }
    ]

module _ (keep : List ℕ) (L : List (List ℕ)) (even : IsEven keep L) (bare : IsBare keep L) where
  -- what lies in a label with x lies in each label with x, where x isn't kept and no such variable lies in fewer
  full : (n : ℕ) → ((z : ℕ) → degree z L ≤ n → 0 < degree z L → has_bit z keep ≡ 0 → ⊥) → (x : ℕ) → degree x L ≤ suc n
      → has_bit x keep ≡ 0
      → (z j : ℕ) → 0 < has_bit x (edge_at L j) → 0 < has_bit z (edge_at L j) → pairs x z L ≡ degree x L
  full n lesser x low free z j here there =
      let lies = edge_in L j z in
      let turn = pairs_turn x z L in
      let at = pairs_at x z L j in
      let m = pairs_most x z L in
      elim (even.nested x z) [
        | inl h ↦ h
        | inr r ↦ elim r [
          | inr none ↦ absurd (omega arith)
          | inl h ↦
              elim (cases_lt (degree z L) (degree x L)) [
                | inr most ↦ omega arith
                | inl less ↦
                    elim (cases_lt 0 (has_bit z keep)) [
                      | inr out ↦ absurd (lesser z (omega arith) (omega arith) (omega arith))
                      | inl kept ↦
                          elim (even.headed z x kept (omega arith) (omega arith))
                          [ inl same ↦ omega arith | inr inside ↦ absurd (omega arith) ]
                    ]
              ]
        ]
      ]

  alone : (x : ℕ) → degree x L ≡ 1 → has_bit x keep ≡ 0 → ⊥
  alone x one_label free =
      let p = edge_with L x (omega arith) in
      let here = from_true (member x (edge_at L p.0)) p.1 in
      false≢true (sym (bare.no_own p.0 (start_low L x p.0 p.1))
      ∙ has_removable_from keep L p.0 x
      (record { here = omega (arith, one_le (member x (edge_at L p.0))); only = one_label; free = free }))

  -- each variable that is left is kept
  pub none_left : (n x : ℕ) → degree x L ≤ n → 0 < degree x L → has_bit x keep ≡ 0 → ⊥
  none_left zero x low some free = omega arith
  none_left (suc n) x low some free =
      elim (cases_lt 1 (degree x L)) [
        | inr few ↦ alone x (omega arith) free
        | inl many ↦
            let t = two_places x L many in
            let each = full n (none_left n) x low free in
            let ab = subset_from (edge_at L t.a) (edge_at L t.b) (λ z. in_other z t.a t.b t.in_b (each z t.a t.in_a)) in
            let ba = subset_from (edge_at L t.b) (edge_at L t.a) (λ z. in_other z t.b t.a t.in_a (each z t.b t.in_b)) in
            false≢true (sym (bare.no_twin t.a t.b t.apart t.below) ∙ rw (ab, ba) refl)
      ]
    where
      in_other : (z a b : ℕ) → 0 < has_bit x (edge_at L b) → (0 < has_bit z (edge_at L a) → pairs x z L ≡ degree x L)
          → has_bit z (edge_at L a) ≤ has_bit z (edge_at L b)
      in_other z a b there all =
          elim (cases_lt 0 (has_bit z (edge_at L a))) [
            | inr none ↦ omega arith
            | inl some ↦ let e = pairs_each x z L b (all some) in let o = one_le (member z (edge_at L a)) in omega arith
          ]

-- a stage that isn't over has one of the first two rules' steps
abbrev pub Moves : (List (List ℕ) → Bool) → List ℕ → Type 0
Moves over keep = (L : List (List ℕ)) → 0 < length L → over L ≡ false → IsEven keep L → IsBare keep L → ⊥

loose : (F : List ℕ) (L : List (List ℕ)) → are_within F L ≡ false → (x : ℕ) × (0 < degree x L) × (has_bit x F ≡ 0)
loose F [] h = absurd cc
loose F (l ∷ L) h =
    elim (cases_Bool (subset l F)) [
      | inr out ↦ let o = outside l F out in (o.var, (let w = o.within in omega arith), o.without)
      | inl within ↦ let r = loose F L (ap (λ (b : Bool). b && are_within F L) (sym within) ∙ h) in
          (r.0, (let w = r.1 in omega arith), r.2)
    ]

pub first_moves : (F : List ℕ) → Moves (are_within F) F
first_moves F L some off even bare = let x = loose F L off in none_left F L even bare (degree x.0 L) x.0 (omega arith)
    x.1 x.2

pub second_moves : Moves is_root []
second_moves [] some off even bare = absurd (omega arith)
second_moves ([] ∷ []) some off even bare = false≢true (sym off)
second_moves ([] ∷ [] ∷ L) some off even bare = false≢true (sym (bare.no_twin 0 1 (omega arith) (omega arith)))
second_moves ([] ∷ (x ∷ e) ∷ L) some off even bare = let h = has_here x x e refl in none_left [] ([] ∷ (x ∷ e) ∷ L) even
    bare (degree x ([] ∷ (x ∷ e) ∷ L)) x (omega arith) (omega arith) (omega arith)
second_moves ((x ∷ e) ∷ L) some off even bare = let h = has_here x x e refl in none_left [] ((x ∷ e) ∷ L) even bare
    (degree x ((x ∷ e) ∷ L)) x (omega arith) (omega arith) (omega arith)

-- ---- A query is flat exactly where all meets of its tree have equal labels.

-- ---- the rule's meets

-- a meet is one of equal labels, or there is a step of the third rule alone; where there is no step, none of the
-- first two
abbrev pub Turns : List ℕ → List (List ℕ) → Choice → Type 0
Turns keep L (Trim i X) = Unit {0}
Turns keep L (Meet g s) = MeetsEqual L (Meet g s) ⊎ IsBare keep L
Turns keep L Stuck = IsBare keep L

turns_inside : (keep : List ℕ) (L : List (List ℕ)) (o : Option ℕ) → IsBare keep L → Turns keep L (choose_inside L o)
turns_inside keep L (Some s) bare = inr bare
turns_inside keep L None bare = bare

twins_equal : (L : List (List ℕ)) (a : ℕ) (o : Option ℕ) → o ≡ twin L a → is_some o ≡ true
    → MeetsEqual L (Meet a (unwrap_or o 0))
twins_equal L a None e h x = absurd cc
twins_equal L a (Some b) e h x =
    let f = lowest_some (λ b. nat_lt a b && are_equal L a b) 0 (length L) b (sym e) in
    let both = (and_parts (nat_lt a b) (are_equal L a b) f.passes).1 in
    let ab = subset_says (edge_at L a) (edge_at L b)
    (and_parts (subset (edge_at L a) (edge_at L b)) (subset (edge_at L b) (edge_at L a)) both).0 x in
    let ba = subset_says (edge_at L b) (edge_at L a)
    (and_parts (subset (edge_at L a) (edge_at L b)) (subset (edge_at L b) (edge_at L a)) both).1 x in
    omega arith

turns_equal : (keep : List ℕ) (L : List (List ℕ)) (o : Option ℕ) → o ≡ lowest (λ a. is_some (twin L a)) L
    → ((i : ℕ) → i < length L → has_removable keep L i ≡ false) → Turns keep L (choose_equal L o)
turns_equal keep L (Some a) e own = inl
    (twins_equal L a (twin L a) refl (lowest_some (λ a. is_some (twin L a)) 0 (length L) a (sym e)).passes)
turns_equal keep L None e own = turns_inside keep L (lowest (λ s. is_some (cover L s)) L)
    (record { no_own = own; no_twin = no_twins L (sym e) })

turns_trim : (keep : List ℕ) (L : List (List ℕ)) (o : Option ℕ) → o ≡ lowest (λ i. has_removable keep L i) L
    → Turns keep L (choose_trim keep L o)
turns_trim keep L (Some i) e = tt
turns_trim keep L None e =
    turns_equal keep L (lowest (λ a. is_some (twin L a)) L) refl
    (λ i within. lowest_none (λ i. has_removable keep L i) 0 (length L) (sym e) i (omega arith) (omega arith))

choose_turns : (keep : List ℕ) (L : List (List ℕ)) → Turns keep L (choose keep L)
choose_turns keep L = turns_trim keep L (lowest (λ i. has_removable keep L i) L) refl

equal_turn : (keep : List ℕ) (L : List (List ℕ)) (c : Choice) → (IsBare keep L → ⊥) → Turns keep L c → MeetsEqual L c
equal_turn keep L (Trim i X) moves t = tt
equal_turn keep L (Meet g s) moves t = elim t [ inl equal ↦ equal | inr bare ↦ absurd (moves bare) ]
equal_turn keep L Stuck moves t = tt

-- ---- the meets of a growth

-- the labels of the guard and the side of each meet have the same variables
abbrev pub Evens : Growth → Type 0
Evens s = (k g d : ℕ) → node_at s.nodes k ≡ node.Meet g d → (x : ℕ) → has_bit x (edge_at s.labels d)
    ≡ has_bit x (edge_at s.labels g)

evens_start : (H : List (List ℕ)) → Evens (start H)
evens_start H k g d e = absurd
    (let l = some_leaf (length H) k in let q : node.Leaf l.0 ≡ node.Meet g d = sym l.1 ∙ e in cc)

-- the labels that are there stay
old_label : (labels : List (List ℕ)) (l : List ℕ) (x j : ℕ) → j < length labels
    → has_bit x (edge_at (labels ++ l ∷ []) j)
    ≡ has_bit x (edge_at labels j)
old_label labels l x j low = ap (has_bit x) (label_old labels l j low)

evens_added : (m : ℕ) (s : Growth) (n : Node) (l : List ℕ) → Grown m s → Evens s
    → ((g d : ℕ) → n ≡ node.Meet g d → (x : ℕ) → has_bit x (edge_at (s.labels ++ l ∷ []) d)
    ≡ has_bit x (edge_at (s.labels ++ l ∷ []) g))
    → (k g d : ℕ) → node_at (s.nodes ++ n ∷ []) k ≡ node.Meet g d → (x : ℕ) → has_bit x (edge_at (s.labels ++ l ∷ []) d)
    ≡ has_bit x (edge_at (s.labels ++ l ∷ []) g)
evens_added m s n l grown evens new k g d is x =
    by_node s.nodes n (λ k n. (g d : ℕ) → n ≡ node.Meet g d → (x : ℕ) → has_bit x (edge_at (s.labels ++ l ∷ []) d)
    ≡ has_bit x (edge_at (s.labels ++ l ∷ []) g))
    (λ k low g d e x.
    let t = grown.sound.meet k g d e in
    let a = t.guard_lower in let b = t.side_lower in let c = grown.sound.labelled in
    old_label s.labels l x d (omega arith) ∙ evens k g d e x ∙ sym (old_label s.labels l x g (omega arith)))
    new (λ k g d e x. absurd cc) k g d is x

-- a current number is that of a node
number_low : (m : ℕ) (s : Growth) (i : ℕ) → Grown m s → i < length s.current → slice_index s.numbers i < length s.labels
number_low m s i g low =
    let e = same_length m s g in
    let b = g.sound.small (slice_index s.numbers i) (times_at numbers 0 s.numbers i (omega arith)) in
    let c = g.sound.labelled in
    omega arith

number_has : (m : ℕ) (s : Growth) (i x : ℕ) → Grown m s → i < length s.current
    → has_bit x (edge_at s.labels (slice_index s.numbers i)) ≡ has_bit x (edge_at s.current i)
number_has m s i x g low = ap (has_bit x) (sym (current_at m s i g low))

evens_step : (m : ℕ) (keep : List ℕ) (s : Growth) (c : Choice) → Grown m s → Says keep s.current c
    → MeetsEqual s.current c → Evens s → Evens (grown s c)
evens_step m keep s (Trim i X) g t equal evens = evens_added m s _ _ g evens (λ a b e x. absurd cc)
evens_step m keep s (Meet i d) g t equal evens =
    evens_added m s _ _ g evens
    (λ a b e x.
    let p : slice_index s.numbers i ≡ a = cc in
    let q : slice_index s.numbers d ≡ b = cc in
    let l = edge_at s.current i in
    rw (← p, ← q) (old_label s.labels l x (slice_index s.numbers d) (number_low m s d g t.side)
    ∙ number_has m s d x g t.side ∙ equal x
    ∙ sym (old_label s.labels l x (slice_index s.numbers i) (number_low m s i g t.guard)
    ∙ number_has m s i x g t.guard)))
evens_step m keep s Stuck g t equal evens = evens

-- the same the other way round: from all meets to that of a step, and to those before it
equal_step : (m : ℕ) (keep : List ℕ) (s : Growth) (c : Choice) → Grown m s → Says keep s.current c → Evens (grown s c)
    → MeetsEqual s.current c
equal_step m keep s (Trim i X) g t evens = tt
equal_step m keep s (Meet i d) g t evens = λ x.
    let l = edge_at s.current i in
    sym (old_label s.labels l x (slice_index s.numbers d) (number_low m s d g t.side) ∙ number_has m s d x g t.side)
    ∙ evens (length s.nodes) (slice_index s.numbers i) (slice_index s.numbers d)
    (node_new s.nodes (node.Meet (slice_index s.numbers i) (slice_index s.numbers d))) x
    ∙ old_label s.labels l x (slice_index s.numbers i) (number_low m s i g t.guard) ∙ number_has m s i x g t.guard
equal_step m keep s Stuck g t evens = tt

evens_less : (m : ℕ) (s t : Growth) → Extends s t → Grown m s → Evens t → Evens s
evens_less m s t ext grown evens k g d e x =
    elim (cases_lt k (length s.nodes)) [
      | inr high ↦ absurd (let q : node.Leaf 0 ≡ node.Meet g d = sym (get_or_past s.nodes k (node.Leaf 0) high)
          ∙ e in cc)
      | inl low ↦
          let u = grown.sound.meet k g d e in
          let a = u.guard_lower in let b = u.side_lower in let c = grown.sound.labelled in
          ap (has_bit x) (sym (extends_label s t d ext (omega arith))) ∙ evens k g d (extends_node s t k ext low ∙ e) x
          ∙ ap (has_bit x) (extends_label s t g ext (omega arith))
    ]

-- ---- a stage forwards

record On (m : ℕ) (keep : List ℕ) (s : Growth) : Type 0 where
  grown : Grown m s
  even : IsEven keep s.current
  evens : Evens s

module _ (over : List (List ℕ) → Bool) (keep : List ℕ) (moves : Moves over keep) (m : ℕ) (some : 0 < m) where
  on_step : (s : Growth) → over s.current ≡ false → On m keep s → On m keep (grown s (choose keep s.current))
  on_step s off on =
      let c = choose keep s.current in
      let says = choose_says keep s.current in
      let equal = equal_turn keep s.current c (moves s.current (some_current m s some on.grown) off on.even)
      (choose_turns keep s.current) in
      record {
        grown = step_grown m keep s c on.grown says;
        even = subst (IsEven keep) (sym (grown_current s c)) (even_step keep s.current c says equal on.even);
        evens = evens_step m keep s c on.grown says equal on.evens;
      }

  on_grow : (n : ℕ) (s : Growth) → ((k : ℕ) → k < n → over (grow keep k s).current ≡ false) → On m keep s
      → On m keep (grow keep n s)
  unfolding grow
  on_grow zero s goes on = on
  on_grow (suc n) s goes on = on_step (grow keep n s) (goes n (omega arith))
      (on_grow n s (λ k low. goes k (omega arith)) on)

  never_stuck : (s t : Growth) → IsStuckAt over keep s t → On m keep s → ⊥
  never_stuck s t stuck on =
      let at : On m keep t = subst (On m keep) (sym stuck.leads) (on_grow stuck.steps s stuck.goes on) in
      moves t.current (some_current m t some at.grown) stuck.goes_on at.even
      (subst (Turns keep t.current) stuck.stuck (choose_turns keep t.current))

-- the second stage begins as the first one ends
headless : (F : List ℕ) (L : List (List ℕ)) → IsEven F L → IsEven [] L
headless F L even = record { nested = even.nested; headed = λ x y head some full. absurd (omega arith) }

on_start : (H : List (List ℕ)) (F : List ℕ) → IsFlat H F → On (length H) F (start H)
on_start H F flat = record { grown = start_grown H; even = even_of H F flat; evens = evens_start H }

on_second : (m : ℕ) (F : List ℕ) (s : Growth) → On m F s → On m [] s
on_second m F s on = record { grown = on.grown; even = headless F s.current on.even; evens = on.evens }

-- a flat query is never stuck
pub flat_first : (H : List (List ℕ)) (F : List ℕ) (s t : Growth) (b : Bool) → 0 < length H → s ≡ start H
    → IsStageEnd (are_within F) F s t b → b ≡ false → IsFlat H F → ⊥
flat_first H F s t b some e stage no_end flat =
    let stuck = subst (λ (z : Bool). IsStageEnd (are_within F) F s t z) no_end stage in
    never_stuck (are_within F) F (first_moves F) (length H) some s t stuck
    (subst (On (length H) F) (sym e) (on_start H F flat))

on_mid : (H : List (List ℕ)) (F : List ℕ) (s mid : Growth) (b : Bool) → 0 < length H → s ≡ start H
    → IsStageEnd (are_within F) F s mid b → b ≡ true → IsFlat H F → On (length H) [] mid
on_mid H F s mid b some e stage ended flat =
    let a = subst (λ (z : Bool). IsStageEnd (are_within F) F s mid z) ended stage in
    on_second (length H) F mid
    (subst (On (length H) F) (sym a.leads)
    (on_grow (are_within F) F (first_moves F) (length H) some a.steps s a.goes
    (subst (On (length H) F) (sym e) (on_start H F flat))))

pub flat_second : (H : List (List ℕ)) (F : List ℕ) (s mid t : Growth) (b : Bool) → 0 < length H → s ≡ start H
    → IsStageEnd (are_within F) F s mid b → b ≡ true → IsStuckAt is_root [] mid t → IsFlat H F → ⊥
flat_second H F s mid t b some e stage ended stuck flat =
    never_stuck is_root [] second_moves (length H) some mid t stuck (on_mid H F s mid b some e stage ended flat)

leaves_some : (H : List (List ℕ)) (F : List ℕ) (t : Tree) → IsTreeOf H F t → IsTree t → 0 < length H
leaves_some H F t p tree = let e : t.leaves
    ≡ length H = ap (λ (u : Tree). u.leaves) p.is in let s = tree.some in omega arith

-- the meets of a flat query's tree are equal
pub equal_meets : (H : List (List ℕ)) (F : List ℕ) (t : Tree) → IsTreeOf H F t → IsTree t → IsFlat H F → HasEqualMeets t
equal_meets H F t p tree flat =
    let some = leaves_some H F t p tree in
    let mid = on_mid H F (start H) p.mid true some refl p.first refl flat in
    let last : On (length H) [] p.last = subst (On (length H) []) (sym p.second.leads)
    (on_grow is_root [] second_moves (length H) some p.second.steps p.mid p.second.goes mid) in
    let nodes : t.nodes ≡ p.last.nodes = ap (λ (u : Tree). u.nodes) p.is in
    let labels : p.last.labels ≡ t.labels = sym (ap (λ (u : Tree). u.labels) p.is) in
    record {
      equal = λ k g d e.
          same_sets (edge_at t.labels d) (edge_at t.labels g)
          (AllPairs-from_increasing (edge_at t.labels d) (tree.sets d).rising)
          (AllPairs-from_increasing (edge_at t.labels g) (tree.sets g).rising)
          (λ x. same_one (member x (edge_at t.labels d)) (member x (edge_at t.labels g))
          (subst (λ (L : List (List ℕ)). has_bit x (edge_at L d) ≡ has_bit x (edge_at L g)) labels
          (last.evens k g d (ap (λ (n : List Node). node_at n k) (sym nodes) ∙ e) x)));
    }

-- ---- and backwards

back_grow : (m : ℕ) (keep : List ℕ) (n : ℕ) (s : Growth) → Grown m s → Evens (grow keep n s)
    → IsEven keep (grow keep n s).current → IsEven keep s.current
unfolding grow
back_grow m keep zero s g evens even = even
back_grow m keep (suc n) s g evens even =
    let t = grow keep n s in
    let c = choose keep t.current in
    let u = grow_grown m keep n s g in
    let says = choose_says keep t.current in
    back_grow m keep n s g (evens_less m t (grown t c) (extends_step t t c (extends_itself t)) u evens)
    (even_back keep t.current c says (equal_step m keep t c u says evens)
    (subst (IsEven keep) (grown_current t c) even))

-- the one label at the end is empty
root_even : (L : List (List ℕ)) → is_root L ≡ true → IsEven [] L
root_even L over = record {
  nested = λ x y. inr (inr (let n = none L over x in let m = pairs_most x y L in omega arith));
  headed = λ x y head
      some full. absurd (omega arith);
}
  where
    none : (L : List (List ℕ)) → is_root L ≡ true → (x : ℕ) → degree x L ≡ 0
    none [] h x = refl
    none (l ∷ []) h x =
        let e : l ≡ [] = nil_from_length l
        (eqb-true (length l) 0 (and_parts (length (l ∷ []) == 1) (length l == 0) h).1) in
        ap (λ (k : List ℕ). has_bit x k + 0) e
    none (l ∷ m ∷ L) h x = absurd
        (let e = eqb-true (length (l ∷ m ∷ L)) 1 (and_parts (length (l ∷ m ∷ L) == 1) (length l == 0) h).0 in
        omega arith)

-- between the stages all labels lie in the head
head_even : (F : List ℕ) (L : List (List ℕ)) → are_within F L ≡ true → IsEven [] L → IsEven F L
head_even F L over even = record {
  nested = even.nested;
  headed = λ x y head some full. inr
      (within_has F L over y (let m = pairs_least x y L in omega arith));
}

-- a query whose tree has equal meets is flat
pub flat_from : (H : List (List ℕ)) (F : List ℕ) (t : Tree) → AreCovered F H → IsTreeOf H F t → HasEqualMeets t
    → IsFlat H F
flat_from H F t heads p meets =
    let m = length H in
    let nodes : t.nodes ≡ p.last.nodes = ap (λ (u : Tree). u.nodes) p.is in
    let labels : t.labels ≡ p.last.labels = ap (λ (u : Tree). u.labels) p.is in
    let evens : Evens p.last = λ k g d e x. ap (has_bit x)
    (ap (λ (L : List (List ℕ)). edge_at L d) (sym labels)
    ∙ meets.equal k g d (ap (λ (n : List Node). node_at n k) nodes ∙ e)
    ∙ ap (λ (L : List (List ℕ)). edge_at L g) labels) in
    let first_grown = start_grown H in
    let mid_grown : Grown m p.mid = subst (Grown m) (sym p.first.leads)
    (grow_grown m F p.first.steps (start H) first_grown) in
    let mid_even = back_grow m [] p.second.steps p.mid mid_grown (subst Evens p.second.leads evens)
    (subst (λ (s : Growth). IsEven [] s.current) p.second.leads (root_even p.last.current p.second.ends)) in
    let later : Extends p.mid p.last = subst (Extends p.mid) (sym p.second.leads) (grow_extends [] p.second.steps p.mid)
    in
    let mid_evens = evens_less m p.mid p.last later mid_grown evens in
    flat_of H F heads
    (back_grow m F p.first.steps (start H) first_grown (subst Evens p.first.leads mid_evens)
    (subst (λ (s : Growth). IsEven F s.current) p.first.leads (head_even F p.mid.current p.first.ends mid_even)))
