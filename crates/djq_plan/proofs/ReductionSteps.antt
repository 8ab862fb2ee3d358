-- The steps of the reduction of a hypergraph: their search, and what each leaves.
use Rattle.std.specs.Prelude.{◌≡◌, ◌≢◌, ℕ, zero, suc, ◌+◌, ◌<◌, Bool, true, false, cond, List, [], ◌∷◌, length}
use Rattle.std.specs.Prelude.{slice_set, remove, refl, min, ◌==◌, take, slice_get, Some, None, ◌≤◌, ◌↔◌, not, ◌++◌}
use Rattle.std.specs.Prelude.{filter}
use Rattle.std.proofs.Common.{sym, ap, arith, inl, inr, ◌∙◌, subst}
use Rattle.std.proofs.lemmas.Bool.{cases_lt, eq-eqb, eqb-true, cases_eq}
use Rattle.std.proofs.lemmas.List.{get_or_past}
use Rattle.djq_hypergraph.specs.declared.step.Step.TheVariants.{Vertex, Edge}
use Rattle.djq_hypergraph.specs.declared.step.Step.{Step}
use Rattle.djq_hypergraph.specs.Hypergraph.{one, edge_at, member, degree, intersection, subset, difference}
use Rattle.djq_hypergraph.specs.Gyo.{IsStep, reduced, Leads, IsRest, IsLean, IsIrreducible, HasNoVariables}
use Rattle.djq_hypergraph.specs.JoinTree.{HasJoinTree}
use Rattle.djq_hypergraph.proofs.Labels.{labels, out_of, same_item, equal, out_same, total, total_same, count, Same}
use Rattle.djq_hypergraph.proofs.Labels.{count_self, degree_in, degree_same, degree_more, edge_with}
use Rattle.djq_hypergraph.proofs.Sets.{from_true, has_bit, one_true, has_intersection, has_here, has_difference}
use Rattle.djq_hypergraph.proofs.Sets.{subset_from, Sub, one_le, from_false, subset_says, has_one, has_other}
use Rattle.djq_hypergraph.proofs.LabelTrees.{Rooted, rooted_same, all_plugged, progress, trimmed, untrimmed, dropped}
use Rattle.djq_hypergraph.proofs.LabelTrees.{undropped}
use Rattle.djq_hypergraph.proofs.JoinTrees.{rooted_of, join_tree_from}

-- ---- From positions in a list of edges to the list up to order.

-- the edge at a position, and the others
pub at_place : (E : List (List ℕ)) (i : ℕ) → i < length E → Same E (edge_at E i ∷ remove E i)
at_place [] i within a = absurd (omega arith)
at_place (e ∷ E) zero within a = refl
at_place (e ∷ E) (suc i) within a = let q = at_place E i (omega arith) a in omega arith

-- the edge at a position is written
pub set_place : (E : List (List ℕ)) (i : ℕ) (f : List ℕ) → i < length E → Same (slice_set E i f) (f ∷ remove E i)
set_place [] i f within a = absurd (omega arith)
set_place (e ∷ E) zero f within a = refl
set_place (e ∷ E) (suc i) f within a = let q = set_place E i f (omega arith) a in omega arith

pub stands_at : (E : List (List ℕ)) (i : ℕ) → i < length E → 0 < count (edge_at E i) E
stands_at [] i within = absurd (omega arith)
stands_at (e ∷ E) zero within = count_self e E
stands_at (e ∷ E) (suc i) within = omega (arith, stands_at E i (omega arith))

-- an edge at another position is among the others
pub other_place : (E : List (List ℕ)) (i j : ℕ) → i ≢ j → i < length E → j < length E
    → 0 < count (edge_at E j) (remove E i)
other_place [] i j apart low high = absurd (omega arith)
other_place (e ∷ E) zero zero apart low high = absurd (apart refl)
other_place (e ∷ E) zero (suc j) apart low high = stands_at E j (omega arith)
other_place (e ∷ E) (suc i) zero apart low high = count_self e (remove E i)
other_place (e ∷ E) (suc i) (suc j) apart low high = omega
    (arith, other_place E i j (λ s. apart (ap suc s)) (omega arith) (omega arith))

-- where an edge stands
pub record At (E : List (List ℕ)) (a : List ℕ) : Type 0 where
  pub place : ℕ
  pub within : place < length E
  pub is : edge_at E place ≡ a

pub place_of : (E : List (List ℕ)) (a : List ℕ) → 0 < count a E → At E a
place_of [] a stands = absurd (omega arith)
place_of (e ∷ E) a stands =
    elim (cases_lt 0 (one (equal a e))) [
      | inl here ↦ record { place = 0; within = omega arith; is = sym (same_item labels a e here) }
      | inr none ↦ let r = place_of E a (omega arith) in record
          { place = suc r.place; within = let w = r.within in omega arith; is = r.is }
    ]

-- where two edges stand
pub record Apart (E : List (List ℕ)) (a b : List ℕ) : Type 0 where
  pub first : At E a
  pub second : At E b
  pub apart : first.place ≢ second.place

apart_step : (t : Bool) (e : List ℕ) (E : List (List ℕ)) (a b : List ℕ) → t ≡ equal a e → 0 < one t + count a E
    → 0 < count b (cond t E (e ∷ out_of labels a E))
    → (0 < count a E → 0 < count b (out_of labels a E) → Apart E a b) → Apart (e ∷ E) a b
apart_step true e E a b is stands other r =
    let q = place_of E b other in
    record {
      first = record {
        place = 0;
        within = omega arith;
        is = sym (same_item labels a e (from_true (equal a e) (sym is)));
      };
      second = record { place = suc q.place; within = let w = q.within in omega arith; is = q.is };
      apart = λ same. omega arith;
    }
apart_step false e E a b is stands other r =
    elim (cases_lt 0 (one (equal b e))) [
      | inl here ↦
          let p = place_of E a (omega arith) in
          record {
            first = record { place = suc p.place; within = let w = p.within in omega arith; is = p.is };
            second = record { place = 0; within = omega arith; is = sym (same_item labels b e here) };
            apart = λ same. omega arith;
          }
      | inr there ↦
          let p = r (omega arith) (omega arith) in
          record {
            first = record {
              place = suc p.first.place;
              within = let w = p.first.within in omega arith;
              is = p.first.is;
            };
            second = record {
              place = suc p.second.place;
              within = let w = p.second.within in omega arith;
              is =
                  p.second.is;
            };
            apart = λ same. p.apart (omega arith);
          }
    ]

pub apart_of : (E : List (List ℕ)) (a b : List ℕ) → 0 < count a E → 0 < count b (out_of labels a E) → Apart E a b
apart_of [] a b stands other = absurd (omega arith)
apart_of (e ∷ E) a b stands other = apart_step (equal a e) e E a b refl stands other (λ p q. apart_of E a b p q)

-- ---- The searches for a step.

-- ---- the first variable of a set

pub first_in : (x : ℕ) (l : List ℕ) → Some x ≡ slice_get l 0 → member x l ≡ true
first_in x [] h = absurd cc
first_in x (y ∷ l) h = let same : x ≡ y = cc in one_true (member x (y ∷ l)) (omega (arith, has_here x y l same))

pub first_none : (l : List ℕ) → None ≡ slice_get l 0 → l ≡ []
first_none [] h = refl
first_none (y ∷ l) h = absurd cc

-- a variable of an edge and of those that lie in one edge only is a step
pub vertex_step : (E : List (List ℕ)) (i x : ℕ) (e own shared : List ℕ) → i < length E → e ≡ edge_at E i
    → ((y : ℕ) → member y own ≡ (degree y E == 1)) → shared ≡ intersection e own → Some x ≡ slice_get shared 0
    → IsStep E (Vertex i x)
vertex_step E i x e own shared within is alone both first =
    let lies = from_true (member x shared) (first_in x shared first) in
    let w : has_bit x shared ≡ min (has_bit x e) (has_bit x own) = ap (λ (l : List ℕ). has_bit x l) both
    ∙ has_intersection x e own in
    let here : has_bit x e ≡ has_bit x (edge_at E i) = ap (λ (l : List ℕ). has_bit x l) is in (
      within,
      one_true (member x (edge_at E i)) (omega arith),
      eqb-true (degree x E) 1
          (sym (alone x) ∙ one_true (member x own) (omega arith)),
    )

pub no_vertex : (E : List (List ℕ)) (i : ℕ) (e own shared : List ℕ) → e ≡ edge_at E i
    → ((y : ℕ) → member y own ≡ (degree y E == 1)) → shared ≡ intersection e own → None ≡ slice_get shared 0
    → (x : ℕ) → member x (edge_at E i) ≡ true → degree x E ≡ 1 → ⊥
no_vertex E i e own shared is alone both none x lies once =
    let w : 0 ≡ min (has_bit x e) (has_bit x own) =
    ap (λ (l : List ℕ). has_bit x l) (sym (first_none shared none) ∙ both)
    ∙ has_intersection x e own in
    let here : has_bit x e ≡ has_bit x (edge_at E i) = ap (λ (l : List ℕ). has_bit x l) is in
    let a = from_true (member x (edge_at E i)) lies in
    let b = from_true (member x own) (alone x ∙ eq-eqb (degree x E) 1 once) in
    omega arith

-- ---- the whole search

pub variable_of : (E : List (List ℕ)) (i x : ℕ) (e : List ℕ) → i < length E → e ≡ edge_at E i → Some x ≡ slice_get e 0
    → 0 < degree x E
variable_of E i x e within is first =
    let here : has_bit x e ≡ has_bit x (edge_at E i) = ap (λ (l : List ℕ). has_bit x l) is in
    let lies = from_true (member x e) (first_in x e first) in
    degree_in x (edge_at E i) E (stands_at E i within) (omega arith)

pub bare_more : (E : List (List ℕ)) (i : ℕ) (e : List ℕ) → i < length E → e ≡ edge_at E i → None ≡ slice_get e 0
    → ((x : ℕ) → degree x (take i E) ≡ 0) → (x : ℕ) → degree x (take (i + 1) E) ≡ 0
bare_more E i e within is none bare x =
    let here : 0 ≡ has_bit x (edge_at E i) = ap (λ (l : List ℕ). has_bit x l) (sym (first_none e none) ∙ is) in
    omega (arith, degree_more x E i within, bare x)

-- ---- What a rest has no more.

-- a step adds no variable
step_falls : (E : List (List ℕ)) (s : Step) (x : ℕ) → IsStep E s → degree x (reduced E s) ≤ degree x E
step_falls E (Vertex i y) x h =
    let a = degree_same x E (edge_at E i ∷ remove E i) (at_place E i h.0) in
    let b = degree_same x (reduced E (Vertex i y)) (difference (edge_at E i) (y ∷ []) ∷ remove E i)
    (set_place E i (difference (edge_at E i) (y ∷ [])) h.0) in
    let m = has_difference x (edge_at E i) (y ∷ []) in
    omega arith
step_falls E (Edge i j) x h = let a = degree_same x E (edge_at E i ∷ remove E i) (at_place E i h.0) in omega arith

steps_fall : (E : List (List ℕ)) (S : List Step) (R : List (List ℕ)) (x : ℕ) → Leads E S R → degree x R ≤ degree x E
steps_fall E [] R x h = let e : degree x E ≡ degree x R = ap (degree x) h in omega arith
steps_fall E (s ∷ S) R x h =
    let a = step_falls E s x h.0 in
    let b = steps_fall (reduced E s) S R x h.1 in
    omega arith

edge_low : (R : List (List ℕ)) (p x : ℕ) → 0 < has_bit x (edge_at R p) → p < length R
edge_low R p x h =
    elim (cases_lt p (length R)) [
      | inl low ↦ low
      | inr high ↦ absurd
          (let e : has_bit x (edge_at R p) ≡ has_bit x [] = ap (has_bit x) (get_or_past R p [] high) in omega arith)
    ]

no_empty_edge : (E R : List (List ℕ)) → IsRest E R → (i : ℕ) → i < length R → edge_at R i ≢ []
no_empty_edge E R r i low none =
    let w = edge_with R r.variable r.lies in
    let has_it = from_true (member r.variable (edge_at R w.0)) w.1 in
    let apart : i ≢ w.0 = λ same.
    (let e : has_bit r.variable (edge_at R w.0)
    ≡ has_bit r.variable [] = ap (λ (k : ℕ). has_bit r.variable (edge_at R k)) (sym same)
    ∙ ap (has_bit r.variable) none in omega arith) in
    r.irreducible (Edge i w.0)
    (low, edge_low R w.0 r.variable has_it, apart, ap (λ (l : List ℕ). subset l (edge_at R w.0)) none)

no_equal_edges : (E R : List (List ℕ)) → IsRest E R → (i j : ℕ) → i < length R → j < length R → edge_at R i
    ≡ edge_at R j → i ≡ j
no_equal_edges E R r i j low low2 same =
    elim (cases_eq i j) [
      | inl e ↦ e
      | inr apart ↦
          absurd (r.irreducible (Edge i j) (
            low,
            low2,
            apart,
            subset_from (edge_at R i) (edge_at R j)
                (λ x. let e : has_bit x (edge_at R i) ≡ has_bit x (edge_at R j) = ap (has_bit x) same in omega arith),
          ))
    ]

pub lean_of : (E R : List (List ℕ)) → IsRest E R → IsLean E R
lean_of E R r = record {
  no_empty = no_empty_edge E R r;
  no_equal = no_equal_edges E R r;
  no_new = λ x h. (let f = steps_fall E r.steps R x r.leads in omega arith);
}

-- ---- Each step keeps whether the edges are a tree below the empty root.

flip : (L M : List (List ℕ)) → Same L M → Same M L
flip L M h a = sym (h a)

-- a variable of its own lies in no other edge
own_of : (E : List (List ℕ)) (i x : ℕ) → i < length E → member x (edge_at E i) ≡ true → degree x E ≡ 1 → (y : ℕ)
    → 0 < has_bit y (x ∷ []) → degree y ([] ∷ remove E i) ≡ 0
own_of E i x within lies alone y is =
    let same : y ≡ x = has_one y x is in
    let all = degree_same x E (edge_at E i ∷ remove E i) (at_place E i within) in
    let here = from_true (member x (edge_at E i)) lies in
    let none : degree x ([] ∷ remove E i) ≡ 0 = omega arith in
    ap (λ (z : ℕ). degree z ([] ∷ remove E i)) same ∙ none

pub step_to : (E : List (List ℕ)) (s : Step) → IsStep E s → Rooted [] E → Rooted [] (reduced E s)
step_to E (Vertex i x) h r =
    rooted_same [] (difference (edge_at E i) (x ∷ []) ∷ remove E i) (reduced E (Vertex i x))
    (flip (reduced E (Vertex i x)) (difference (edge_at E i) (x ∷ []) ∷ remove E i)
    (set_place E i (difference (edge_at E i) (x ∷ [])) h.0))
    (trimmed [] (edge_at E i) (x ∷ []) (remove E i) (own_of E i x h.0 h.1 h.2)
    (rooted_same [] E (edge_at E i ∷ remove E i) (at_place E i h.0) r))
step_to E (Edge i j) h r =
    dropped [] (edge_at E i) (edge_at E j) (remove E i) (other_place E i j h.2 h.0 h.1)
    (subset_says (edge_at E i) (edge_at E j) h.3) (rooted_same [] E (edge_at E i ∷ remove E i) (at_place E i h.0) r)

pub step_back : (E : List (List ℕ)) (s : Step) → IsStep E s → Rooted [] (reduced E s) → Rooted [] E
step_back E (Vertex i x) h r =
    rooted_same [] (edge_at E i ∷ remove E i) E (flip E (edge_at E i ∷ remove E i) (at_place E i h.0))
    (untrimmed [] (edge_at E i) (x ∷ []) (remove E i) (own_of E i x h.0 h.1 h.2)
    (rooted_same [] (reduced E (Vertex i x)) (difference (edge_at E i) (x ∷ []) ∷ remove E i)
    (set_place E i (difference (edge_at E i) (x ∷ [])) h.0) r))
step_back E (Edge i j) h r =
    rooted_same [] (edge_at E i ∷ remove E i) E (flip E (edge_at E i ∷ remove E i) (at_place E i h.0))
    (undropped [] (edge_at E i) (edge_at E j) (remove E i) (other_place E i j h.2 h.0 h.1)
    (subset_says (edge_at E i) (edge_at E j) h.3) r)

pub leads_to : (E : List (List ℕ)) (S : List Step) (R : List (List ℕ)) → Leads E S R → Rooted [] E → Rooted [] R
leads_to E [] R h r = subst (λ (L : List (List ℕ)). Rooted [] L) h r
leads_to E (s ∷ S) R h r = leads_to (reduced E s) S R h.1 (step_to E s h.0 r)

pub leads_back : (E : List (List ℕ)) (S : List Step) (R : List (List ℕ)) → Leads E S R → Rooted [] R → Rooted [] E
leads_back E [] R h r = subst (λ (L : List (List ℕ)). Rooted [] L) (sym h) r
leads_back E (s ∷ S) R h r = step_back E s h.0 (leads_back (reduced E s) S R h.1 r)

pub leads_more : (E : List (List ℕ)) (S : List Step) (R : List (List ℕ)) (s : Step) → Leads E S R → IsStep R s
    → Leads E (S ++ s ∷ []) (reduced R s)
leads_more E [] R s h step =
    (subst (λ (L : List (List ℕ)). IsStep L s) (sym h) step, ap (λ (L : List (List ℕ)). reduced L s) h)
leads_more E (t ∷ S) R s h step = (h.0, leads_more (reduced E t) S R s h.1 step)

-- ---- the end

-- edges without a variable are a tree
pub bare_rooted : (R : List (List ℕ)) → HasNoVariables R → Rooted [] R
bare_rooted R bare =
    all_plugged [] R (λ a stands x.
    elim (cases_lt 0 (has_bit x a)) [
      | inl within ↦ absurd (omega (arith, degree_in x a R stands within, bare x))
      | inr none ↦ omega arith
    ])

-- a label with a variable of its own, and one that lies within another, are steps where they stand
own_step : (R : List (List ℕ)) (a : List ℕ) (rest : List (List ℕ)) (x : ℕ) → Same R (a ∷ rest) → 0 < has_bit x a
    → degree x ([] ∷ rest) ≡ 0 → At R a → (s : Step) × IsStep R s
own_step R a rest x here within alone p =
    let lies : member x (edge_at R p.place) ≡ true = ap (λ (e : List ℕ). member x e) p.is
    ∙ one_true (member x a) within in
    (Vertex p.place x, (p.within, lies, omega (arith, one_le (member x a), degree_same x R (a ∷ rest) here)))

inner_step : (R : List (List ℕ)) (a b : List ℕ) → Sub a b → Apart R a b → (s : Step) × IsStep R s
inner_step R a b inside p =
    let lies : subset (edge_at R p.first.place) (edge_at R p.second.place) ≡ true =
    ap (λ (e : List ℕ). subset e (edge_at R p.second.place)) p.first.is ∙ ap (λ (e : List ℕ). subset a e) p.second.is
    ∙ subset_from a b inside in
    (Edge p.first.place p.second.place, (p.first.within, p.second.within, p.apart, lies))

head_stands : (R : List (List ℕ)) (a : List ℕ) (rest : List (List ℕ)) → Same R (a ∷ rest) → 0 < count a R
head_stands R a rest here = omega (arith, here a, count_self a rest)

other_stands : (R : List (List ℕ)) (a b : List ℕ) (rest : List (List ℕ)) → Same R (a ∷ rest) → 0 < count b rest
    → 0 < count b (out_of labels a R)
other_stands R a b rest here there = omega (arith, here b, out_same labels a R (head_stands R a rest here) b)

bare_of : (L : List (List ℕ)) → ((a : List ℕ) → 0 < count a L → Sub a []) → (y : ℕ) → degree y L ≡ 0
bare_of [] h y = refl
bare_of (l ∷ L) h y = omega (arith, h l (count_self l L) y, bare_of L (λ a m. h a (omega arith)) y)

-- edges with a variable to which no step applies are no tree
pub no_tree : (R : List (List ℕ)) (x : ℕ) → IsIrreducible R → 0 < degree x R → Rooted [] R → ⊥
no_tree R x stuck lies r =
    elim (progress [] r.order r.tree) [
      | inl all ↦
          let none = bare_of r.order all x in
          let same = degree_same x r.order R r.those in
          omega arith
      | inr step ↦
          elim step [
            | inl own ↦
                let here : Same R (own.label ∷ own.rest) = λ a. let p = r.those a in let q = own.here a in omega arith
                in
                let s = own_step R own.label own.rest own.var here own.within own.alone
                (place_of R own.label (head_stands R own.label own.rest here)) in
                stuck s.0 s.1
            | inr inner ↦
                let here : Same R (inner.label ∷ inner.rest) = λ a. let p = r.those a in let q = inner.here a in omega
                arith in
                let s = inner_step R inner.label inner.over inner.inside
                (apart_of R inner.label inner.over (head_stands R inner.label inner.rest here)
                (other_stands R inner.label inner.over inner.rest here inner.there)) in
                stuck s.0 s.1
          ]
    ]

-- ---- the measure

abbrev pub size : List (List ℕ) → ℕ
size [] = 0
size (e ∷ E) = length e + 1 + size E

size_total : (E : List (List ℕ)) → size E ≡ total (λ e. length e + 1) E
size_total [] = refl
size_total (e ∷ E) = ap (λ n. length e + 1 + n) (size_total E)

size_same : (L M : List (List ℕ)) → Same L M → size L ≡ size M
size_same L M h = size_total L ∙ total_same labels (λ e. length e + 1) L M h ∙ sym (size_total M)

keep_length : (b : Bool) (y : ℕ) (l m : List ℕ) → length m ≤ length l → length (cond b (y ∷ m) m) ≤ length (y ∷ l)
keep_length true y l m h = omega arith
keep_length false y l m h = omega arith

pub filter_most : (p : ℕ → Bool) (l : List ℕ) → length (filter p l) ≤ length l
filter_most p [] = omega arith
filter_most p (y ∷ l) = keep_length (p y) y l (filter p l) (filter_most p l)

drop_length : (b c : Bool) (y : ℕ) (l m : List ℕ) → c ≡ not b → length m ≤ length l → (b ≡ false → length m < length l)
    → length (cond c (y ∷ m) m) < length (y ∷ l)
drop_length true c y l m e h r = rw e (omega arith)
drop_length false c y l m e h r = rw e (omega (arith, r refl))

difference_less : (x : ℕ) (l : List ℕ) → member x l ≡ true → length (difference l (x ∷ [])) < length l
difference_less x [] h = absurd cc
difference_less x (y ∷ l) h =
    drop_length (member y (x ∷ [])) (not (member y (x ∷ []))) y l (difference l (x ∷ [])) refl
    (filter_most (λ z. not (member z (x ∷ []))) l)
    (λ apart. difference_less x l (rest apart))
  where
    rest : member y (x ∷ []) ≡ false → member x l ≡ true
    rest apart =
        elim (cases_eq x y) [
          | inl same ↦ absurd (let a = from_false (member y (x ∷ [])) apart in let b = has_here y x [] (sym same) in
              omega arith)
          | inr other ↦ one_true (member x l) (omega (arith, from_true (member x (y ∷ l)) h, has_other x y l other))
        ]

pub size_falls : (E : List (List ℕ)) (s : Step) → IsStep E s → size (reduced E s) < size E
size_falls E (Vertex i x) h =
    omega (
      arith,
      size_same E (edge_at E i ∷ remove E i) (at_place E i h.0),
      size_same (reduced E (Vertex i x))
          (difference (edge_at E i) (x ∷ []) ∷ remove E i) (set_place E i (difference (edge_at E i) (x ∷ [])) h.0),
      difference_less x (edge_at E i) h.1,
    )
size_falls E (Edge i j) h = omega (arith, size_same E (edge_at E i ∷ remove E i) (at_place E i h.0))

-- ---- a turn of the loop, where the code's slice D is the list R

pub turn_leads : (E : List (List ℕ)) (S : List Step) (R D : List (List ℕ)) (s : Step) (S' : List Step)
    (R' : List (List ℕ)) → Leads E S R → D ≡ R → IsStep D s → S' ≡ S ++ s ∷ [] → R' ≡ reduced R s → Leads E S' R'
turn_leads E S R D s S' R' h is step more next =
    subst (λ (T : List Step). Leads E T R') (sym more)
    (subst (λ (L : List (List ℕ)). Leads E (S ++ s ∷ []) L) (sym next)
    (leads_more E S R s h (subst (λ (L : List (List ℕ)). IsStep L s) is step)))

pub turn_falls : (R D : List (List ℕ)) (s : Step) (R' : List (List ℕ)) → D ≡ R → IsStep D s → R' ≡ reduced R s
    → size R' < size R
turn_falls R D s R' is step next = subst (λ (L : List (List ℕ)). size L < size R) (sym next)
    (size_falls R s (subst (λ (L : List (List ℕ)). IsStep L s) is step))

-- ---- what the end says of the beginning

pub ended_bare : (E : List (List ℕ)) (S : List Step) (R D rest : List (List ℕ)) → Leads E S R → D ≡ R
    → HasNoVariables D → rest
    ≡ [] → (rest ≡ []) ↔ HasJoinTree E
ended_bare E S R D rest leads is bare none = (
  λ _. join_tree_from E
      (leads_back E S R leads (bare_rooted R (subst (λ (L : List (List ℕ)). HasNoVariables L) is bare))),
  λ
      _. none,
)

pub ended_rest : (E : List (List ℕ)) (S : List Step) (R D C rest : List (List ℕ)) (x : ℕ) → Leads E S R → D ≡ R
    → IsIrreducible D → C ≡ R → 0 < degree x C → rest ≡ R → (rest ≡ []) ↔ HasJoinTree E
ended_rest E S R D C rest x leads is stuck same lies those =
    let there : degree x C ≡ degree x R = ap (λ (L : List (List ℕ)). degree x L) same in (
      λ none.
          let gone : degree x R ≡ 0 = ap (λ (L : List (List ℕ)). degree x L) (sym those ∙ none) in
          absurd (omega arith),
      λ h. absurd (no_tree R x (subst (λ (L : List (List ℕ)). IsIrreducible L) is stuck) (omega arith)
          (leads_to E S R leads (rooted_of E h.0 h.1))),
    )
