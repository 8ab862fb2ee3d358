-- Edges have one rest: whatever order the steps are taken in, what no step applies to is the same set of edges.
use Rattle.std.specs.Prelude.{ℕ, zero, suc, List, [], ◌∷◌, ◌≡◌, ◌≢◌, ◌⊎◌, ◌<◌, ◌≤◌, ◌+◌, ◌-◌, true, not, nat_lt, ◌==◌, ◌&&◌, ◌++◌, All, AllPairs, Contains, length, map, remove}
use Rattle.std.proofs.Common.{refl, sym, ap, ◌∙◌, subst, inl, inr, arith}
use Rattle.std.proofs.lemmas.Bool.{cases_lt, cases_eq, cases_order}
use Rattle.std.proofs.lemmas.List.{get_or-set_same, get_or-set_other, length-set}
use Rattle.std.proofs.lemmas.List.Edits.{get_or-remove_below, get_or-remove_above, length-remove}
use Rattle.djq_hypergraph.specs.declared.step.Step.{Step}
use Rattle.djq_hypergraph.specs.declared.step.Step.TheVariants.{Vertex, Edge}
use Rattle.djq_hypergraph.specs.Hypergraph.{member, one, degree, edge_at, difference}
use Rattle.djq_hypergraph.specs.Gyo.{IsStep, reduced, Leads, IsIrreducible, IsRest}
use Rattle.djq_hypergraph.specs.Hypergraph.{numbers_below, set_below}
use Rattle.djq_hypergraph.proofs.Sets.{Rising, same_sets, same_one}
use Rattle.djq_model.specs.Data.{Bytes}
use Rattle.djq_model.specs.declared.query.Query.{Query}
use Rattle.djq_model.specs.declared.query.Atom.{Atom}
use Rattle.djq_protocol.specs.declared.rest.NamedRest.{NamedRest}
use Rattle.djq_protocol.specs.Hypergraph.{number_of, numbers_in, edges_from, edges_of, head_of}
use Rattle.djq_protocol.specs.Rest.{is_before, IsNamedRest}
use Rattle.djq_protocol.specs.Reply.{line, rest_line, edges_text}
use Rattle.djq_protocol.specs.Variables.{Label, with_atom, variables_of}
use Rattle.djq_answer_laws.proofs.Lists.{nothing_there, first_or_later, first_there, later_there, pairs_head, pairs_tail}
use Rattle.djq_run_laws.proofs.Lists.{pairs_push, nothing_apart}
use Rattle.std.proofs.lemmas.List.Kept.{AllPairs-filter}
use Rattle.std.proofs.lemmas.List.Elements.{All-nil, All-cons, All-head, All-tail, All-push, All-contains}
use Rattle.std.proofs.lemmas.Bool.{true≢false, or_cases, and_parts, ltb-true, eqb-true}
use Rattle.djq_determinacy.specs.Reductions.{RestsAgree}
use Rattle.djq_hypergraph.proofs.Sets.{has_bit, Sub, one_le, one_true, from_true, has_here, has_one, subset_from, subset_says, has_difference}

-- a variable lies in an edge
abbrev pub In : ℕ → List ℕ → Type 0
In x e = 0 < has_bit x e

-- ---- In how many edges a variable lies.

in_degree : (x : ℕ) (E : List (List ℕ)) (i : ℕ) → i < length E → In x (edge_at E i) → 0 < degree x E
in_degree x [] i low h = absurd (omega (arith, low))
in_degree x (e ∷ E) zero low h = let here : 0 < one (member x e) = h in omega (arith, here)
in_degree x (e ∷ E) (suc i) low h = let more = in_degree x E i (omega (arith, low)) h in omega (arith, more)

two_degree : (x : ℕ) (E : List (List ℕ)) (i j : ℕ) → i ≢ j → i < length E → j < length E → In x (edge_at E i)
    → In x (edge_at E j) → 2 ≤ degree x E
two_degree x [] i j apart low low' h k = absurd (omega (arith, low))
two_degree x (e ∷ E) zero zero apart low low' h k = absurd (apart refl)
two_degree x (e ∷ E) zero (suc j) apart low low' h k =
    let here : 0 < one (member x e) = h in
    let more = in_degree x E j (omega (arith, low')) k in omega (arith, here, more)
two_degree x (e ∷ E) (suc i) zero apart low low' h k =
    let here : 0 < one (member x e) = k in
    let more = in_degree x E i (omega (arith, low)) h in omega (arith, here, more)
two_degree x (e ∷ E) (suc i) (suc j) apart low low' h k =
    let more = two_degree x E i j (λ same. apart (ap suc same)) (omega (arith, low)) (omega (arith, low')) h k in
    omega (arith, more)

-- an edge at a place
pub record Spot (E : List (List ℕ)) (P : ℕ → Type 0) : Type 0 where
  pub at : ℕ
  pub low : at < length E
  pub has : P at

some_edge : (x : ℕ) (E : List (List ℕ)) → 0 < degree x E → Spot E (λ i. In x (edge_at E i))
some_edge x [] h = absurd (omega (arith, h))
some_edge x (e ∷ E) h = by (cases_lt 0 (one (member x e))) (λ k. some_edge x E k)
  where
    by : (0 < one (member x e)) ⊎ (one (member x e) ≤ 0) → (0 < degree x E → Spot E (λ i. In x (edge_at E i)))
        → Spot (e ∷ E) (λ i. In x (edge_at (e ∷ E) i))
    by (inl here) more = record { at = zero; low = omega arith; has = here }
    by (inr none) more =
        let s = more (omega (arith, h, none)) in record { at = suc s.at; low = omega (arith, s.low); has = s.has }

other_edge : (x : ℕ) (E : List (List ℕ)) (a : ℕ) → a < length E → In x (edge_at E a) → degree x E ≢ 1
    → Spot E (λ b. (b ≢ a) × In x (edge_at E b))
other_edge x [] a low h ne = absurd (omega (arith, low))
other_edge x (e ∷ E) zero low h ne = by (cases_lt 0 (degree x E))
  where
    by : (0 < degree x E) ⊎ (degree x E ≤ 0) → Spot (e ∷ E) (λ b. (b ≢ zero) × In x (edge_at (e ∷ E) b))
    by (inl more) =
        let s = some_edge x E more in
        record { at = suc s.at; low = omega (arith, s.low); has = (λ same. absurd (omega (arith, same)), s.has) }
    by (inr none) =
        let here : 0 < one (member x e) = h in
        absurd (ne (omega (arith, here, one_le (member x e), none)))
other_edge x (e ∷ E) (suc a) low h ne =
    by (cases_lt 0 (one (member x e))) (λ k. other_edge x E a (omega (arith, low)) h k)
  where
    by : (0 < one (member x e)) ⊎ (one (member x e) ≤ 0)
        → (degree x E ≢ 1 → Spot E (λ b. (b ≢ a) × In x (edge_at E b)))
        → Spot (e ∷ E) (λ b. (b ≢ suc a) × In x (edge_at (e ∷ E) b))
    by (inl here) more = record { at = zero; low = omega arith; has = (λ same. absurd (omega (arith, same)), here) }
    by (inr none) more =
        let s = more (λ single. ne (omega (arith, none, single))) in
        record { at = suc s.at; low = omega (arith, s.low); has = (λ same. s.has.0 (omega (arith, same)), s.has.1) }

-- ---- The edges after a step.

left_place : (E : List (List ℕ)) (i j : ℕ) → j ≢ i → i < length E → j < length E
    → Spot (remove E i) (λ k. edge_at (remove E i) k ≡ edge_at E j)
left_place E i j apart low low' = by (cases_order j i)
  where
    by : (j ≡ i) ⊎ ((j < i) ⊎ (i < j)) → Spot (remove E i) (λ k. edge_at (remove E i) k ≡ edge_at E j)
    by (inl same) = absurd (apart same)
    by (inr (inl less)) = record {
      at = j;
      low = omega (arith, length-remove E i low, less, low);
      has = get_or-remove_below E i [] j less low;
    }
    by (inr (inr more)) = record {
      at = j - 1;
      low = omega (arith, length-remove E i low, more, low');
      has = get_or-remove_above E i [] (j - 1) (omega (arith, more)) low
          ∙ ap (λ k. edge_at E k) (let back : j - 1 + 1 ≡ j = omega (arith, more) in back);
    }

from_left : (E : List (List ℕ)) (i k : ℕ) → i < length E → k < length (remove E i)
    → Spot E (λ j. edge_at (remove E i) k ≡ edge_at E j)
from_left E i k low low' = by (cases_lt k i)
  where
    by : (k < i) ⊎ (i ≤ k) → Spot E (λ j. edge_at (remove E i) k ≡ edge_at E j)
    by (inl less) = record { at = k; low = omega (arith, less, low); has = get_or-remove_below E i [] k less low }
    by (inr more) = record {
      at = k + 1;
      low = omega (arith, length-remove E i low, low');
      has = get_or-remove_above E i [] k more low;
    }

same_sub : (e f : List ℕ) → e ≡ f → Sub e f
same_sub e f is = subst (λ g. Sub e g) is (λ x. omega arith)

sub_trans : (e f g : List ℕ) → Sub e f → Sub f g → Sub e g
sub_trans e f g h k x = omega (arith, h x, k x)

-- after a variable is taken out of an edge: that edge, and another one
taken_here : (E : List (List ℕ)) (i x : ℕ) → i < length E
    → edge_at (reduced E (Vertex i x)) i ≡ difference (edge_at E i) (x ∷ [])
taken_here E i x low = get_or-set_same E i (difference (edge_at E i) (x ∷ [])) [] low

taken_other : (E : List (List ℕ)) (i x k : ℕ) → k ≢ i → edge_at (reduced E (Vertex i x)) k ≡ edge_at E k
taken_other E i x k apart = get_or-set_other E i k (difference (edge_at E i) (x ∷ [])) [] apart

taken_length : (E : List (List ℕ)) (i x : ℕ) → length (reduced E (Vertex i x)) ≡ length E
taken_length E i x = length-set E i (difference (edge_at E i) (x ∷ []))

-- each edge after a step lies within one before it
step_from : (E : List (List ℕ)) (s : Step) → IsStep E s → (k : ℕ) → k < length (reduced E s)
    → Spot E (λ j. Sub (edge_at (reduced E s) k) (edge_at E j))
step_from E (Edge i j) h k low =
    let p = from_left E i k h.0 low in record { at = p.at; low = p.low; has = same_sub _ _ p.has }
step_from E (Vertex i x) h k low = by (cases_eq k i)
  where
    by : (k ≡ i) ⊎ (k ≢ i) → Spot E (λ j. Sub (edge_at (reduced E (Vertex i x)) k) (edge_at E j))
    by (inr apart) = record {
      at = k;
      low = omega (arith, taken_length E i x, low);
      has = same_sub _ _ (taken_other E i x k apart);
    }
    by (inl same) = record {
      at = i;
      low = h.0;
      has = subst (λ n. Sub (edge_at (reduced E (Vertex i x)) n) (edge_at E i)) (sym same)
          (subst (λ e. Sub e (edge_at E i)) (sym (taken_here E i x h.0))
          (λ y. omega (arith, has_difference y (edge_at E i) (x ∷ []))));
    }

shrinks : (E : List (List ℕ)) (S : List Step) (H : List (List ℕ)) → Leads E S H → (k : ℕ) → k < length H
    → Spot E (λ j. Sub (edge_at H k) (edge_at E j))
shrinks E [] H leads k low = record {
  at = k;
  low = subst (λ G. k < length G) (sym leads) low;
  has = same_sub _ _ (ap (λ G. edge_at G k) (sym leads));
}
shrinks E (s ∷ S) H leads k low =
    let p = shrinks (reduced E s) S H leads.1 k low in
    let q = step_from E s leads.0 p.at p.low in
    record { at = q.at; low = q.low; has = sub_trans _ _ _ p.has q.has }

-- a variable that was taken out lies nowhere
lies_nowhere : (E : List (List ℕ)) (i x : ℕ) → IsStep E (Vertex i x) → (k : ℕ) → k < length E
    → In x (edge_at (reduced E (Vertex i x)) k) → ⊥
lies_nowhere E i x h k low lies = by (cases_eq k i)
  where
    by : (k ≡ i) ⊎ (k ≢ i) → ⊥
    by (inl same) =
        let here : In x (difference (edge_at E i) (x ∷ [])) =
        subst (λ e. In x e) (taken_here E i x h.0) (subst (λ n. In x (edge_at (reduced E (Vertex i x)) n)) same lies) in
        omega (arith, here, has_difference x (edge_at E i) (x ∷ []), has_here x x [] refl)
    by (inr apart) =
        let there : In x (edge_at E k) = subst (λ e. In x e) (taken_other E i x k apart) lies in
        let two = two_degree x E k i apart low h.0 there (from_true (member x (edge_at E i)) h.1) in
        omega (arith, two, h.2)

-- ---- What is left of an edge lies within an edge that is left.

-- each edge, but for variables that are gone, lies within an edge of these
abbrev Dominated : List (List ℕ) → List (List ℕ) → ℕ → Type 0
Dominated E R j = Spot R (λ c. (y : ℕ) → 0 < degree y R → In y (edge_at E j) → In y (edge_at R c))

other_than : (x y : ℕ) → y ≢ x → has_bit y (x ∷ []) ≡ 0
other_than x y apart = by (cases_lt 0 (has_bit y (x ∷ [])))
  where
    by : (0 < has_bit y (x ∷ [])) ⊎ (has_bit y (x ∷ []) ≤ 0) → has_bit y (x ∷ []) ≡ 0
    by (inl is) = absurd (apart (has_one y x is))
    by (inr none) = omega (arith, none)

dominated : (E : List (List ℕ)) (S : List Step) (R : List (List ℕ)) → Leads E S R → (j : ℕ) → j < length E
    → Dominated E R j
dominated E [] R leads j low = record {
  at = j;
  low = subst (λ G. j < length G) leads low;
  has = λ y there h. subst (λ G. In y (edge_at G j)) leads h;
}
dominated E (Edge i k ∷ S) R leads j low = by (cases_eq j i) (λ n less. dominated (remove E i) S R leads.1 n less)
  where
    through : (p : Spot (remove E i) (λ n. edge_at (remove E i) n ≡ edge_at E k)) → Dominated (remove E i) R p.at
        → Sub (edge_at E j) (edge_at E k) → Dominated E R j
    through p d within = record {
      at = d.at;
      low = d.low;
      has = λ y there h. d.has y there (subst (λ e. In y e) (sym p.has) (omega (arith, h, within y)));
    }

    straight : (p : Spot (remove E i) (λ n. edge_at (remove E i) n ≡ edge_at E j)) → Dominated (remove E i) R p.at
        → Dominated E R j
    straight p d = record { at = d.at; low = d.low; has = λ y there h. d.has y there (subst (λ e. In y e) (sym p.has) h) }

    by : (j ≡ i) ⊎ (j ≢ i) → ((n : ℕ) → n < length (remove E i) → Dominated (remove E i) R n) → Dominated E R j
    by (inl same) rest =
        let p = left_place E i k (λ back. leads.0.2 (sym back)) leads.0.0 leads.0.1 in
        through p (rest p.at p.low) (subst (λ n. Sub (edge_at E n) (edge_at E k)) (sym same)
        (subset_says (edge_at E i) (edge_at E k) leads.0.3))
    by (inr apart) rest =
        let p = left_place E i j apart leads.0.0 low in straight p (rest p.at p.low)
dominated E (Vertex i x ∷ S) R leads j low =
    let d = dominated (reduced E (Vertex i x)) S R leads.1 j (omega (arith, taken_length E i x, low)) in
    record { at = d.at; low = d.low; has = λ y there h. d.has y there (by y there h (cases_eq j i)) }
  where
    gone : 0 < degree x R → ⊥
    gone lies =
        let r = some_edge x R lies in
        let from = shrinks (reduced E (Vertex i x)) S R leads.1 r.at r.low in
        lies_nowhere E i x leads.0 from.at (omega (arith, taken_length E i x, from.low))
        (let h = r.has in omega (arith, h, from.has x))

    by : (y : ℕ) → 0 < degree y R → In y (edge_at E j) → (j ≡ i) ⊎ (j ≢ i) → In y (edge_at (reduced E (Vertex i x)) j)
    by y there h (inr apart) = subst (λ e. In y e) (sym (taken_other E i x j apart)) h
    by y there h (inl same) =
        let apart : y ≢ x = λ is. gone (subst (λ n. 0 < degree n R) is there) in
        let here : In y (edge_at E i) = subst (λ n. In y (edge_at E n)) same h in
        subst (λ n. In y (edge_at (reduced E (Vertex i x)) n)) (sym same)
        (subst (λ e. In y e) (sym (taken_here E i x leads.0.0))
        (omega (arith, here, has_difference y (edge_at E i) (x ∷ []), other_than x y apart)))

-- ---- A rest is covered by what leads to another one.

-- each edge of the first lies within one of the second
abbrev pub Covers : List (List ℕ) → List (List ℕ) → Type 0
Covers R H = (a : ℕ) → a < length R → Spot H (λ k. Sub (edge_at R a) (edge_at H k))

-- no edge of what no step applies to lies within another one
alone : (R : List (List ℕ)) → IsIrreducible R → (a c : ℕ) → a < length R → c < length R → Sub (edge_at R a) (edge_at R c)
    → a ≡ c
alone R irreducible a c low low' within = by (cases_eq a c)
  where
    by : (a ≡ c) ⊎ (a ≢ c) → a ≡ c
    by (inl same) = same
    by (inr apart) = absurd (irreducible (Edge a c) (low, low', apart, subset_from (edge_at R a) (edge_at R c) within))

-- an edge in which a variable lies that lies in one alone is that one
same_spot : (H : List (List ℕ)) (i x : ℕ) → IsStep H (Vertex i x) → (k : ℕ) → k < length H → In x (edge_at H k) → k ≡ i
same_spot H i x h k low there = by (cases_eq k i)
  where
    by : (k ≡ i) ⊎ (k ≢ i) → k ≡ i
    by (inl same) = same
    by (inr apart) =
        let two = two_degree x H k i apart low h.0 there (from_true (member x (edge_at H i)) h.1) in
        absurd (omega (arith, two, h.2))

module _ (E R : List (List ℕ)) (S : List Step) (leads : Leads E S R) (irreducible : IsIrreducible R) where
  -- an edge of it within an edge of H lies within the edge that dominates that
  below : (H : List (List ℕ)) (i : ℕ) (whole : Spot E (λ j. Sub (edge_at H i) (edge_at E j))) (top : Dominated E R whole.at)
      (b : ℕ) → b < length R → Sub (edge_at R b) (edge_at H i) → Sub (edge_at R b) (edge_at R top.at)
  below H i whole top b less sub y = at (cases_lt 0 (has_bit y (edge_at R b)))
    where
      at : (0 < has_bit y (edge_at R b)) ⊎ (has_bit y (edge_at R b) ≤ 0) → has_bit y (edge_at R b) ≤ has_bit y (edge_at R top.at)
      at (inr none) = omega (arith, none)
      at (inl here) =
          let most = one_le (member y (edge_at R b)) in
          let up = top.has y (in_degree y R b less here) (omega (arith, here, sub y, whole.has y)) in
          omega (arith, most, up)

  -- a variable of it that lies in one edge of H alone would be in two of its own, which lie within one
  in_none : (H : List (List ℕ)) → ((k : ℕ) → k < length H → Spot E (λ j. Sub (edge_at H k) (edge_at E j))) → Covers R H
      → (i x : ℕ) → IsStep H (Vertex i x) → (a : ℕ) → a < length R → Sub (edge_at R a) (edge_at H i)
      → In x (edge_at R a) → ⊥
  in_none H from covers i x step a low within lies =
      let other = other_edge x R a low lies
      (λ single. irreducible (Vertex a x) (low, one_true (member x (edge_at R a)) lies, single)) in
      let p = covers other.at other.low in
      let there : In x (edge_at H p.at) = (let h = other.has.1 in omega (arith, h, p.has x)) in
      let same = same_spot H i x step p.at p.low there in
      let whole = from i step.0 in
      let top = dominated E S R leads whole.at whole.low in
      let one = alone R irreducible a top.at low top.low (below H i whole top a low within) in
      let two = alone R irreducible other.at top.at other.low top.low
      (below H i whole top other.at other.low (subst (λ n. Sub (edge_at R other.at) (edge_at H n)) same p.has)) in
      other.has.0 (two ∙ sym one)

  -- so each step leaves it covered
  still_covers : (H : List (List ℕ)) → ((k : ℕ) → k < length H → Spot E (λ j. Sub (edge_at H k) (edge_at E j))) → Covers R H
      → (s : Step) → IsStep H s → Covers R (reduced H s)
  still_covers H from covers (Edge i j) step a low = by (cases_eq (covers a low).at i)
    where
      by : ((covers a low).at ≡ i) ⊎ ((covers a low).at ≢ i) → Spot (remove H i) (λ k. Sub (edge_at R a) (edge_at (remove H i) k))
      by (inr apart) =
          let q = left_place H i (covers a low).at apart step.0 (covers a low).low in
          record { at = q.at; low = q.low; has = sub_trans _ _ _ (covers a low).has (same_sub _ _ (sym q.has)) }
      by (inl same) =
          let q = left_place H i j (λ back. step.2 (sym back)) step.0 step.1 in
          record {
            at = q.at;
            low = q.low;
            has = sub_trans _ _ _ (subst (λ n. Sub (edge_at R a) (edge_at H n)) same (covers a low).has)
                (sub_trans _ _ _ (subset_says (edge_at H i) (edge_at H j) step.3) (same_sub _ _ (sym q.has)));
          }
  still_covers H from covers (Vertex i x) step a low = by (cases_eq (covers a low).at i)
    where
      few : (covers a low).at < length (reduced H (Vertex i x))
      few = omega (arith, taken_length H i x, (covers a low).low)

      by : ((covers a low).at ≡ i) ⊎ ((covers a low).at ≢ i)
          → Spot (reduced H (Vertex i x)) (λ k. Sub (edge_at R a) (edge_at (reduced H (Vertex i x)) k))
      by (inr apart) = record {
        at = (covers a low).at;
        low = few;
        has = sub_trans _ _ _ (covers a low).has (same_sub _ _ (sym (taken_other H i x (covers a low).at apart)));
      }
      by (inl same) =
          let within = subst (λ n. Sub (edge_at R a) (edge_at H n)) same (covers a low).has in
          record {
            at = i;
            low = subst (λ n. n < length (reduced H (Vertex i x))) same few;
            has = subst (λ e. Sub (edge_at R a) e) (sym (taken_here H i x step.0))
                (λ y. each within y (cases_lt 0 (has_bit y (edge_at R a))));
          }
        where
          each : Sub (edge_at R a) (edge_at H i) → (y : ℕ) → (0 < has_bit y (edge_at R a)) ⊎ (has_bit y (edge_at R a) ≤ 0)
              → has_bit y (edge_at R a) ≤ has_bit y (difference (edge_at H i) (x ∷ []))
          each within y (inr none) = omega (arith, none)
          each within y (inl here) =
              let apart : y ≢ x = λ is. in_none H from covers i x step a low within (subst (λ n. In n (edge_at R a)) is here) in
              omega (
                arith,
                within y,
                has_difference y (edge_at H i) (x ∷ []),
                other_than x y apart,
                one_le (member y (edge_at R a)),
              )

  covers_all : (T : List Step) (H Q : List (List ℕ)) → Leads H T Q
      → ((k : ℕ) → k < length H → Spot E (λ j. Sub (edge_at H k) (edge_at E j))) → Covers R H → Covers R Q
  covers_all [] H Q to from covers = subst (λ G. Covers R G) to covers
  covers_all (s ∷ T) H Q to from covers =
      covers_all T (reduced H s) Q to.1
      (λ k low. let p = step_from H s to.0 k low in let q = from p.at p.low in
      record { at = q.at; low = q.low; has = sub_trans _ _ _ p.has q.has })
      (still_covers H from covers s to.0)

-- what two ways of taking steps come to covers each other
pub rests_cover : (E R R' : List (List ℕ)) (S S' : List Step) → Leads E S R → Leads E S' R' → IsIrreducible R → Covers R R'
rests_cover E R R' S S' leads leads' irreducible =
    covers_all E R S leads irreducible S' E R' leads'
    (λ k low. record { at = k; low = low; has = λ y. omega arith }) (shrinks E S R leads)

-- so each edge of one rest has the variables of an edge of another one
pub rests_agree : RestsAgree
rests_agree E R R' h k a low =
    let p = rests_cover E R R' h.steps k.steps h.leads k.leads h.irreducible a low in
    let q = rests_cover E R' R k.steps h.steps k.leads h.leads k.irreducible p.at p.low in
    let same = alone R h.irreducible a q.at low q.low (sub_trans _ _ _ p.has q.has) in
    let back : Sub (edge_at R' p.at) (edge_at R a) = subst (λ n. Sub (edge_at R' p.at) (edge_at R n)) (sym same) q.has in (
      p.at,
      p.low,
      λ x. same_one (member x (edge_at R a)) (member x (edge_at R' p.at))
          (let one = p.has x in let two = back x in omega (arith, one, two)),
    )

-- ---- One set of edges, told in one way.

-- the variables of each edge rise
abbrev pub Rise : List (List ℕ) → Type 0
Rise E = (k : ℕ) → k < length E → Rising (edge_at E k)

rise_step : (E : List (List ℕ)) (s : Step) → IsStep E s → Rise E → Rise (reduced E s)
rise_step E (Edge i j) step rise k low =
    let p = from_left E i k step.0 low in subst (λ e. Rising e) (sym p.has) (rise p.at p.low)
rise_step E (Vertex i x) step rise k low = by (cases_eq k i)
  where
    by : (k ≡ i) ⊎ (k ≢ i) → Rising (edge_at (reduced E (Vertex i x)) k)
    by (inr apart) =
        subst (λ e. Rising e) (sym (taken_other E i x k apart)) (rise k (omega (arith, taken_length E i x, low)))
    by (inl same) =
        subst (λ n. Rising (edge_at (reduced E (Vertex i x)) n)) (sym same)
        (subst (λ e. Rising e) (sym (taken_here E i x step.0))
        (AllPairs-filter (λ a b. a < b) (λ y. not (member y (x ∷ []))) (edge_at E i) (rise i step.0)))

rise_all : (E : List (List ℕ)) (S : List Step) (R : List (List ℕ)) → Leads E S R → Rise E → Rise R
rise_all E [] R leads rise = subst (λ G. Rise G) leads rise
rise_all E (s ∷ S) R leads rise = rise_all (reduced E s) S R leads.1 (rise_step E s leads.0 rise)

place_of : (R : List (List ℕ)) (e : List ℕ) → Contains R e → Spot R (λ a. edge_at R a ≡ e)
place_of [] e there = absurd (nothing_there e there)
place_of (r ∷ R) e there = by (first_or_later r R e there) (place_of R e)
  where
    by : (r ≡ e) ⊎ Contains R e → (Contains R e → Spot R (λ a. edge_at R a ≡ e)) → Spot (r ∷ R) (λ a. edge_at (r ∷ R) a ≡ e)
    by (inl same) more = record { at = zero; low = omega arith; has = same }
    by (inr later) more = let s = more later in record { at = suc s.at; low = omega (arith, s.low); has = s.has }

stands : (R : List (List ℕ)) (a : ℕ) → a < length R → Contains R (edge_at R a)
stands [] a low = absurd (omega (arith, low))
stands (r ∷ R) zero low = first_there r R r refl
stands (r ∷ R) (suc a) low = later_there r R (edge_at R a) (stands R a (omega (arith, low)))

-- **Edges have one rest**, as a set
pub one_rest : (E R R' : List (List ℕ)) → Rise E → IsRest E R → IsRest E R' → (e : List ℕ) → Contains R e → Contains R' e
one_rest E R R' rise h k e there =
    let a = place_of R e there in
    let p = rests_agree E R R' h k a.at a.low in
    let equal = same_sets (edge_at R a.at) (edge_at R' p.0) (rise_all E h.steps R h.leads rise a.at a.low)
    (rise_all E k.steps R' k.leads rise p.0 p.1) p.2 in
    subst (λ f. Contains R' f) (sym equal ∙ a.has) (stands R' p.0 p.1)

-- the edges of a query rise
all_below : (n : ℕ) → All (λ x. x < n) (numbers_below n)
all_below zero = All-nil (λ x. x < zero)
all_below (suc n) = All-push (λ x. x < suc n) (numbers_below n) n
    (all_so_far (numbers_below n) (all_below n)) (omega arith)
  where
    all_so_far : (xs : List ℕ) → All (λ x. x < n) xs → All (λ x. x < suc n) xs
    all_so_far [] h = All-nil (λ x. x < suc n)
    all_so_far (x ∷ xs) h = All-cons (λ x. x < suc n) x xs (let less = All-head (λ x. x < n) x xs h in omega (arith, less))
        (all_so_far xs (All-tail (λ x. x < n) x xs h))

below_rise : (n : ℕ) → Rising (numbers_below n)
below_rise zero = nothing_apart (λ a b. a < b)
below_rise (suc n) = pairs_push (λ a b. a < b) (numbers_below n) n (below_rise n) (all_below n)

pub set_rise : (n : ℕ) (xs : List ℕ) → Rising (set_below n xs)
set_rise n xs = AllPairs-filter (λ a b. a < b) (λ x. member x xs) (numbers_below n) (below_rise n)

edges_rise : (n : ℕ) (known : List Label) (atoms : List Atom) → Rise (edges_from n known atoms)
unfolding edges_from
edges_rise n known [] k low = absurd (omega (arith, low))
edges_rise n known (a ∷ atoms) zero low = set_rise n (numbers_in known a.terms)
edges_rise n known (a ∷ atoms) (suc k) low = edges_rise n (with_atom known a) atoms k (omega (arith, low))

pub query_rises : (q : Query) → Rise (edges_of q)
query_rises q = edges_rise (length (variables_of q.atoms)) [] q.atoms

pub head_rises : (q : Query) → Rise (head_of q ∷ edges_of q)
head_rises q zero low = set_rise (length (variables_of q.atoms)) (map (number_of (variables_of q.atoms)) q.head)
head_rises q (suc k) low = query_rises q k (omega (arith, low))

-- the lexical order
not_both : (e f : List ℕ) → is_before e f ≡ true → is_before f e ≡ true → ⊥
not_both [] [] h k = true≢false (sym h)
not_both [] (y ∷ ys) h k = true≢false (sym k)
not_both (x ∷ xs) [] h k = true≢false (sym h)
not_both (x ∷ xs) (y ∷ ys) h k =
    by (or_cases (nat_lt x y) (x == y && is_before xs ys) h) (or_cases (nat_lt y x) (y == x && is_before ys xs) k)
    (not_both xs ys)
  where
    by : (nat_lt x y ≡ true) ⊎ ((x == y && is_before xs ys) ≡ true) → (nat_lt y x ≡ true) ⊎ ((y == x && is_before ys xs) ≡ true)
        → (is_before xs ys ≡ true → is_before ys xs ≡ true → ⊥) → ⊥
    by (inl l) (inl m) more = omega (arith, ltb-true x y l, ltb-true y x m)
    by (inl l) (inr m) more = omega (arith, ltb-true x y l, eqb-true y x (and_parts (y == x) (is_before ys xs) m).0)
    by (inr l) (inl m) more = omega (arith, ltb-true y x m, eqb-true x y (and_parts (x == y) (is_before xs ys) l).0)
    by (inr l) (inr m) more =
        more (and_parts (x == y) (is_before xs ys) l).1 (and_parts (y == x) (is_before ys xs) m).1

abbrev Ordered : List (List ℕ) → Type 0
Ordered es = AllPairs (λ e f. is_before e f ≡ true) es

one_order : (es fs : List (List ℕ)) → Ordered es → Ordered fs → ((e : List ℕ) → Contains es e → Contains fs e)
    → ((e : List ℕ) → Contains fs e → Contains es e) → es ≡ fs
one_order [] [] h k to from = refl
one_order [] (f ∷ fs) h k to from = absurd (nothing_there f (from f (first_there f fs f refl)))
one_order (e ∷ es) [] h k to from = absurd (nothing_there e (to e (first_there e es e refl)))
one_order (e ∷ es) (f ∷ fs) h k to from =
    let same = first (first_or_later f fs e (to e (first_there e es e refl)))
    (first_or_later e es f (from f (first_there f fs f refl))) in
    ap (λ x. x ∷ es) same
    ∙ ap (λ xs. f ∷ xs) (one_order es fs (pairs_tail (λ a b. is_before a b ≡ true) e es h)
    (pairs_tail (λ a b. is_before a b ≡ true) f fs k)
    (λ g there. later g there (first_or_later f fs g (to g (later_there e es g there))) same)
    (λ g there. back g there (first_or_later e es g (from g (later_there f fs g there))) same))
  where
    first : (f ≡ e) ⊎ Contains fs e → (e ≡ f) ⊎ Contains es f → e ≡ f
    first (inl is) other = sym is
    first (inr there) (inl is) = is
    first (inr there) (inr there') =
        absurd (not_both e f (All-contains (λ b. is_before e b ≡ true) es f (pairs_head (λ a b. is_before a b ≡ true) e es h) there')
        (All-contains (λ b. is_before f b ≡ true) fs e (pairs_head (λ a b. is_before a b ≡ true) f fs k) there))

    later : (g : List ℕ) → Contains es g → (f ≡ g) ⊎ Contains fs g → e ≡ f → Contains fs g
    later g there (inr here) same = here
    later g there (inl is) same =
        let before = All-contains (λ b. is_before e b ≡ true) es g (pairs_head (λ a b. is_before a b ≡ true) e es h) there in
        let loop = subst (λ x. is_before e x ≡ true) (sym (same ∙ is)) before in absurd (not_both e e loop loop)

    back : (g : List ℕ) → Contains fs g → (e ≡ g) ⊎ Contains es g → e ≡ f → Contains es g
    back g there (inr here) same = here
    back g there (inl is) same =
        let before = All-contains (λ b. is_before f b ≡ true) fs g (pairs_head (λ a b. is_before a b ≡ true) f fs k) there in
        let loop = subst (λ x. is_before f x ≡ true) (sym (sym same ∙ is)) before in absurd (not_both f f loop loop)

-- **A query has one rest**, as it is told
pub one_named : (q : Query) (E R R' : List (List ℕ)) (rest rest' : NamedRest) (words : Bytes) → Rise E → IsRest E R
    → IsRest E R' → IsNamedRest q R rest → IsNamedRest q R' rest' → rest_line words rest ≡ rest_line words rest'
one_named q E R R' rest rest' words rise h k named named' =
    let same = one_order rest.edges rest'.edges named.order named'.order
    (λ e there. (named'.edges e).1 (one_rest E R R' rise h k e ((named.edges e).0 there)))
    (λ e there. (named.edges e).1 (one_rest E R' R rise k h e ((named'.edges e).0 there))) in
    ap (λ es. line (words ++ edges_text rest.names es)) same
    ∙ ap (λ ns. line (words ++ edges_text ns rest'.edges)) (named.names ∙ sym named'.names)
