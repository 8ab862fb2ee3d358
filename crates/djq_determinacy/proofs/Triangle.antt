-- The triangle x,y y,z x,z has no join tree, and is its own rest.
use Rattle.std.specs.Prelude.{ℕ, zero, suc, List, [], ◌∷◌, ◌≡◌, ◌≢◌, ◌⊎◌, ◌<◌, ◌+◌, ◌==◌, ◌||◌, Bool, true, false}
use Rattle.std.proofs.Common.{refl, sym, ap, ◌∙◌, subst, inl, inr, arith}
use Rattle.std.proofs.lemmas.Bool.{true≢false}
use Rattle.djq_hypergraph.specs.Hypergraph.{member, one, degree, edge_at, subset}
use Rattle.djq_hypergraph.specs.Gyo.{IsIrreducible}
use Rattle.djq_hypergraph.specs.Refusing.{IsCyclic}
use Rattle.djq_hypergraph.specs.JoinTree.{HasJoinTree}
use Rattle.djq_hypergraph.specs.declared.step.Step.TheVariants.{Vertex, Edge}
use Rattle.djq_hypergraph.proofs.Sets.{has_bit, Sub, one_le}
use Rattle.djq_hypergraph.proofs.Labels.{labels, equal, equal_alike, times_itself, degree_same, count, count_self}
use Rattle.djq_hypergraph.proofs.LabelTrees.{Rooted, Own, Inner, progress}
use Rattle.djq_hypergraph.proofs.JoinTrees.{rooted_of}

abbrev xy : List ℕ
xy = 0 ∷ 1 ∷ []

abbrev yz : List ℕ
yz = 1 ∷ 2 ∷ []

abbrev xz : List ℕ
xz = 0 ∷ 2 ∷ []

abbrev pub triangle : List (List ℕ)
triangle = xy ∷ yz ∷ xz ∷ []

-- no variable lies in one edge alone
not_one : (x : ℕ) → degree x triangle ≡ 1 → ⊥
not_one x h = by (x == 0) (x == 1) (x == 2) h
  where
    by : (p q r : Bool) → one (p || (q || false)) + (one (q || (r || false)) + (one (p || (r || false)) + 0)) ≡ 1 → ⊥
    by true true true h = omega (arith, h)
    by true true false h = omega (arith, h)
    by true false true h = omega (arith, h)
    by true false false h = omega (arith, h)
    by false true true h = omega (arith, h)
    by false true false h = omega (arith, h)
    by false false true h = omega (arith, h)
    by false false false h = omega (arith, h)

-- an edge of it
abbrev IsSide : List ℕ → Type 0
IsSide a = (a ≡ xy) ⊎ ((a ≡ yz) ⊎ (a ≡ xz))

is_side : (a : List ℕ) → 0 < count a triangle → IsSide a
is_side a h = by (equal a xy) refl (equal a yz) refl (equal a xz) refl
  where
    by : (p : Bool) → equal a xy ≡ p → (q : Bool) → equal a yz ≡ q → (r : Bool) → equal a xz ≡ r → IsSide a
    by true e q f r g = inl (equal_alike a xy e)
    by false e true f r g = inr (inl (equal_alike a yz f))
    by false e false f true g = inr (inr (equal_alike a xz g))
    by false e false f false g = absurd (omega (arith, h, ap one e, ap one f, ap one g))

not_within : (a b c d : List ℕ) (x : ℕ) → a ≡ c → b ≡ d → has_bit x c ≡ 1 → has_bit x d ≡ 0 → Sub a b → ⊥
not_within a b c d x is is' here gone sub = omega (arith, sub x, ap (has_bit x) is, ap (has_bit x) is', here, gone)

-- an edge lies within no other one
one_side : (a b : List ℕ) → IsSide a → IsSide b → Sub a b → a ≡ b
one_side a b (inl h) (inl k) sub = h ∙ sym k
one_side a b (inr (inl h)) (inr (inl k)) sub = h ∙ sym k
one_side a b (inr (inr h)) (inr (inr k)) sub = h ∙ sym k
one_side a b (inl h) (inr (inl k)) sub = absurd (not_within a b xy yz 0 h k refl refl sub)
one_side a b (inl h) (inr (inr k)) sub = absurd (not_within a b xy xz 1 h k refl refl sub)
one_side a b (inr (inl h)) (inl k) sub = absurd (not_within a b yz xy 2 h k refl refl sub)
one_side a b (inr (inl h)) (inr (inr k)) sub = absurd (not_within a b yz xz 1 h k refl refl sub)
one_side a b (inr (inr h)) (inl k) sub = absurd (not_within a b xz xy 2 h k refl refl sub)
one_side a b (inr (inr h)) (inr (inl k)) sub = absurd (not_within a b xz yz 0 h k refl refl sub)

once : (a : List ℕ) → IsSide a → count a triangle ≡ 1
once a (inl h) = ap (λ l. count l triangle) h
once a (inr (inl h)) = ap (λ l. count l triangle) h
once a (inr (inr h)) = ap (λ l. count l triangle) h

no_progress : (r : Rooted [] triangle)
    → ((a : List ℕ) → 0 < count a r.order → Sub a []) ⊎ (Own [] r.order ⊎ Inner r.order) → ⊥
no_progress r (inl all) =
    let within = all xy (omega (arith, r.those xy)) 0 in omega (arith, within)
no_progress r (inr (inl own)) =
    not_one own.var
    (omega (
      arith,
      degree_same own.var r.order triangle r.those,
      degree_same own.var r.order (own.label ∷ own.rest) own.here,
      own.within,
      own.alone,
      one_le (member own.var own.label),
    ))
no_progress r (inr (inr inner)) =
    let side = is_side inner.label (omega (arith, inner.here inner.label, r.those inner.label, count_self inner.label inner.rest)) in
    let side' = is_side inner.over (omega (arith, inner.there, inner.here inner.over, r.those inner.over)) in
    let same = one_side inner.label inner.over side side' inner.inside in
    let again = subst (λ l. 0 < count l inner.rest) (sym same) inner.there in
    omega (arith, again, times_itself labels inner.label, inner.here inner.label, r.those inner.label, once inner.label side)

no_tree : HasJoinTree triangle → ⊥
no_tree t = let r = rooted_of triangle t.0 t.1 in no_progress r (progress [] r.order r.tree)

no_step : IsIrreducible triangle
no_step (Vertex i x) h = not_one x h.2
no_step (Edge i j) h = by i j h.0 h.1 h.2 h.3
  where
    by : (i j : ℕ) → i < 3 → j < 3 → i ≢ j → subset (edge_at triangle i) (edge_at triangle j) ≡ true → ⊥
    by zero zero a b apart s = apart refl
    by zero (suc zero) a b apart s = true≢false (sym s)
    by zero (suc (suc zero)) a b apart s = true≢false (sym s)
    by (suc zero) zero a b apart s = true≢false (sym s)
    by (suc zero) (suc zero) a b apart s = apart refl
    by (suc zero) (suc (suc zero)) a b apart s = true≢false (sym s)
    by (suc (suc zero)) zero a b apart s = true≢false (sym s)
    by (suc (suc zero)) (suc zero) a b apart s = true≢false (sym s)
    by (suc (suc zero)) (suc (suc zero)) a b apart s = apart refl
    by (suc (suc (suc i))) j a b apart s = omega (arith, a)
    by i (suc (suc (suc j))) a b apart s = omega (arith, b)

pub triangle_cyclic : IsCyclic triangle triangle
triangle_cyclic = record {
  no_tree = no_tree;
  rest = record { steps = []; leads = refl; irreducible = no_step; variable = 0; lies = omega arith };
}
