-- Sums of a function over the first numbers, and how long a list of different slots is.
use Rattle.std.specs.Prelude.{◌≡◌, ◌≢◌, ◌⊎◌, ℕ, zero, suc, ◌+◌, ◌<◌, ◌≤◌, Bool, true, false, ◌==◌, ◌||◌}
use Rattle.std.specs.Prelude.{List, [], ◌∷◌, length}
use Rattle.std.proofs.Common.{refl, sym, ◌∙◌, ap, ap₂, arith, inl, inr}
use Rattle.std.proofs.lemmas.Bool.{cases_eq, ne_eqb, eq-eqb, eqb-true}
use Rattle.djq_arena.specs.Chains.{AreDistinctSlots, AreBelow}
use Rattle.djq_hypergraph.specs.Hypergraph.{member, one}
use Rattle.djq_forest.proofs.TieChanges.{not_member}

-- the sum of what the first n numbers give
abbrev pub over : (ℕ → ℕ) → ℕ → ℕ
over g zero = 0
over g (suc n) = over g n + g n

pub over_same : (g h : ℕ → ℕ) (n : ℕ) → ((i : ℕ) → i < n → g i ≡ h i) → over g n ≡ over h n
over_same g h zero k = refl
over_same g h (suc n) k = ap₂ (λ (a b : ℕ). a + b) (over_same g h n (λ i l. k i (omega arith))) (k n (omega arith))

pub over_none : (g : ℕ → ℕ) (n : ℕ) → ((i : ℕ) → i < n → g i ≡ 0) → over g n ≡ 0
over_none g zero k = refl
over_none g (suc n) k = omega (arith, over_none g n (λ i l. k i (omega arith)), k n (omega arith))

pub over_one : (g : ℕ → ℕ) (n y : ℕ) → y < n → ((i : ℕ) → i < n → i ≢ y → g i ≡ 0) → over g n ≡ g y
over_one g zero y l k = absurd (omega arith)
over_one g (suc n) y l k =
    elim (cases_eq y n) [
      | inl same ↦
          let rest : over g n ≡ 0 = over_none g n (λ i m. k i (omega arith) (λ e. omega (arith, m, e, same))) in
          let here : g y ≡ g n = ap g same in
          omega (arith, rest, here)
      | inr other ↦
          let rest : over g n ≡ g y = over_one g n y (omega arith) (λ i m n. k i (omega arith) n) in
          let last : g n ≡ 0 = k n (omega arith) (λ e. other (sym e)) in
          omega (arith, rest, last)
    ]

pub over_front : (g : ℕ → ℕ) (n : ℕ) → over g (suc n) ≡ g 0 + over (λ i. g (suc i)) n
over_front g zero = omega arith
over_front g (suc n) = let k : over g (suc n) ≡ g 0 + over (λ i. g (suc i)) n = over_front g n in omega (arith, k)

pub over_add : (g h : ℕ → ℕ) (n : ℕ) → over (λ i. g i + h i) n ≡ over g n + over h n
over_add g h zero = refl
over_add g h (suc n) = omega (arith, over_add g h n)

pub over_less : (g h : ℕ → ℕ) (n : ℕ) → ((i : ℕ) → i < n → g i ≤ h i) → over g n ≤ over h n
over_less g h zero k = omega arith
over_less g h (suc n) k = omega (arith, over_less g h n (λ i l. k i (omega arith)), k n (omega arith))

-- there is a number below n that passes the test, or none does
pub record Found (test : ℕ → Bool) (n : ℕ) : Type 0 where
  pub at : ℕ
  pub below : at < n
  pub passes : test at ≡ true

find_on : (test : ℕ → Bool) (n : ℕ) (b : Bool) → test n ≡ b → (Found test n ⊎ ((i : ℕ) → i < n → test i ≡ false))
    → Found test (suc n) ⊎ ((i : ℕ) → i < suc n → test i ≡ false)
find_on test n true is h = inl (record { at = n; below = omega arith; passes = is })
find_on test n false is h =
    elim h [
      | inl found ↦ inl (record { at = found.at; below = let k = found.below in omega (arith, k); passes = found.passes })
      | inr none ↦ inr (λ i l. elim (cases_eq i n) [ inl here ↦ ap test here ∙ is | inr other ↦ none i (omega arith) ])
    ]

pub find_below : (test : ℕ → Bool) (n : ℕ) → Found test n ⊎ ((i : ℕ) → i < n → test i ≡ false)
find_below test zero = inr (λ i l. absurd (omega arith))
find_below test (suc n) = find_on test n (test n) refl (find_below test n)

-- a list of different slots below n is as long as there are such numbers in it
one_or : (a b : Bool) → (a ≡ true → b ≡ false) → one (a || b) ≡ one a + one b
one_or true b h = rw (h refl) refl
one_or false b h = omega arith

pub listed_length : (xs : List ℕ) (n : ℕ) → AreDistinctSlots xs → AreBelow n xs → length xs ≡ over (λ i. one (member i xs)) n
unfolding AreDistinctSlots AreBelow
listed_length [] n d b = sym (over_none (λ i. 0) n (λ i l. refl))
listed_length (x ∷ xs) n d b =
    let apart = over_same (λ i. one ((i == x) || member i xs)) (λ i. one (i == x) + one (member i xs)) n
    (λ i l. one_or (i == x) (member i xs) (λ e. ap (λ (j : ℕ). member j xs) (eqb-true i x e) ∙ not_member x xs d.0)) in
    let both = over_add (λ i. one (i == x)) (λ i. one (member i xs)) n in
    let here = over_one (λ i. one (i == x)) n x b.0 (λ i l other. ap one (ne_eqb i x other)) in
    let is : one (x == x) ≡ 1 = ap one (eq-eqb x x refl) in
    let rest = listed_length xs n d.1 b.1 in
    omega (arith, apart, both, here, is, rest)
