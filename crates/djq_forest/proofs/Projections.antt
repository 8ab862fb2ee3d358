-- The projection on the variables of a label that a tuple has itself.
use Rattle.std.specs.Prelude.{◌≡◌, ℕ, zero, suc, ◌+◌, ◌<◌, List, [], ◌∷◌, map, length, slice_index}
use Rattle.std.specs.List.Sorted.{IsStrictlyIncreasing}
use Rattle.std.proofs.Common.{refl, sym, ◌∙◌, ap, arith, inl, inr}
use Rattle.std.proofs.lemmas.Bool.{cases_eq, ne_eqb, eq-eqb}
use Rattle.std.proofs.lemmas.List.{length-map, same_lists, get_or-map, get_or_default}
use Rattle.djq_forest.specs.Tuple.{projection, variable_column, label_columns}

-- each number of the list is below all later ones
abbrev pub Rises : List ℕ → Type 0
Rises l = (j i : ℕ) → j < i → i < length l → slice_index l j < slice_index l i

pub rises_by : (l : List ℕ) → IsStrictlyIncreasing l → Rises l
rises_by l h j zero k m = absurd (omega arith)
rises_by l h j (suc i) k m =
    let next : slice_index l i < slice_index l (i + 1) = h i (omega arith) in
    let is : slice_index l (i + 1) ≡ slice_index l (suc i) = ap (λ (n : ℕ). slice_index l n) (omega arith) in
    elim (cases_eq j i) [
      | inl here ↦ let same : slice_index l j ≡ slice_index l i = ap (λ (n : ℕ). slice_index l n) here in
          omega (arith, next, is, same)
      | inr other ↦ let before = rises_by l h j i (omega arith) (omega arith) in omega (arith, next, is, before)
    ]

column_at : (l : List ℕ) (i : ℕ) → Rises l → i < length l → variable_column l (slice_index l i) ≡ i
unfolding variable_column
column_at [] i h k = absurd (omega arith)
column_at (x ∷ xs) zero h k = rw (eq-eqb x x refl) refl
column_at (x ∷ xs) (suc i) h k =
    let above : x < slice_index xs i = h zero (suc i) (omega arith) k in
    rw (
      ne_eqb x (slice_index xs i) (λ e. omega (arith, above, e)),
      column_at xs i (λ j m l n. h (suc j) (suc m) (omega arith) (omega arith)) (omega arith),
    ) refl

-- on all of its own columns, a tuple is as it is
pub pick_own : (l u : List ℕ) → Rises l → length u ≡ length l → projection (label_columns l l) u ≡ u
unfolding projection label_columns
pick_own l u h same =
    same_lists (map (λ c. slice_index u c) (map (λ x. variable_column l x) l)) u
    (length-map (map (λ x. variable_column l x) l) (λ c. slice_index u c) ∙ length-map l (λ x. variable_column l x) ∙ sym same)
    (λ k d m.
    let within : k < length l = omega
    (arith, m, length-map (map (λ x. variable_column l x) l) (λ c. slice_index u c), length-map l (λ x. variable_column l x)) in
    get_or-map (λ c. slice_index u c) (map (λ x. variable_column l x) l) k 0 d (omega (arith, within, length-map l (λ x. variable_column l x)))
    ∙ ap (λ (c : ℕ). slice_index u c) (get_or-map (λ x. variable_column l x) l k 0 0 within ∙ column_at l k h within)
    ∙ get_or_default u k 0 d (omega (arith, within, same)))
