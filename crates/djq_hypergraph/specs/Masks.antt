-- A machine word as a set of variables: bit x is set if the variable x is in it.
use Rattle.std.specs.Prelude.{◌≡◌, ◌≢◌, ◌⊎◌, ℕ, zero, suc, ◌+◌, ◌^◌, ◌<◌, ◌≤◌, Bool, true, false}
use Rattle.std.specs.Prelude.{cond, ◌==◌, List, [], ◌∷◌, filter, bit_or, refl}
use Rattle.std.specs.Int.{bit_at}
use Rattle.std.specs.List.{range_with_len}
use Rattle.std.proofs.Common.{sym, ◌∙◌, ⊎_elim, arith, inl, inr}
use Rattle.std.proofs.lemmas.Bool.{cases_lt, cases_eq, eq-eqb, ne_eqb}
use Rattle.std.proofs.lemmas.Nat.Bits.{bit_at-zero, bit_at-lt, bit_at_or, bit_at-pow_same}
use Rattle.std.proofs.lemmas.Nat.Bits.{bit_at-pow_other, bit_at_above, same_from_bits}
use Rattle.djq_hypergraph.specs.declared.var_set.TheConstants.{VARIABLES}
use Rattle.djq_hypergraph.specs.Hypergraph.{member, one}

-- the variables of a word, in rising order
unfoldable pub mask_variables : ℕ → List ℕ
mask_variables mask = filter (λ x. bit_at mask x == 1) (range_with_len 0 VARIABLES)

-- the word of a list of variables
unfoldable pub mask_of : List ℕ → ℕ
mask_of [] = 0
mask_of (x ∷ xs) = bit_or (2 ^ x) (mask_of xs)

-- whether a variable is in, as a number
abbrev pub has_bit : ℕ → List ℕ → ℕ
has_bit x l = one (member x l)

-- what a filter of a range retains
kept_other : (b : Bool) (x a : ℕ) (l : List ℕ) → x ≢ a → has_bit x (cond b (a ∷ l) l) ≡ has_bit x l
kept_other true x a l apart = rw (ne_eqb x a apart) refl
kept_other false x a l apart = refl

kept_same : (b : Bool) (a : ℕ) (l : List ℕ) → has_bit a l ≡ 0 → has_bit a (cond b (a ∷ l) l) ≡ one b
kept_same true a l none = rw (eq-eqb a a refl) refl
kept_same false a l none = none

-- a filter of a range retains no variable that is outside of the range
pub range_outside : (p : ℕ → Bool) (x a n : ℕ) → (x < a) ⊎ (a + n ≤ x) → has_bit x (filter p (range_with_len a n)) ≡ 0
range_outside p x a zero out = refl
range_outside p x a (suc n) out =
    let apart : x ≢ a = ⊎_elim (λ h. omega arith) (λ h. omega arith) out in
    kept_other (p a) x a (filter p (range_with_len (a + 1) n)) apart
    ∙ range_outside p x (a + 1) n (⊎_elim (λ h. inl (omega arith)) (λ h. inr (omega arith)) out)

-- a filter of a range retains a variable within the range if and only if it passes
pub range_within : (p : ℕ → Bool) (x a n : ℕ) → a ≤ x → x < a + n
    → has_bit x (filter p (range_with_len a n)) ≡ one (p x)
range_within p x a zero from below = absurd (omega arith)
range_within p x a (suc n) from below =
    elim (cases_eq x a) [
      | inl e ↦
          let k : has_bit a (cond (p a) (a ∷ filter p (range_with_len (a + 1) n)) (filter p (range_with_len (a + 1) n)))
          ≡ one (p a) = kept_same (p a) a _ (range_outside p a (a + 1) n (inl (omega arith))) in
          rw e k
      | inr apart ↦ kept_other (p a) x a (filter p (range_with_len (a + 1) n)) apart
          ∙ range_within p x (a + 1) n (omega arith) (omega arith)
    ]

one_bit : (d : ℕ) → d < 2 → one (d == 1) ≡ d
one_bit zero h = refl
one_bit (suc zero) h = refl
one_bit (suc (suc d)) h = absurd (omega arith)

-- a variable is in if and only if its bit is set
pub has_variables : (x n : ℕ) → n < 2 ^ VARIABLES → has_bit x (mask_variables n) ≡ bit_at n x
unfolding mask_variables
has_variables x n fits =
    ⊎_elim
    (λ below. range_within (λ i. bit_at n i == 1) x 0 VARIABLES (omega arith) (omega arith)
    ∙ one_bit (bit_at n x) (bit_at-lt n x))
    (λ above. range_outside (λ i. bit_at n i == 1) x 0 VARIABLES (inr (omega arith))
    ∙ sym (bit_at_above n VARIABLES x fits above))
    (cases_lt x VARIABLES)

-- the bit of a variable in a list's word is set if and only if the list has the variable
pub bit_at_mask : (x : ℕ) (l : List ℕ) → bit_at (mask_of l) x ≡ has_bit x l
unfolding mask_of
bit_at_mask x [] = bit_at-zero x
bit_at_mask x (y ∷ ys) =
    let r = bit_at_mask x ys in
    let low = bit_at-lt (mask_of ys) x in
    elim (cases_eq x y) [
      | inl e ↦
          let b : bit_at (2 ^ y) x ≡ 1 = rw e (bit_at-pow_same y) in
          rw (eq-eqb x y e) (omega (arith, bit_at_or (2 ^ y) (mask_of ys) x))
      | inr apart ↦
          rw (ne_eqb x y apart) (omega (arith, bit_at_or (2 ^ y) (mask_of ys) x, bit_at-pow_other y x apart))
    ]

-- the variables of a word give it back
pub mask_back : (n : ℕ) → n < 2 ^ VARIABLES → mask_of (mask_variables n) ≡ n
mask_back n fits = same_from_bits (mask_of (mask_variables n)) n
    (λ x. bit_at_mask x (mask_variables n) ∙ has_variables x n fits)
