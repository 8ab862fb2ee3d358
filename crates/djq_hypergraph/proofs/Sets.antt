-- Sets of variables: as numbers, as rising lists, and as the bits of a word.
use Rattle.std.specs.Prelude.{◌≡◌, ℕ, ◌-◌, ◌<◌, ◌≤◌, min, max, Bool, true, false, cond, not, ◌==◌, ◌&&◌, ◌||◌, List, []}
use Rattle.std.specs.Prelude.{◌∷◌, filter, refl, suc, length, slice_index_or, AllPairs, ◌≢◌, zero, ◌+◌, ◌*◌, ◌/◌, ◌%◌}
use Rattle.std.specs.Prelude.{◌^◌, nat_eq, nat_lt, slice_get, All, Some, bit_and, bit_or}
use Rattle.std.proofs.Common.{sym, ap, ◌∙◌, arith, inl, inr, ap₂, shr-shr, pow-suc, div-one, lt_of_le_of_lt}
use Rattle.std.proofs.lemmas.Bool.{cases_eq, eq-eqb, ne_eqb, cases_Bool, eqb-true, false≢true, or_cases, cases_lt}
use Rattle.std.proofs.lemmas.Bool.{le-ltb}
use Rattle.std.specs.Int.{bit_at, trailing_zeros, w128 as word}
use Rattle.std.specs.List.{range_with_len}
use Rattle.std.specs.List.Sorted.{IsStrictlyIncreasing}
use Rattle.std.proofs.lemmas.List.FromFn.{length-range_with_len, get_or-range_with_len}
use Rattle.std.proofs.lemmas.List.Kept.{IsStrictlyIncreasing-filter}
use Rattle.std.proofs.lemmas.List.Elements.{All-filter}
use Rattle.std.proofs.lemmas.Nat.{or_lt, and_le_l}
use Rattle.std.specs.Int.Count.{ones, ones_step}
use Rattle.std.proofs.lemmas.Nat.Bits.{bit_at-zero, bit_at-lt, bit_at_and, bit_at_or, bit_at_not, bit_at_above}
use Rattle.std.proofs.lemmas.Nat.Bits.{same_from_bits, shr_and_one, bit_at-trailing_zeros, bit_at_set_same}
use Rattle.std.proofs.lemmas.Nat.Bits.{bit_at_set_other, bit_at_clear_same, bit_at_clear_other}
use Rattle.djq_hypergraph.specs.declared.var_set.TheConstants.{VARIABLES}
use Rattle.djq_hypergraph.specs.Hypergraph.{member, subset, difference, intersection, one}
pub use Rattle.djq_hypergraph.specs.Masks.{has_bit}
use Rattle.djq_hypergraph.specs.Masks.{mask_variables, has_variables}

-- ---- Membership as a number: facts about it are linear, and `omega` proves most of them.

-- each variable of the first set is in the second
abbrev pub Sub : List ℕ → List ℕ → Type 0
Sub e f = (x : ℕ) → has_bit x e ≤ has_bit x f

pub one_le : (b : Bool) → one b ≤ 1
one_le true = omega arith
one_le false = omega arith

pub same_one : (a b : Bool) → one a ≡ one b → a ≡ b
same_one true true h = refl
same_one true false h = absurd (omega arith)
same_one false true h = absurd (omega arith)
same_one false false h = refl

pub one_true : (b : Bool) → 0 < one b → b ≡ true
one_true true h = refl
one_true false h = absurd (omega arith)

pub one_false : (b : Bool) → one b ≡ 0 → b ≡ false
one_false true h = absurd (omega arith)
one_false false h = refl

pub from_true : (b : Bool) → b ≡ true → 0 < one b
from_true b h = rw h (omega arith)

pub from_false : (b : Bool) → b ≡ false → one b ≡ 0
from_false b h = rw h refl

pub one_or : (a b : Bool) → one (a || b) ≡ max (one a) (one b)
one_or true true = refl
one_or true false = refl
one_or false true = refl
one_or false false = refl

pub one_and : (a b : Bool) → one (a && b) ≡ min (one a) (one b)
one_and true true = refl
one_and true false = refl
one_and false true = refl
one_and false false = refl

pub one_not : (a : Bool) → one (not a) ≡ 1 - one a
one_not true = refl
one_not false = refl

-- the variable itself, and another one, at the head of a list
pub has_here : (x y : ℕ) (l : List ℕ) → x ≡ y → has_bit x (y ∷ l) ≡ 1
has_here x y l e = rw (eq-eqb x y e) refl

pub has_other : (x y : ℕ) (l : List ℕ) → (x ≡ y → ⊥) → has_bit x (y ∷ l) ≡ has_bit x l
has_other x y l apart = rw (ne_eqb x y apart) refl

pub has_tail : (x y : ℕ) (l : List ℕ) → has_bit x l ≤ has_bit x (y ∷ l)
has_tail x y l = omega (arith, one_or (x == y) (member x l))

pub has_one : (x y : ℕ) → 0 < has_bit x (y ∷ []) → x ≡ y
has_one x y h = elim (cases_eq x y) [ inl e ↦ e | inr apart ↦ absurd (omega (arith, has_other x y [] apart)) ]

-- `subset` and what it says
pub subset_from : (e f : List ℕ) → Sub e f → subset e f ≡ true
subset_from [] f h = refl
subset_from (x ∷ e) f h =
    let m : member x f ≡ true = one_true (member x f) (omega (arith, h x, has_here x x e refl)) in
    rw (m, subset_from e f (λ y. omega (arith, h y, has_tail y x e))) refl

pub subset_says : (e f : List ℕ) → subset e f ≡ true → Sub e f
subset_says [] f h y = omega arith
subset_says (x ∷ e) f h y =
    let both = one_and (member x f) (subset e f) in
    let all = from_true (member x f && subset e f) h in
    let rest = subset_says e f (one_true (subset e f) (omega arith)) y in
    elim (cases_eq y x) [
      | inl same ↦ omega (arith, one_le (member y (x ∷ e)), ap (λ (z : ℕ). has_bit z f) same)
      | inr apart ↦ omega (arith, has_other y x e apart)
    ]

-- a filter keeps the variables that pass
keep_step : (b : Bool) (p : ℕ → Bool) (x y : ℕ) (l : List ℕ) → b ≡ p y
    → has_bit x (filter p l) ≡ min (has_bit x l) (one (p x))
    → has_bit x (cond b (y ∷ filter p l) (filter p l)) ≡ min (has_bit x (y ∷ l)) (one (p x))
keep_step b p x y l e h =
    elim (cases_eq x y) [
      | inl same ↦ at_same b e same
      | inr apart ↦ at_other b (has_other x y l apart) (has_other x y (filter p l) apart)
    ]
  where
    at_same : (b : Bool) → b ≡ p y → x ≡ y → has_bit x (cond b (y ∷ filter p l) (filter p l))
        ≡ min (has_bit x (y ∷ l)) (one (p x))
    at_same true e same =
        let q : one true ≡ one (p x) = ap one e ∙ ap (λ z. one (p z)) (sym same) in
        omega (arith, has_here x y l same, has_here x y (filter p l) same)
    at_same false e same =
        let q : one false ≡ one (p x) = ap one e ∙ ap (λ z. one (p z)) (sym same) in
        omega (arith, has_here x y l same)

    at_other : (b : Bool) → has_bit x (y ∷ l) ≡ has_bit x l → has_bit x (y ∷ filter p l) ≡ has_bit x (filter p l)
        → has_bit x (cond b (y ∷ filter p l) (filter p l)) ≡ min (has_bit x (y ∷ l)) (one (p x))
    at_other true f g = omega (arith, h)
    at_other false f g = omega (arith, h)

pub has_filter : (p : ℕ → Bool) (x : ℕ) (l : List ℕ) → has_bit x (filter p l) ≡ min (has_bit x l) (one (p x))
has_filter p x [] = omega arith
has_filter p x (y ∷ l) = keep_step (p y) p x y l refl (has_filter p x l)

pub has_difference : (x : ℕ) (e f : List ℕ) → has_bit x (difference e f) ≡ min (has_bit x e) (1 - has_bit x f)
has_difference x e f = has_filter (λ y. not (member y f)) x e ∙ ap (λ n. min (has_bit x e) n) (one_not (member x f))

pub has_intersection : (x : ℕ) (e f : List ℕ) → has_bit x (intersection e f) ≡ min (has_bit x e) (has_bit x f)
has_intersection x e f = has_filter (λ y. member y f) x e

-- ---- Sets of variables as rising lists: the members tell the list.

-- each number is below all later ones
abbrev pub Rising : List ℕ → Type 0
Rising l = AllPairs (λ x y. x < y) l

tail_rising : (x : ℕ) (l : List ℕ) → Rising (x ∷ l) → Rising l
tail_rising x l h i j d a b = h (suc i) (suc j) d (omega arith) (omega arith)

pub above : (x y : ℕ) (l : List ℕ) → ((k d : ℕ) → k < length l → x < slice_index_or l k d) → member y l ≡ true → x < y
above x y [] h m = absurd (false≢true m)
above x y (z ∷ l) h m =
    elim (or_cases (y == z) (member y l) m) [
      | inl here ↦ (let e = eqb-true y z here in let b : x < z = h 0 0 (omega arith) in omega arith)
      | inr there ↦ above x y l (λ k d i. h (suc k) d (omega arith)) there
    ]

first_lowest : (x y : ℕ) (l : List ℕ) → Rising (x ∷ l) → member y l ≡ true → x < y
first_lowest x y l h m = above x y l (λ k d i. h 0 (suc k) d (omega arith) (omega arith)) m

pub first_alone : (x y : ℕ) (l : List ℕ) → Rising (x ∷ l) → y ≡ x → member y l ≡ false
first_alone x y l h e =
    elim (cases_Bool (member y l)) [
      | inl m ↦ absurd (let low = first_lowest x y l h m in omega arith)
      | inr n ↦ n
    ]

pub member_here : (x : ℕ) (l : List ℕ) → member x (x ∷ l) ≡ true
member_here x l = rw (eq-eqb x x refl) refl

pub member_past : (x y : ℕ) (l : List ℕ) → (x ≡ y → ⊥) → member x (y ∷ l) ≡ member x l
member_past x y l apart = rw (ne_eqb x y apart) refl

same_first : (x y : ℕ) (xs ys : List ℕ) → Rising (x ∷ xs) → Rising (y ∷ ys) → member x (y ∷ ys) ≡ true
    → member y (x ∷ xs) ≡ true → x ≡ y
same_first x y xs ys p q a b =
    elim (cases_eq x y) [
      | inl e ↦ e
      | inr apart ↦
          let low = first_lowest y x ys q (sym (member_past x y ys apart) ∙ a) in
          let high = first_lowest x y xs p (sym (member_past y x xs (λ e. apart (sym e))) ∙ b) in
          absurd (omega arith)
    ]

same_rest : (x y z : ℕ) (xs ys : List ℕ) → x ≡ y → Rising (x ∷ xs) → Rising (y ∷ ys) → member z (x ∷ xs)
    ≡ member z (y ∷ ys) → member z xs ≡ member z ys
same_rest x y z xs ys e p q h =
    elim (cases_eq z x) [
      | inl is ↦ first_alone x z xs p is ∙ sym (first_alone y z ys q (is ∙ e))
      | inr apart ↦ sym (member_past z x xs apart) ∙ h ∙ member_past z y ys (λ k. apart (k ∙ sym e))
    ]

-- rising lists with the same members are the same
pub same_sets : (a b : List ℕ) → Rising a → Rising b → ((x : ℕ) → member x a ≡ member x b) → a ≡ b
same_sets [] [] p q h = refl
same_sets [] (y ∷ ys) p q h = absurd (false≢true (h y ∙ member_here y ys))
same_sets (x ∷ xs) [] p q h = absurd (false≢true (sym (h x) ∙ member_here x xs))
same_sets (x ∷ xs) (y ∷ ys) p q h =
    let e = same_first x y xs ys p q (sym (h x) ∙ member_here x xs) (h y ∙ member_here y ys) in
    ap₂ (λ (z : ℕ) (zs : List ℕ). z ∷ zs) e
    (same_sets xs ys (tail_rising x xs p) (tail_rising y ys q) (λ z. same_rest x y z xs ys e p q (h z)))

-- ---- The operations on words are those on sets of variables.

-- ---- no variable

pub none_of : (n : ℕ) → n ≡ 0 → mask_variables n ≡ []
unfolding mask_variables
none_of n e = rw e refl

length_none : (l : List ℕ) → length l ≡ 0 → (x : ℕ) → has_bit x l ≡ 0
length_none [] h x = refl
length_none (y ∷ l) h x = absurd (omega arith)

pub word_empty : (n : ℕ) (l : List ℕ) → mask_variables n ≡ l → n < 2 ^ VARIABLES → nat_eq n 0 ≡ (length l == 0)
word_empty n l e fits =
    elim (cases_eq n 0) [
      | inl z ↦ rw (eq-eqb n 0 z, ← e, none_of n z) refl
      | inr some ↦
          elim (cases_eq (length l) 0) [
            | inl none ↦
                absurd (some (same_from_bits n 0
                (λ x. sym (has_variables x n fits) ∙ ap (λ k. has_bit x k) e ∙ length_none l none x
                ∙ sym (bit_at-zero x))))
            | inr more ↦ rw (ne_eqb n 0 some, ne_eqb (length l) 0 more) refl
          ]
    ]

-- ---- membership

bit_test : (d : ℕ) (b : Bool) → one b ≡ d → (d == 1) ≡ b
bit_test d true e = rw (← e) refl
bit_test d false e = rw (← e) refl

pub word_member : (n x : ℕ) (l : List ℕ) → mask_variables n ≡ l → n < 2 ^ VARIABLES → nat_eq (bit_and (n / 2 ^ x) 1) 1
    ≡ member x l
word_member n x l e fits =
    let h : one (member x l) ≡ bit_at n x = ap (λ k. has_bit x k) (sym e) ∙ has_variables x n fits in
    rw (shr_and_one n x) (bit_test (bit_at n x) (member x l) h)

pub word_above : (n x : ℕ) (l : List ℕ) → mask_variables n ≡ l → n < 2 ^ VARIABLES → VARIABLES ≤ x → nat_lt x VARIABLES
    ≡ member x l
word_above n x l e fits above =
    let h : one (member x l) ≡ bit_at n x = ap (λ k. has_bit x k) (sym e) ∙ has_variables x n fits in
    rw (le-ltb x VARIABLES above) (sym (one_false (member x l) (h ∙ bit_at_above n VARIABLES x fits above)))

-- ---- containment

pub word_subset : (m n : ℕ) (a b : List ℕ) → mask_variables m ≡ a → mask_variables n ≡ b → m < 2 ^ VARIABLES
    → n < 2 ^ VARIABLES → nat_eq (bit_and m n) m ≡ subset a b
word_subset m n a b e f fits_m fits_n =
    let of_a = λ (x : ℕ). sym (ap (λ k. has_bit x k) e) ∙ has_variables x m fits_m in
    let of_b = λ (x : ℕ). sym (ap (λ k. has_bit x k) f) ∙ has_variables x n fits_n in
    elim (cases_eq (bit_and m n) m) [
      | inl same ↦
          let s : subset a b ≡ true = subset_from a b
          (λ x. omega (arith, of_a x, of_b x, bit_at_and m n x, ap (λ k. bit_at k x) same)) in
          rw (eq-eqb (bit_and m n) m same, s) refl
      | inr apart ↦
          elim (cases_Bool (subset a b)) [
            | inl holds ↦
                absurd (apart (same_from_bits (bit_and m n) m
                (λ x. omega (arith, of_a x, of_b x, bit_at_and m n x, subset_says a b holds x))))
            | inr fails ↦ rw (ne_eqb (bit_and m n) m apart, fails) refl
          ]
    ]

-- ---- one filter after another

twice_step : (q r : Bool) (p : ℕ → Bool) (a : ℕ) (Q R : List ℕ) → r ≡ (q && p a) → R ≡ filter p Q → cond r (a ∷ R) R
    ≡ filter p (cond q (a ∷ Q) Q)
twice_step true r p a Q R e f = rw (e, f) refl
twice_step false r p a Q R e f = rw e f

filter_twice : (p q r : ℕ → Bool) (a n : ℕ) → ((x : ℕ) → x < a + n → r x ≡ (q x && p x)) → filter r (range_with_len a n)
    ≡ filter p (filter q (range_with_len a n))
filter_twice p q r a zero h = refl
filter_twice p q r a (suc n) h = twice_step (q a) (r a) p a (filter q (range_with_len (a + 1) n))
    (filter r (range_with_len (a + 1) n)) (h a (omega arith)) (filter_twice p q r (a + 1) n (λ x k. h x (omega arith)))

difference_bit : (b c d : ℕ) (e : Bool) → b < 2 → one e ≡ c → d ≡ min b (1 - c) → (d == 1) ≡ ((b == 1) && not e)
difference_bit zero c d e low f g = let k : d ≡ 0 = omega arith in rw k refl
difference_bit (suc zero) c d true low f g = let k : d ≡ 0 = omega arith in rw k refl
difference_bit (suc zero) c d false low f g = let k : d ≡ 1 = omega arith in rw k refl
difference_bit (suc (suc b)) c d e low f g = absurd (omega arith)

intersection_bit : (b c d : ℕ) (e : Bool) → b < 2 → one e ≡ c → d ≡ min b c → (d == 1) ≡ ((b == 1) && e)
intersection_bit zero c d e low f g = let k : d ≡ 0 = omega arith in rw k refl
intersection_bit (suc zero) c d true low f g = let k : d ≡ 1 = omega arith in rw k refl
intersection_bit (suc zero) c d false low f g = let k : d ≡ 0 = omega arith in rw k refl
intersection_bit (suc (suc b)) c d e low f g = absurd (omega arith)

-- k is m without the variables of b
difference_word : (k m : ℕ) (b : List ℕ) → ((x : ℕ) → x < VARIABLES → bit_at k x ≡ min (bit_at m x) (1 - has_bit x b))
    → mask_variables k ≡ difference (mask_variables m) b
unfolding mask_variables
difference_word k m b h =
    filter_twice (λ x. not (member x b)) (λ x. bit_at m x == 1) (λ x. bit_at k x == 1) 0 VARIABLES
    (λ x low. difference_bit (bit_at m x) (has_bit x b) (bit_at k x) (member x b) (bit_at-lt m x) refl
    (h x (omega arith)))

intersection_word : (k m : ℕ) (b : List ℕ) → ((x : ℕ) → x < VARIABLES → bit_at k x ≡ min (bit_at m x) (has_bit x b))
    → mask_variables k ≡ intersection (mask_variables m) b
unfolding mask_variables
intersection_word k m b h =
    filter_twice (λ x. member x b) (λ x. bit_at m x == 1) (λ x. bit_at k x == 1) 0 VARIABLES
    (λ x low. intersection_bit (bit_at m x) (has_bit x b) (bit_at k x) (member x b) (bit_at-lt m x) refl
    (h x (omega arith)))

pub word_difference : (m n : ℕ) (a b : List ℕ) → mask_variables m ≡ a → mask_variables n ≡ b → m < 2 ^ VARIABLES
    → n < 2 ^ VARIABLES → mask_variables (bit_and m (2 ^ VARIABLES - 1 - n)) ≡ difference a b
word_difference m n a b e f fits_m fits_n =
    rw (← e) (difference_word (bit_and m (2 ^ VARIABLES - 1 - n)) m b
    (λ x low. omega (
      arith,
      bit_at_and m (2 ^ VARIABLES - 1 - n) x,
      bit_at_not word n x fits_n low,
      sym
          (ap (λ k. has_bit x k) f) ∙ has_variables x n fits_n,
    )))

pub word_intersection : (m n : ℕ) (a b : List ℕ) → mask_variables m ≡ a → mask_variables n ≡ b → m < 2 ^ VARIABLES
    → n < 2 ^ VARIABLES → mask_variables (bit_and m n) ≡ intersection a b
word_intersection m n a b e f fits_m fits_n =
    rw (← e) (intersection_word (bit_and m n) m b
    (λ x low. omega (arith, bit_at_and m n x, sym (ap (λ k. has_bit x k) f) ∙ has_variables x n fits_n)))

pub word_without : (m v : ℕ) (a : List ℕ) → mask_variables m ≡ a → m < 2 ^ VARIABLES → v < VARIABLES
    → mask_variables (bit_and m (2 ^ VARIABLES - 1 - 1 * 2 ^ v % 2 ^ VARIABLES)) ≡ difference a (v ∷ [])
word_without m v a e fits within =
    rw (← e) (difference_word (bit_and m (2 ^ VARIABLES - 1 - 1 * 2 ^ v % 2 ^ VARIABLES)) m (v ∷ [])
    (λ x low.
    elim (cases_eq x v) [
      | inl same ↦ rw same (omega (arith, bit_at_clear_same word m v within, has_here v v [] refl))
      | inr apart ↦ omega (arith, bit_at_clear_other word m v within x low apart, has_other x v [] apart, bit_at-lt m x)
    ]))

-- ---- union

pub word_fits : (m n : ℕ) → m < 2 ^ VARIABLES → n < 2 ^ VARIABLES → bit_or m n < 2 ^ VARIABLES
word_fits m n h i = or_lt VARIABLES m n h i

pub word_insert_fits : (m v : ℕ) → m < 2 ^ VARIABLES → bit_or m (1 * 2 ^ v % 2 ^ VARIABLES) < 2 ^ VARIABLES
word_insert_fits m v h = or_lt VARIABLES m (1 * 2 ^ v % 2 ^ VARIABLES) h (omega arith)

or_test : (a b c : Bool) → one c ≡ max (one a) (one b) → c ≡ (a || b)
or_test true true c h = same_one c true h
or_test true false c h = same_one c true h
or_test false true c h = same_one c true h
or_test false false c h = same_one c false h

pub word_union : (m n : ℕ) (a b : List ℕ) → mask_variables m ≡ a → mask_variables n ≡ b → m < 2 ^ VARIABLES
    → n < 2 ^ VARIABLES → (x : ℕ) → member x (mask_variables (bit_or m n)) ≡ (member x a || member x b)
word_union m n a b e f fits_m fits_n x =
    or_test (member x a) (member x b) (member x (mask_variables (bit_or m n)))
    (omega (
      arith,
      has_variables x (bit_or m n) (word_fits m n fits_m fits_n),
      bit_at_or m n x,
      sym
          (ap (λ k. has_bit x k) e) ∙ has_variables x m fits_m,
      sym (ap (λ k. has_bit x k) f) ∙ has_variables x n fits_n,
    ))

pub word_insert : (m v : ℕ) (a : List ℕ) → mask_variables m ≡ a → m < 2 ^ VARIABLES → v < VARIABLES → (x : ℕ)
    → member x (mask_variables (bit_or m (1 * 2 ^ v % 2 ^ VARIABLES))) ≡ ((x == v) || member x a)
word_insert m v a e fits within x =
    let k = bit_or m (1 * 2 ^ v % 2 ^ VARIABLES) in
    let of_k : has_bit x (mask_variables k) ≡ bit_at k x = has_variables x k (word_insert_fits m v fits) in
    let of_a : has_bit x a ≡ bit_at m x = sym (ap (λ l. has_bit x l) e) ∙ has_variables x m fits in
    same_one (member x (mask_variables k)) (member x (v ∷ a))
    (elim (cases_eq x v) [
      | inl same ↦
          let b : bit_at k x ≡ 1 = rw same (bit_at_set_same word m v within) in
          of_k ∙ b ∙ sym (has_here x v a same)
      | inr apart ↦ of_k ∙ bit_at_set_other word m v within x apart ∙ sym of_a ∙ sym (has_other x v a apart)
    ])

-- ---- how many, and the lowest

step_length : (d x : ℕ) (l : List ℕ) → d < 2 → length (cond (d == 1) (x ∷ l) l) ≡ d + length l
step_length zero x l low = omega arith
step_length (suc zero) x l low = omega arith
step_length (suc (suc d)) x l low = absurd (omega arith)

count_from : (d a m n : ℕ) → m ≡ n / 2 ^ a → m < 2 ^ d → ones m
    ≡ length (filter (λ x. bit_at n x == 1) (range_with_len a d))
unfolding ones
count_from zero a m n e fits =
    let none : m ≡ 0 = omega arith in
    rw none refl
count_from (suc d) a m n e fits =
    let half : m / 2 ≡ n / 2 ^ (a + 1) = ap (λ (k : ℕ). k / 2) e ∙ shr-shr n a 1 in
    let low : m % 2 ≡ bit_at n a = ap (λ (k : ℕ). k % 2) e in
    let rest = count_from d (a + 1) (m / 2) n half (omega (arith, pow-suc 2 d)) in
    omega (
      arith,
      ones_step m,
      step_length (bit_at n a) a (filter (λ x. bit_at n x == 1) (range_with_len (a + 1) d))
          (bit_at-lt n a),
    )

pub word_length : (n : ℕ) (l : List ℕ) → mask_variables n ≡ l → n < 2 ^ VARIABLES → ones n ≡ length l
unfolding mask_variables
word_length n l e fits = count_from VARIABLES 0 n n (sym (div-one n)) fits ∙ ap length e

-- a filter of a range that begins with k numbers that don't pass
pass_over : (p : ℕ → Bool) (a k n m : ℕ) → m ≡ k + n → ((x : ℕ) → a ≤ x → x < a + k → p x ≡ false)
    → filter p (range_with_len a m) ≡ filter p (range_with_len (a + k) n)
pass_over p a zero n m e h =
    let f : m ≡ n = omega arith in
    let g : a + 0 ≡ a = omega arith in
    rw (f, g) refl
pass_over p a (suc k) n m e h =
    let f : m ≡ suc (k + n) = omega arith in
    let g : a + suc k ≡ a + 1 + k = omega arith in
    rw (f, h a (omega arith) (omega arith), g)
    (pass_over p (a + 1) k n (k + n) refl (λ x i j. h x (omega arith) (omega arith)))

filter_alike : (p q : ℕ → Bool) (a n : ℕ) → ((x : ℕ) → a ≤ x → p x ≡ q x) → filter p (range_with_len a n)
    ≡ filter q (range_with_len a n)
filter_alike p q a zero h = refl
filter_alike p q a (suc n) h = rw (h a (omega arith), filter_alike p q (a + 1) n (λ x i. h x (omega arith))) refl

-- the lowest variable t, and the word k without it
split_at_lowest : (n k t : ℕ) → t < VARIABLES → bit_at n t ≡ 1 → ((x : ℕ) → x < t → bit_at n x ≡ 0) → bit_at k t ≡ 0
    → ((x : ℕ) → x < VARIABLES → x ≢ t → bit_at k x ≡ bit_at n x) → n < 2 ^ VARIABLES → k < 2 ^ VARIABLES
    → mask_variables n ≡ t ∷ mask_variables k
unfolding mask_variables
split_at_lowest n k t within here below gone others fits_n fits_k =
    let p : ℕ → Bool = λ x. bit_at n x == 1 in
    let q : ℕ → Bool = λ x. bit_at k x == 1 in
    let room : VARIABLES ≡ t + suc (VARIABLES - 1 - t) = omega arith in
    let room' : VARIABLES ≡ suc t + (VARIABLES - 1 - t) = omega arith in
    let start : filter p (range_with_len 0 VARIABLES)
    ≡ filter p (range_with_len (0 + t) (suc (VARIABLES - 1 - t))) = pass_over p 0 t (suc (VARIABLES - 1 - t))
    VARIABLES room (λ x i j. ap (λ (d : ℕ). d == 1) (below x (omega arith))) in
    let after : filter q (range_with_len 0 VARIABLES)
    ≡ filter q (range_with_len (0 + suc t) (VARIABLES - 1 - t)) = pass_over q 0 (suc t) (VARIABLES - 1 - t)
    VARIABLES room' (λ x i j. ap (λ (d : ℕ). d == 1) (gone_at x (omega arith))) in
    let from_t : 0 + t ≡ t = omega arith in
    let from_next : 0 + suc t ≡ t + 1 = omega arith in
    start ∙ ap (λ (a : ℕ). filter p (range_with_len a (suc (VARIABLES - 1 - t)))) from_t ∙ here_is
    ∙ ap (λ (l : List ℕ). t ∷ l)
    (sym (after ∙ ap (λ (a : ℕ). filter q (range_with_len a (VARIABLES - 1 - t))) from_next))
  where
    gone_at : (x : ℕ) → x ≤ t → bit_at k x ≡ 0
    gone_at x i = elim (cases_eq x t)
        [ inl same ↦ rw same gone | inr apart ↦ others x (omega arith) apart ∙ below x (omega arith) ]

    bits_same : (x : ℕ) → t + 1 ≤ x → bit_at n x ≡ bit_at k x
    bits_same x i =
        elim (cases_lt x VARIABLES) [
          | inl low ↦ sym (others x low (omega arith))
          | inr high ↦ bit_at_above n VARIABLES x fits_n high ∙ sym (bit_at_above k VARIABLES x fits_k high)
        ]

    here_is : filter (λ x. bit_at n x == 1) (range_with_len t (suc (VARIABLES - 1 - t)))
        ≡ t ∷ filter (λ x. bit_at k x == 1) (range_with_len (t + 1) (VARIABLES - 1 - t))
    here_is =
        rw here (ap (λ (l : List ℕ). t ∷ l)
        (filter_alike (λ x. bit_at n x == 1) (λ x. bit_at k x == 1) (t + 1) (VARIABLES - 1 - t)
        (λ x i. ap (λ (d : ℕ). d == 1) (bits_same x i))))

pub word_split : (n t : ℕ) (l : List ℕ) → mask_variables n ≡ l → n < 2 ^ VARIABLES → 0 < n
    → t ≡ trailing_zeros word n → l
    ≡ t ∷ mask_variables (bit_and n (2 ^ VARIABLES - 1 - 1 * 2 ^ t % 2 ^ VARIABLES))
word_split n t l e fits some is =
    let lowest = bit_at-trailing_zeros word n some fits in
    let within : t < VARIABLES = rw is lowest.0 in
    let k = bit_and n (2 ^ VARIABLES - 1 - 1 * 2 ^ t % 2 ^ VARIABLES) in
    sym e ∙ split_at_lowest n k t within (rw is lowest.1) (λ x i. lowest.2 x (rw (← is) i))
    (bit_at_clear_same word n t within) (bit_at_clear_other word n t within) fits
    (lt_of_le_of_lt (and_le_l n (2 ^ VARIABLES - 1 - 1 * 2 ^ t % 2 ^ VARIABLES)) fits)

pub word_first : (n t : ℕ) (l : List ℕ) → mask_variables n ≡ l → n < 2 ^ VARIABLES → 0 < n → t ≡ trailing_zeros word n
    → Some t ≡ slice_get l 0
word_first n t l e fits some is = rw (word_split n t l e fits some is) refl

pub word_none : (n : ℕ) (l : List ℕ) → mask_variables n ≡ l → n ≡ 0 → l ≡ []
word_none n l e none = sym e ∙ none_of n none

-- ---- rising order

range_rises : (a n : ℕ) → IsStrictlyIncreasing (range_with_len a n)
range_rises a n k within =
    let l = length-range_with_len a n in
    omega (arith, get_or-range_with_len a n k 0 (omega arith), get_or-range_with_len a n (k + 1) 0 (omega arith))

range_below : (a n b : ℕ) → a + n ≤ b → All (λ x. x < b) (range_with_len a n)
range_below a n b low k d within =
    let l = length-range_with_len a n in
    omega (arith, get_or-range_with_len a n k d (omega arith))

pub word_rises : (n : ℕ) (l : List ℕ) → mask_variables n ≡ l → IsStrictlyIncreasing l
unfolding mask_variables
word_rises n l e = rw (← e)
    (IsStrictlyIncreasing-filter (λ x. bit_at n x == 1) (range_with_len 0 VARIABLES) (range_rises 0 VARIABLES))

pub word_below : (n : ℕ) (l : List ℕ) → mask_variables n ≡ l → All (λ x. x < VARIABLES) l
unfolding mask_variables
word_below n l e = rw (← e)
    (All-filter (λ x. bit_at n x == 1) (λ x. x < VARIABLES) (range_with_len 0 VARIABLES)
    (range_below 0 VARIABLES VARIABLES (omega arith)))
