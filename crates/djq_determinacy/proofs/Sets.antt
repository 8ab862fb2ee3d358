-- Lists of different elements that have the same ones are each other in another order.
use Rattle.std.specs.Prelude.{List, [], ◌∷◌, ◌≡◌, ◌⊎◌, ◌++◌, ◌≤◌, AllPairs, Contains, IsPermutation, length}
use Rattle.std.proofs.Common.{refl, sym, ap, subst, inl, inr, arith, length-append}
use Rattle.std.proofs.lemmas.List.Elements.{All-contains, Contains-append_left, Contains-append_right, Contains-append_cases}
use Rattle.std.proofs.lemmas.List.Sorted.{IsPermutation-refl, IsPermutation-cons, IsPermutation-trans, IsPermutation-sym, IsPermutation-middle}
use Rattle.std.proofs.lemmas.List.Kept.{AllPairs-cons}
use Rattle.djq_answer_laws.proofs.Lists.{nothing_there, first_or_later, first_there, later_there, pairs_head, pairs_tail, hold_each}

-- no two are equal
abbrev pub Apart : {A : Type 0} → List A → Type 0
Apart xs = AllPairs (λ a b. a ≡ b → ⊥) xs

abbrev pub AreAmong : {A : Type 0} → List A → List A → Type 0
AreAmong {A = A} xs ys = (x : A) → Contains xs x → Contains ys x

-- a list with one of its elements between the others
record Around {A : Type 0} (ys : List A) (x : A) : Type 0 where
  front : List A
  back : List A
  parts : ys ≡ front ++ x ∷ back

around : {A : Type 0} (ys : List A) (x : A) → Contains ys x → Around ys x
around [] x there = absurd (nothing_there x there)
around (y ∷ ys) x there = by (first_or_later y ys x there) (around ys x)
  where
    by : (y ≡ x) ⊎ Contains ys x → (Contains ys x → Around ys x) → Around (y ∷ ys) x
    by (inl same) more = record { front = []; back = ys; parts = ap (λ z. z ∷ ys) same }
    by (inr later) more =
        let a = more later in record { front = y ∷ a.front; back = a.back; parts = ap (λ zs. y ∷ zs) a.parts }

-- the others
left_over : {A : Type 0} (x : A) (xs ys : List A) (a : Around ys x) → Apart (x ∷ xs) → AreAmong (x ∷ xs) ys
    → AreAmong xs (a.front ++ a.back)
left_over x xs ys a apart among t there =
    by (Contains-append_cases a.front (x ∷ a.back) t
    (subst (λ zs. Contains zs t) a.parts (among t (later_there x xs t there))))
  where
    behind : (x ≡ t) ⊎ Contains a.back t → Contains (a.front ++ a.back) t
    behind (inl same) =
        absurd (All-contains (λ b. x ≡ b → ⊥) xs t (pairs_head (λ a b. a ≡ b → ⊥) x xs apart) there same)
    behind (inr later) = Contains-append_right a.front a.back t later

    by : Contains a.front t ⊎ Contains (x ∷ a.back) t → Contains (a.front ++ a.back) t
    by (inl before) = Contains-append_left a.front a.back t before
    by (inr later) = behind (first_or_later x a.back t later)

pub no_more : {A : Type 0} (xs ys : List A) → Apart xs → AreAmong xs ys → length xs ≤ length ys
no_more [] ys apart among = omega arith
no_more (x ∷ xs) ys apart among =
    let a = around ys x (among x (first_there x xs x refl)) in
    let less = no_more xs (a.front ++ a.back) (pairs_tail (λ a b. a ≡ b → ⊥) x xs apart) (left_over x xs ys a apart among) in
    let whole = ap length a.parts in
    omega (arith, less, whole, length-append a.front a.back, length-append a.front (x ∷ a.back))

reordered : {A : Type 0} (xs ys : List A) → Apart xs → AreAmong xs ys → length ys ≤ length xs → IsPermutation xs ys
reordered [] [] apart among few = IsPermutation-refl []
reordered [] (y ∷ ys) apart among few = absurd (omega (arith, few))
reordered (x ∷ xs) ys apart among few =
    let a = around ys x (among x (first_there x xs x refl)) in
    let whole = ap length a.parts in
    let rest = reordered xs (a.front ++ a.back) (pairs_tail (λ a b. a ≡ b → ⊥) x xs apart) (left_over x xs ys a apart among)
    (omega (arith, few, whole, length-append a.front a.back, length-append a.front (x ∷ a.back))) in
    subst (λ zs. IsPermutation (x ∷ xs) zs) (sym a.parts)
    (IsPermutation-trans (x ∷ xs) (x ∷ (a.front ++ a.back)) (a.front ++ x ∷ a.back)
    (IsPermutation-cons x xs (a.front ++ a.back) rest)
    (IsPermutation-sym (a.front ++ x ∷ a.back) (x ∷ (a.front ++ a.back)) (IsPermutation-middle a.front x a.back)))

pub same_set : {A : Type 0} (xs ys : List A) → Apart xs → Apart ys → AreAmong xs ys → AreAmong ys xs → IsPermutation xs ys
same_set xs ys apart apart' among among' = reordered xs ys apart among (no_more ys xs apart' among')

-- what stands in front of others is apart from them
pub apart_behind : {A : Type 0} (xs ys : List A) → Apart (xs ++ ys) → Apart ys
apart_behind [] ys apart = apart
apart_behind (x ∷ xs) ys apart = apart_behind xs ys (pairs_tail (λ a b. a ≡ b → ⊥) x (xs ++ ys) apart)

pub apart_from : {A : Type 0} (xs ys : List A) → Apart (xs ++ ys) → (t : A) → Contains xs t → Contains ys t → ⊥
apart_from [] ys apart t there there' = nothing_there t there
apart_from (x ∷ xs) ys apart t there there' =
    by (first_or_later x xs t there) (λ later. apart_from xs ys (pairs_tail (λ a b. a ≡ b → ⊥) x (xs ++ ys) apart) t later there')
  where
    by : (x ≡ t) ⊎ Contains xs t → (Contains xs t → ⊥) → ⊥
    by (inl same) more = All-contains (λ b. x ≡ b → ⊥) (xs ++ ys) t (pairs_head (λ a b. a ≡ b → ⊥) x (xs ++ ys) apart)
        (Contains-append_right xs ys t there') same
    by (inr later) more = more later

-- one more that isn't among others
pub apart_more : {A : Type 0} (x : A) (xs : List A) → (Contains xs x → ⊥) → Apart xs → Apart (x ∷ xs)
apart_more x xs none apart = AllPairs-cons (λ a b. a ≡ b → ⊥) x xs
    (hold_each (λ b. x ≡ b → ⊥) xs (λ y there same. none (subst (λ z. Contains xs z) (sym same) there))) apart
