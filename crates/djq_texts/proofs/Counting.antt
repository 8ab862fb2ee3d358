-- How many texts have a number from one on.
use Rattle.std.proofs.Common.{◌≡◌, ℕ, zero, suc, ◌+◌, ◌-◌, ◌<◌, ◌≤◌, List, [], ◌∷◌, ◌++◌, length, Option, Some, None, IsSome, inl, inr}
use Rattle.std.proofs.Common.{refl, sym, ◌∙◌, subst, arith, ap, slice_set, take}
use Rattle.std.proofs.lemmas.Bool.{cases_lt}
use Rattle.djq_texts.specs.Known.{Known, known_at, one_if_used, in_use_from, HasFree}
use Rattle.djq_texts.specs.Index.{quarter, AreFewBuckets}

-- a number before those that are counted counts nothing
pub counted_below : (b n : ℕ) (known : List (Option Known)) (o : Option Known) → n < b
    → in_use_from b (slice_set known n o) ≡ in_use_from b known
unfolding in_use_from
counted_below b n [] o h = refl
counted_below zero n (x ∷ known) o h = absurd (omega (arith, h))
counted_below (suc b) zero (x ∷ known) o h = refl
counted_below (suc b) (suc n) (x ∷ known) o h = counted_below b n known o (omega (arith, h))

-- one of those that are counted counts what it has
pub counted_here : (b n : ℕ) (known : List (Option Known)) (o : Option Known) → b ≤ n → n < length known
    → in_use_from b (slice_set known n o) + one_if_used (known_at known n) ≡ in_use_from b known + one_if_used o
unfolding in_use_from
counted_here b n [] o from h = absurd (omega (arith, h))
counted_here zero zero (x ∷ known) o from h = omega arith
counted_here zero (suc n) (x ∷ known) o from h =
    omega (arith, counted_here zero n known o (omega arith) (omega (arith, h)))
counted_here (suc b) zero (x ∷ known) o from h = absurd (omega (arith, from))
counted_here (suc b) (suc n) (x ∷ known) o from h = counted_here b n known o (omega (arith, from)) (omega (arith, h))

-- one more that comes before those that are counted, and one that comes among them
pub counted_before : (b : ℕ) (known : List (Option Known)) (o : Option Known) → length known < b
    → in_use_from b (known ++ o ∷ []) ≡ in_use_from b known
unfolding in_use_from
counted_before zero known o h = absurd (omega (arith, h))
counted_before (suc b) [] o h = refl
counted_before (suc b) (x ∷ known) o h = counted_before b known o (omega (arith, h))

pub counted_more : (b : ℕ) (known : List (Option Known)) (o : Option Known) → b ≤ length known
    → in_use_from b (known ++ o ∷ []) ≡ in_use_from b known + one_if_used o
unfolding in_use_from
counted_more zero [] o h = omega arith
counted_more (suc b) [] o h = absurd (omega (arith, h))
counted_more zero (x ∷ known) o h = omega (arith, counted_more zero known o (omega arith))
counted_more (suc b) (x ∷ known) o h = counted_more b known o (omega (arith, h))

-- no more are counted than there are numbers
pub counted_few : (b : ℕ) (known : List (Option Known)) → in_use_from b known ≤ length known
unfolding in_use_from
counted_few b [] = omega arith
counted_few zero (None ∷ known) = omega (arith, counted_few zero known)
counted_few zero (Some k ∷ known) = omega (arith, counted_few zero known)
counted_few (suc b) (x ∷ known) = omega (arith, counted_few b known)

-- the first of those that are counted, and the others
pub counted_next : (b : ℕ) (known : List (Option Known)) → b < length known
    → in_use_from b known ≡ one_if_used (known_at known b) + in_use_from (b + 1) known
unfolding in_use_from
counted_next b [] h = absurd (omega (arith, h))
counted_next zero (x ∷ known) h = refl
counted_next (suc b) (x ∷ known) h =
    let e : suc (b + 1) ≡ suc b + 1 = omega arith in
    subst (λ (m : ℕ). in_use_from b known ≡ one_if_used (known_at known b) + in_use_from m (x ∷ known)) e
    (counted_next b known (omega (arith, h)))

-- so a count goes on
pub counted_on : (b : ℕ) (known : List (Option Known)) (o : Option Known) (count one total : ℕ) → b < length known
    → known_at known b ≡ o → one ≡ one_if_used o → count + in_use_from b known ≡ total
    → (count + one) + in_use_from (b + 1) known ≡ total
counted_on b known o count one total within at is h =
    omega (arith, counted_next b known within, ap (λ (e : Option Known). one_if_used e) at, is, h)

-- behind the last number none is counted
pub counted_end : (b : ℕ) (known : List (Option Known)) → length known ≤ b → in_use_from b known ≡ 0
unfolding in_use_from
counted_end b [] h = refl
counted_end zero (x ∷ known) h = absurd (omega (arith, h))
counted_end (suc b) (x ∷ known) h = counted_end b known (omega (arith, h))

-- where some are counted, one of these numbers is in use
pub record CountedOne (b : ℕ) (known : List (Option Known)) : Type 0 where
  pub number : ℕ
  pub from : b ≤ number
  pub used : IsSome (known_at known number)

pub counted_some : (b : ℕ) (known : List (Option Known)) → 0 < in_use_from b known → CountedOne b known
unfolding in_use_from
counted_some b [] h = absurd (omega (arith, h))
counted_some zero (Some k ∷ known) h = record { number = 0; from = omega arith; used = refl }
counted_some zero (None ∷ known) h =
    let one = counted_some zero known (omega (arith, h)) in
    record { number = suc one.number; from = omega arith; used = one.used }
counted_some (suc b) (x ∷ known) h =
    let one = counted_some b known h in
    record { number = suc one.number; from = omega (arith, one.from); used = one.used }

-- where one of them is in use, some are counted
pub counted_used : (b n : ℕ) (known : List (Option Known)) → b ≤ n → IsSome (known_at known n) → 0 < in_use_from b known
unfolding in_use_from
counted_used b n [] from h = absurd cc
counted_used zero zero (None ∷ known) from h = absurd cc
counted_used zero zero (Some k ∷ known) from h = omega arith
counted_used zero (suc n) (x ∷ known) from h = omega (arith, counted_used zero n known (omega arith) h)
counted_used (suc b) zero (x ∷ known) from h = absurd (omega (arith, from))
counted_used (suc b) (suc n) (x ∷ known) from h = counted_used b n known (omega (arith, from)) h

pub not_none : IsSome {T = Known} None → ⊥
not_none h = cc

-- where all numbers are in use, each is counted
pub counted_all : (known : List (Option Known)) → ((n : ℕ) → n < length known → IsSome (known_at known n))
    → in_use_from 0 known ≡ length known
unfolding in_use_from
counted_all [] h = refl
counted_all (None ∷ known) h = absurd (not_none (h 0 (omega arith)))
counted_all (Some k ∷ known) h = omega (arith, counted_all known (λ n within. h (suc n) (omega (arith, within))))

-- ---- Numbers that are free behind all that are in use are left out.

pub known_cut : (t n : ℕ) (known : List (Option Known)) → ((m : ℕ) → t ≤ m → known_at known m ≡ None)
    → known_at (take t known) n ≡ known_at known n
known_cut zero n known free = sym (free n (omega arith))
known_cut (suc t) n [] free = refl
known_cut (suc t) zero (x ∷ known) free = refl
known_cut (suc t) (suc n) (x ∷ known) free = known_cut t n known (λ m from. free (suc m) (omega (arith, from)))

counted_nothing : (b : ℕ) (known : List (Option Known)) → ((m : ℕ) → known_at known m ≡ None) → in_use_from b known ≡ 0
unfolding in_use_from
counted_nothing b [] free = refl
counted_nothing zero (None ∷ known) free = omega (arith, counted_nothing zero known (λ m. free (suc m)))
counted_nothing zero (Some k ∷ known) free = let none : Some k ≡ None = free 0 in absurd cc
counted_nothing (suc b) (x ∷ known) free = counted_nothing b known (λ m. free (suc m))

counted_none : (b : ℕ) → in_use_from b [] ≡ 0
unfolding in_use_from
counted_none b = refl

pub counted_cut : (b t : ℕ) (known : List (Option Known)) → ((m : ℕ) → t ≤ m → known_at known m ≡ None)
    → in_use_from b (take t known) ≡ in_use_from b known
unfolding in_use_from
counted_cut b zero known free = counted_none b ∙ sym (counted_nothing b known (λ m. free m (omega arith)))
counted_cut b (suc t) [] free = refl
counted_cut zero (suc t) (x ∷ known) free =
    omega (arith, counted_cut zero t known (λ m from. free (suc m) (omega (arith, from))))
counted_cut (suc b) (suc t) (x ∷ known) free = counted_cut b t known (λ m from. free (suc m) (omega (arith, from)))

pub one_used : (o : Option Known) → IsSome o → one_if_used o ≡ 1
one_used None h = absurd cc
one_used (Some k) h = refl

-- ---- How the counts change with one number.

-- what counts as much as before changes no count
pub counted_same : (b n : ℕ) (known : List (Option Known)) (o : Option Known) → n < length known
    → one_if_used o ≡ one_if_used (known_at known n) → in_use_from b (slice_set known n o) ≡ in_use_from b known
counted_same b n known o within same = elim (cases_lt n b) [
  | inl below ↦ counted_below b n known o below
  | inr from ↦ omega (arith, counted_here b n known o from within, same)
]

-- a number that is counted, or isn't, by where those begin that are counted
pub record Share (b n : ℕ) (one : ℕ) : Type 0 where
  pub low : n < b → one ≡ 0
  pub high : b ≤ n → one ≡ 1

pub counted_came : (b n : ℕ) (known : List (Option Known)) (k : Known) (one : ℕ) → n < length known
    → known_at known n ≡ None → Share b n one
    → in_use_from b (slice_set known n (Some k)) ≡ in_use_from b known + one
counted_came b n known k one within free s = elim (cases_lt n b) [
  | inl below ↦ omega (arith, counted_below b n known (Some k) below, s.low below)
  | inr from ↦ omega (
    arith,
    counted_here b n known (Some k) from within,
    ap (λ (e : Option Known). one_if_used e) free,
    s.high from,
  )
]

pub counted_went : (b n : ℕ) (known : List (Option Known)) (one : ℕ) → n < length known → IsSome (known_at known n)
    → Share b n one → in_use_from b (slice_set known n None) + one ≡ in_use_from b known
counted_went b n known one within used s = elim (cases_lt n b) [
  | inl below ↦ omega (arith, counted_below b n known None below, s.low below)
  | inr from ↦ omega (
    arith,
    counted_here b n known None from within,
    one_used (known_at known n) used,
    s.high from,
  )
]

pub counted_next_came : (b : ℕ) (known : List (Option Known)) (k : Known) (one : ℕ) → Share b (length known) one
    → in_use_from b (known ++ Some k ∷ []) ≡ in_use_from b known + one
counted_next_came b known k one s = elim (cases_lt (length known) b) [
  | inl below ↦ omega (arith, counted_before b known (Some k) below, s.low below)
  | inr from ↦ omega (arith, counted_more b known (Some k) from, s.high from)
]

-- all are counted from the first on
pub share_all : (n : ℕ) → Share 0 n 1
share_all n = record { low = λ h. absurd (omega (arith, h)); high = λ h. refl }

-- ---- The buckets are few.

-- so many buckets are for the highest number that is in use
pub few_by_top : (known : List (Option Known)) (top buckets : ℕ) → ((m : ℕ) → top ≤ m → known_at known m ≡ None)
    → (0 < top → IsSome (known_at known (top - 1))) → AreFewBuckets buckets (top - quarter buckets)
    → AreFewBuckets buckets (in_use_from (quarter buckets) (take top known))
few_by_top known top buckets free used h = elim h [
  | inl few ↦ inl few
  | inr some ↦
      let from : quarter buckets ≤ top - 1 = omega (arith, some) in
      inr (omega (
        arith,
        counted_cut (quarter buckets) top known free,
        counted_used (quarter buckets) (top - 1) known from (used (omega (arith, some))),
      ))
]

-- where all numbers that have a place are in use, none of them is free
pub none_left : (known : List (Option Known)) → ((n : ℕ) → n < length known → IsSome (known_at known n)) → HasFree known → ⊥
none_left known full f = not_none (subst (λ (o : Option Known). IsSome o) f.2 (full f.0 f.1))
