-- How a list of texts in use changes, and that no text gets two numbers.
use Rattle.std.proofs.Common.{◌≡◌, ◌≢◌, ℕ, zero, suc, ◌<◌, ◌≤◌, List, [], ◌∷◌, ◌++◌, length, Option, Some, None}
use Rattle.std.proofs.Common.{refl, sym, ◌∙◌, subst, arith, inl, inr, ap, slice_set, slice_index_or, get_or-set_same, get_or-set_other}
use Rattle.std.proofs.lemmas.Option.{same_Some}
use Rattle.std.proofs.lemmas.Bool.{cases_eq}
use Rattle.djq_texts.specs.Known.{Known, known_at, HasNumber, HasNoNumber, IsOneToOne, Sets}

-- what has a number is one that was given
pub known_within : (known : List (Option Known)) (n : ℕ) (k : Known) → known_at known n ≡ Some k → n < length known
known_within [] n k h = absurd cc
known_within (x ∷ known) zero k h = omega arith
known_within (x ∷ known) (suc n) k h = omega (arith, known_within known n k h)

-- nothing has a number that was never given
pub beyond : (known : List (Option Known)) (n : ℕ) → length known ≤ n → known_at known n ≡ None
beyond [] n h = refl
beyond (x ∷ known) zero h = absurd (omega (arith, h))
beyond (x ∷ known) (suc n) h = beyond known n (omega (arith, h))

at_default : (known : List (Option Known)) (n : ℕ) (d : Option Known) → n < length known
    → slice_index_or known n d ≡ known_at known n
at_default [] n d h = absurd (omega (arith, h))
at_default (x ∷ known) zero d h = refl
at_default (x ∷ known) (suc n) d h = at_default known n d (omega (arith, h))

-- what was read at a number is what has it
pub read_known : (known : List (Option Known)) (n : ℕ) (o : Option Known) → n < length known
    → o ≡ slice_index_or known n o → known_at known n ≡ o
read_known known n o within read = sym (read ∙ at_default known n o within)

pub last_known : (known : List (Option Known)) (o : Option Known) → known_at (known ++ o ∷ []) (length known) ≡ o
last_known [] o = refl
last_known (x ∷ known) o = last_known known o

beyond_more : (known : List (Option Known)) (o : Option Known) (m : ℕ) → m ≢ length known
    → known_at (known ++ o ∷ []) m ≡ known_at known m
beyond_more [] o zero h = absurd (h refl)
beyond_more [] o (suc m) h = refl
beyond_more (x ∷ known) o zero h = refl
beyond_more (x ∷ known) o (suc m) h = beyond_more known o m (λ same. h (omega (arith, same)))

pub set_sets : (known : List (Option Known)) (n : ℕ) (o : Option Known) → n < length known
    → Sets known n o (slice_set known n o)
set_sets known n o h = record {
  here = get_or-set_same known n o None h;
  others = λ m other. get_or-set_other known n m o None other;
}

pub append_sets : (known : List (Option Known)) (o : Option Known) → Sets known (length known) o (known ++ o ∷ [])
append_sets known o = record {
  here = last_known known o;
  others = λ m other. beyond_more known o m other;
}

-- ---- No text has two numbers.

-- what has another number had it before
before_too : (old new : List (Option Known)) (n : ℕ) (o : Option Known) (m : ℕ) (text : List ℕ) → Sets old n o new
    → m ≢ n → HasNumber new m text → HasNumber old m text
before_too old new n o m text s other h = (h.0, sym (s.others m other) ∙ h.1)

-- the text of a number
same_text : (known : List (Option Known)) (n : ℕ) (k : Known) (text : List ℕ) → known_at known n ≡ Some k
    → HasNumber known n text → k.bytes ≡ text
same_text known n k text h num = ap (λ (e : Known). e.bytes)
    (same_Some k (record { bytes = text; uses = num.0 }) (sym h ∙ num.1))

-- a text goes
pub one_less : (old new : List (Option Known)) (n : ℕ) → Sets old n None new → IsOneToOne old → IsOneToOne new
one_less old new n s one = λ text i j hi hj. one text i j (earlier text i hi) (earlier text j hj)
  where
    earlier : (text : List ℕ) (i : ℕ) → HasNumber new i text → HasNumber old i text
    earlier text i h = elim (cases_eq i n) [
      | inl same ↦
          let none : known_at new i ≡ None = ap (λ (m : ℕ). known_at new m) same ∙ s.here in
          let some : known_at new i ≡ Some (record { bytes = text; uses = h.0 }) = h.1 in
          absurd cc
      | inr other ↦ before_too old new n None i text s other h
    ]

-- a text's uses change
pub one_same : (old new : List (Option Known)) (n : ℕ) (k : Known) (uses : ℕ) → known_at old n ≡ Some k
    → Sets old n (Some (record { bytes = k.bytes; uses = uses })) new → IsOneToOne old → IsOneToOne new
one_same old new n k uses h s one = λ text i j hi hj. one text i j (earlier text i hi) (earlier text j hj)
  where
    earlier : (text : List ℕ) (i : ℕ) → HasNumber new i text → HasNumber old i text
    earlier text i num = elim (cases_eq i n) [
      | inl same ↦
          let bytes = same_text new n (record { bytes = k.bytes; uses = uses }) text s.here
          (subst (λ (m : ℕ). HasNumber new m text) same num) in
          subst (λ (m : ℕ). HasNumber old m text) (sym same)
          (subst (λ (t : List ℕ). HasNumber old n t) bytes (k.uses, h))
      | inr other ↦ before_too old new n (Some (record { bytes = k.bytes; uses = uses })) i text s other num
    ]

-- a text comes that was unknown
pub one_more : (old new : List (Option Known)) (n : ℕ) (bytes : List ℕ) (uses : ℕ) → HasNoNumber old bytes
    → Sets old n (Some (record { bytes = bytes; uses = uses })) new → IsOneToOne old → IsOneToOne new
one_more old new n bytes uses unknown s one = λ text i j hi hj. elim (cases_eq i n) [
  | inl here ↦ elim (cases_eq j n) [
    | inl there ↦ here ∙ sym there
    | inr other ↦ absurd (apart text i j here other hi hj)
  ]
  | inr other ↦ elim (cases_eq j n) [
    | inl here ↦ absurd (apart text j i here other hj hi)
    | inr apart_too ↦ one text i j
        (before_too old new n (Some (record { bytes = bytes; uses = uses })) i text s other hi)
        (before_too old new n (Some (record { bytes = bytes; uses = uses })) j text s apart_too hj)
  ]
]
  where
    apart : (text : List ℕ) (i j : ℕ) → i ≡ n → j ≢ n → HasNumber new i text → HasNumber new j text → ⊥
    apart text i j here other hi hj =
        let same = same_text new n (record { bytes = bytes; uses = uses }) text s.here
        (subst (λ (m : ℕ). HasNumber new m text) here hi) in
        unknown j (subst (λ (t : List ℕ). HasNumber old j t) (sym same)
        (before_too old new n (Some (record { bytes = bytes; uses = uses })) j text s other hj))
