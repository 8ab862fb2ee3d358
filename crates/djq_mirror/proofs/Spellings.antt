-- Numbers, values and names as they are printed, and how bytes are cut into them.
use Rattle.std.proofs.Common.{◌≡◌, ℕ, ◌^◌, ◌<◌, ◌≤◌, true, ◌&&◌, Option, Some, None, option_map, refl, sym, ap, ◌∙◌}
use Rattle.std.proofs.Common.{arith, ltb, inl, inr, zero, suc, ◌+◌, Bool, false, cond, List, [], ◌∷◌, ◌++◌, length}
use Rattle.std.proofs.Common.{get_or, take, drop, eqb, not, map, subst, append_assoc, length-append, ◌||◌, leb, codes}
use Rattle.std.specs.List.{list_all, flat_map}
use Rattle.std.specs.Fmt.{decimal}
use Rattle.std.proofs.lemmas.Bool.{and_parts, and_from, and_left, false_from_ne_true, le-ltb, lt-ltb, ltb-true}
use Rattle.std.proofs.lemmas.Bool.{cases_lt, cond-true, cond-false, eq-eqb, eqb-true, not-true, or_cases, ne_eqb}
use Rattle.std.proofs.lemmas.Bool.{leb-true, not_from_false, or_right}
use Rattle.std.proofs.lemmas.List.{append-nil, take_at, append_cancel_right, take-append-drop}
use Rattle.memchr.specs.Find.{IsFirstByte, is_byte}
use Rattle.std.specs.Prelude.{Vec, Result, Ok, Err, IsErr}
use Rattle.bytes.specs.Filled.{Filled}
use Rattle.std.proofs.lemmas.List.Folds.{list_all-append}
use Rattle.djq_model.specs.declared.value.Value.{Value}
use Rattle.djq_model.specs.Data.{Bytes, bytes_eq, Tuple}
use Rattle.djq_model.specs.Equality.{bytes_eq-decides}
use Rattle.djq_model.specs.Parts.{before, behind, with_first}
use Rattle.djq_value.specs.Literal.{is_digit, natural_of, is_small_value, is_lower, is_name}
use Rattle.djq_value.specs.Number.{capped}
use Rattle.djq_value.specs.Output.{Puts}
use Rattle.djq_value.specs.ReadValue.{literal_at}
use Rattle.djq_value.specs.Token.{may_end}
use Rattle.djq_value.specs.ValueText.{value_text}
use Rattle.djq_value.proofs.Literals.{natural_written, written, read_back}
use Rattle.djq_protocol.specs.Reply.{line, cells_text}
use Rattle.djq_mirror.specs.Reading.{is_printed_number, number_as, is_edge_word, is_label_word}
use Rattle.djq_mirror.specs.Parts.{parts, parts_left}
use Rattle.djq_mirror.specs.Acting.{AppendsText}
use Rattle.djq_mirror.specs.Replies.{are_cells, is_cell, is_text, is_label, is_printed_variable, joined, label_of}
use Rattle.djq_mirror.specs.Cells.{are_cells_in, behind_cell, behind_value, cells_within, or_false}

-- ---- Numbers as they are printed.

pub digits_written : (n : ℕ) → n < 2 ^ 64 → list_all is_digit (decimal n) ≡ true
digits_written n h = (written n h).digits

-- the two sides of equal bytes
pub same_bytes : (xs ys : Bytes) → bytes_eq xs ys ≡ true → xs ≡ ys
same_bytes xs ys h = (bytes_eq-decides xs ys).0 h

pub bytes_are : (xs ys : Bytes) → xs ≡ ys → bytes_eq xs ys ≡ true
bytes_are xs ys e = (bytes_eq-decides xs ys).1 e

-- a number that is printed is one of the words that are numbers
pub number_printed : (n : ℕ) → n < 2 ^ 64 → is_printed_number (decimal n) ≡ true
number_printed n h =
    ap (number_as (decimal n)) (natural_written n h)
    ∙ and_from _ _ (lt-ltb n 18446744073709551616 (omega (arith, h))) (bytes_are (decimal n) (decimal n) refl)

-- and each such word is a number that is printed
pub number_is : (w : Bytes) → is_printed_number w ≡ true → (n : ℕ) × (n < 2 ^ 64) × (w ≡ decimal n)
number_is w h = by (natural_of w) h
  where
    by : (o : Option ℕ) → number_as w o ≡ true → (n : ℕ) × (n < 2 ^ 64) × (w ≡ decimal n)
    by None e = absurd (cc)
    by (Some n) e =
        let parts = and_parts (ltb n 18446744073709551616) (bytes_eq w (decimal n)) e in
        (n, omega (arith, ltb-true n 18446744073709551616 parts.0), same_bytes w (decimal n) parts.1)

-- what is printed of the number that was read tells whether the word is one
pub number_read : (w : Bytes) (n : ℕ) → Some n ≡ option_map capped (natural_of w)
    → bytes_eq w (decimal n) ≡ is_printed_number w
number_read w n e = by (natural_of w) refl e
  where
    above : (m : ℕ) → natural_of w ≡ Some m → 18446744073709551616 ≤ m → n ≡ 18446744073709551615
        → bytes_eq w (decimal n) ≡ true → ⊥
    above m o h f t =
        let read : natural_of w ≡ Some n = ap natural_of (same_bytes w (decimal n) t)
        ∙ natural_written n (omega (arith, f)) in
        let same : m ≡ n = cc in
        absurd (omega (arith, same, f, h))

    by : (o : Option ℕ) → natural_of w ≡ o → Some n ≡ option_map capped o → bytes_eq w (decimal n) ≡ number_as w o
    by None o f = absurd (cc)
    by (Some m) o f =
        let is : n ≡ capped m = cc in
        elim (cases_lt m 18446744073709551616) [
          | inl low ↦
              let same : n ≡ m = omega (arith, is, low) in
              ap (λ k. bytes_eq w (decimal k)) same
              ∙ sym (ap (λ t. t && bytes_eq w (decimal m)) (lt-ltb m 18446744073709551616 low))
          | inr high ↦
              let top : n ≡ 18446744073709551615 = omega (arith, is, high) in
              false_from_ne_true (bytes_eq w (decimal n)) (above m o high top)
              ∙ sym (and_left (ltb m 18446744073709551616) (bytes_eq w (decimal m))
              (le-ltb m 18446744073709551616 high))
        ]

-- ---- How bytes are cut at a sign, and put together again.

-- where the first sign stands
found : (sign : ℕ) (xs : Bytes) (k : ℕ) → k < length xs → eqb (get_or xs k 0) sign ≡ true
    → ((j : ℕ) → j < k → eqb (get_or xs j 0) sign ≡ false)
    → (before sign xs ≡ take k xs) × (behind sign xs ≡ Some (drop (k + 1) xs))
found sign [] k within is first = absurd (omega (arith, within))
found sign (x ∷ xs) zero within is first = let here : eqb x sign ≡ true = is in (rw here refl, rw here refl)
found sign (x ∷ xs) (suc k) within is first =
    let here : eqb x sign ≡ false = first 0 (omega arith) in
    let rest = found sign xs k (omega (arith, within)) is (λ j less. first (suc j) (omega (arith, less))) in
    (rw here (ap (λ (ys : Bytes). x ∷ ys) rest.0), rw here (rest.1 ∙ ap (λ (n : ℕ). Some (drop n (x ∷ xs))) (more k)))
  where
    more : (n : ℕ) → suc (n + 1) ≡ suc n + 1
    more n = omega arith

-- no sign is there
none : (sign : ℕ) (xs : Bytes) → ((j : ℕ) → j < length xs → eqb (get_or xs j 0) sign ≡ false)
    → (before sign xs ≡ xs) × (behind sign xs ≡ None)
none sign [] other = (refl, refl)
none sign (x ∷ xs) other =
    let here : eqb x sign ≡ false = other 0 (omega arith) in
    let rest = none sign xs (λ j less. other (suc j) (omega (arith, less))) in
    (rw here (ap (λ (ys : Bytes). x ∷ ys) rest.0), rw here rest.1)

-- the same, as the search for a byte says it
pub split_first : (sign : ℕ) (xs : Bytes) (k : ℕ) → IsFirstByte (is_byte sign) xs (Some k)
    → (before sign xs ≡ take k xs) × (behind sign xs ≡ Some (drop (k + 1) xs))
split_first sign xs k h = found sign xs k h.0.high h.1
    (λ j less. false_from_ne_true (eqb (get_or xs j 0) sign) (h.0.before j (omega arith) less))

pub split_none : (sign : ℕ) (xs : Bytes) → IsFirstByte (is_byte sign) xs None → (before sign xs ≡ xs)
    × (behind sign xs ≡ None)
split_none sign xs h = none sign xs (λ j less. false_from_ne_true (eqb (get_or xs j 0) sign) (h j (omega arith) less))

-- the first part, and those behind it
pub first_part : (sign : ℕ) (bs : Bytes) → parts sign bs ≡ before sign bs ∷ parts_left sign (behind sign bs)
first_part sign [] = refl
first_part sign (b ∷ bs) = step (eqb b sign) (first_part sign bs)
  where
    step : (t : Bool) → parts sign bs ≡ before sign bs ∷ parts_left sign (behind sign bs)
        → cond t ([] ∷ parts sign bs) (with_first b (parts sign bs))
        ≡ cond t [] (b ∷ before sign bs) ∷ parts_left sign (cond t (Some bs) (behind sign bs))
    step true h = refl
    step false h = ap (λ (ps : List Bytes). with_first b ps) h

-- Bytes that lack a sign.

abbrev pub lacks : ℕ → Bytes → Bool
lacks sign p = list_all (λ b. not (eqb b sign)) p

pub before_front : (sign : ℕ) (p rest : Bytes) → lacks sign p ≡ true → before sign (p ++ sign ∷ rest) ≡ p
before_front sign [] rest h = cond-true _ _ _ (eq-eqb sign sign refl)
before_front sign (b ∷ p) rest h =
    let both = and_parts (not (eqb b sign)) (lacks sign p) h in
    cond-false _ _ _ (not-true (eqb b sign) both.0) ∙ ap (λ (ys : Bytes). b ∷ ys) (before_front sign p rest both.1)

pub before_last : (sign : ℕ) (p : Bytes) → lacks sign p ≡ true → before sign p ≡ p
before_last sign [] h = refl
before_last sign (b ∷ p) h =
    let both = and_parts (not (eqb b sign)) (lacks sign p) h in
    cond-false _ _ _ (not-true (eqb b sign) both.0) ∙ ap (λ (ys : Bytes). b ∷ ys) (before_last sign p both.1)

part_front : (sign : ℕ) (p rest : Bytes) → lacks sign p ≡ true → parts sign (p ++ sign ∷ rest) ≡ p ∷ parts sign rest
part_front sign [] rest h = cond-true _ _ _ (eq-eqb sign sign refl)
part_front sign (b ∷ p) rest h =
    let both = and_parts (not (eqb b sign)) (lacks sign p) h in
    cond-false _ _ _ (not-true (eqb b sign) both.0)
    ∙ ap (λ (ps : List Bytes). with_first b ps) (part_front sign p rest both.1)

part_last : (sign : ℕ) (p : Bytes) → lacks sign p ≡ true → parts sign p ≡ p ∷ []
part_last sign [] h = refl
part_last sign (b ∷ p) h =
    let both = and_parts (not (eqb b sign)) (lacks sign p) h in
    cond-false _ _ _ (not-true (eqb b sign) both.0)
    ∙ ap (λ (ps : List Bytes). with_first b ps) (part_last sign p both.1)

-- parts, each behind a sign
abbrev pub spaced : ℕ → List Bytes → Bytes
spaced sign ps = flat_map (λ p. sign ∷ p) ps

-- parts with signs between them are cut into them again
pub parts_spaced : (sign : ℕ) (p : Bytes) (ps : List Bytes) → lacks sign p ≡ true → list_all (lacks sign) ps ≡ true
    → parts sign (p ++ spaced sign ps) ≡ p ∷ ps
parts_spaced sign p [] h hs = ap (parts sign) (append-nil p) ∙ part_last sign p h
parts_spaced sign p (q ∷ qs) h hs =
    let both = and_parts (lacks sign q) (list_all (lacks sign) qs) hs in
    part_front sign p (q ++ spaced sign qs) h ∙ ap (λ (ps : List Bytes). p ∷ ps) (parts_spaced sign q qs both.0 both.1)

-- Bytes that were cut, together again.

abbrev pub glued : ℕ → List Bytes → Bytes
glued sign [] = []
glued sign (p ∷ ps) = p ++ spaced sign ps

first_glued : (sign b : ℕ) (ps : List Bytes) → glued sign (with_first b ps) ≡ b ∷ glued sign ps
first_glued sign b [] = refl
first_glued sign b (p ∷ ps) = refl

spaced_glued : (sign : ℕ) (ps : List Bytes) (p : Bytes) (qs : List Bytes) → ps ≡ p ∷ qs → spaced sign ps
    ≡ sign ∷ glued sign ps
spaced_glued sign ps p qs e = ap (spaced sign) e ∙ sym (ap (λ (rs : List Bytes). sign ∷ glued sign rs) e)

pub parts_back : (sign : ℕ) (bs : Bytes) → glued sign (parts sign bs) ≡ bs
parts_back sign [] = refl
parts_back sign (b ∷ bs) = step (eqb b sign) refl (parts_back sign bs)
  where
    step : (t : Bool) → eqb b sign ≡ t → glued sign (parts sign bs) ≡ bs
        → glued sign (cond t ([] ∷ parts sign bs) (with_first b (parts sign bs))) ≡ b ∷ bs
    step true e h =
        spaced_glued sign (parts sign bs) _ _ (first_part sign bs)
        ∙ ap (λ (ys : Bytes). sign ∷ ys) h ∙ ap (λ c. c ∷ bs) (sym (eqb-true b sign e))
    step false e h = first_glued sign b (parts sign bs) ∙ ap (λ (ys : Bytes). b ∷ ys) h

-- what is before a sign and what is behind it
abbrev pub with_behind : ℕ → Bytes → Option Bytes → Bytes
with_behind sign p None = p
with_behind sign p (Some rest) = p ++ sign ∷ rest

first_behind : (sign b : ℕ) (p : Bytes) (o : Option Bytes) → b ∷ with_behind sign p o ≡ with_behind sign (b ∷ p) o
first_behind sign b p None = refl
first_behind sign b p (Some rest) = refl

pub cut_back : (sign : ℕ) (bs : Bytes) → bs ≡ with_behind sign (before sign bs) (behind sign bs)
cut_back sign [] = refl
cut_back sign (b ∷ bs) = step (eqb b sign) refl (cut_back sign bs)
  where
    step : (t : Bool) → eqb b sign ≡ t → bs ≡ with_behind sign (before sign bs) (behind sign bs)
        → b ∷ bs ≡ with_behind sign (cond t [] (b ∷ before sign bs)) (cond t (Some bs) (behind sign bs))
    step true e h = ap (λ c. c ∷ bs) (eqb-true b sign e)
    step false e h = ap (λ (ys : Bytes). b ∷ ys) h ∙ first_behind sign b (before sign bs) (behind sign bs)

pub words_back : (sign : ℕ) (p : Bytes) (o : Option Bytes) → with_behind sign p o ≡ p ++ spaced sign (parts_left sign o)
words_back sign p None = sym (append-nil p)
words_back sign p (Some rest) =
    ap (λ (ys : Bytes). p ++ ys)
    (ap (λ (ys : Bytes). sign ∷ ys) (sym (parts_back sign rest))
    ∙ sym (spaced_glued sign (parts sign rest) _ _ (first_part sign rest)))

-- ---- How answers are written, one by one.

-- the lines of answers
abbrev pub answers_text : {A : Type 0} → List (Vec ℕ A) → Bytes
answers_text ks = flat_map (λ t. line (61 ∷ t)) (map (λ k. k.items) ks)

-- All but these answers were written.
pub record IsBegun {A : Type 0} (old now : Bytes) (all rest : List (Vec ℕ A)) : Type 0 where
  pub before : Bytes
  pub items : now ≡ old ++ before
  pub split : answers_text all ≡ before ++ answers_text rest

pub begun_front : {A : Type 0} (old now : Bytes) (all rest : List (Vec ℕ A)) → IsBegun old now all rest
    → take (length old) now ≡ old
begun_front old now all rest h = ap (take (length old)) h.items ∙ take_at old h.before (length old) refl

pub begun_all : {A : Type 0} (old now new text : Bytes) (all : List (Vec ℕ A)) → IsBegun old now all [] → new
    ≡ now ++ text
    → new ≡ old ++ (answers_text all ++ text)
begun_all old now new text all h e =
    e ∙ ap (λ (xs : Bytes). xs ++ text) h.items ∙ append_assoc old h.before text
    ∙ ap (λ (xs : Bytes). old ++ (xs ++ text)) (sym (h.split ∙ append-nil h.before))

-- what an error says of the output
pub adds_err : {A E : Type 0} (old text new : Bytes) (r : Result A E) → IsErr r → take (length old) new ≡ old
    → AppendsText old text r new
adds_err old text new (Ok a) e h = absurd (cc)
adds_err old text new (Err e) i h = h

-- a last piece behind all answers
pub end_added : {A B E : Type 0} (old : Bytes) (now new : Filled) (text : Bytes) (all rest : List (Vec ℕ A))
    (r : Result B E) → rest ≡ []
    → IsBegun old now.items all rest → Puts now new text r → AppendsText old (answers_text all ++ text) r new.items
end_added {A} old now new text all rest (Ok a) over h p =
    begun_all old now.items new.items text all (subst (λ (ks : List (Vec ℕ A)). IsBegun old now.items all ks) over h)
    p.items
end_added old now new text all rest (Err e) over h p = ap (take (length old)) p.items
    ∙ begun_front old now.items all rest h

-- ---- Values as they are printed are read from the bytes, and nothing else is.

-- a value in front of what is behind it
pub record IsFront (bs rest : Bytes) : Type 0 where
  pub value : Value
  pub cell : is_cell value ≡ true
  pub is : bs ≡ 32 ∷ (value_text value ++ rest)

value_front : (bs : Bytes) (o : Option (Value × Bytes)) (rest : Bytes) → behind_value bs o ≡ Some rest
    → IsFront (32 ∷ bs) rest
value_front bs None rest e = absurd (cc)
value_front bs (Some p) rest e = by (is_cell p.0 && bytes_eq (value_text p.0 ++ p.1) bs) refl e
  where
    by : (t : Bool) → (is_cell p.0 && bytes_eq (value_text p.0 ++ p.1) bs) ≡ t → cond t (Some p.1) None ≡ Some rest
        → IsFront (32 ∷ bs) rest
    by false h f = absurd (cc)
    by true h f =
        let both = and_parts (is_cell p.0) (bytes_eq (value_text p.0 ++ p.1) bs) h in
        let same : p.1 ≡ rest = cc in
        record {
          value = p.0;
          cell = both.0;
          is = ap (λ (r : Bytes). 32 ∷ r)
              (sym (same_bytes (value_text p.0 ++ p.1) bs both.1) ∙ ap (λ (r : Bytes). value_text p.0 ++ r) same);
        }

cell_front : (b : ℕ) (bs rest : Bytes) → behind_cell (b ∷ bs) ≡ Some rest → IsFront (b ∷ bs) rest
cell_front b bs rest e = by (eqb b 32) refl e
  where
    by : (t : Bool) → eqb b 32 ≡ t → cond t (behind_value bs (literal_at bs)) None ≡ Some rest → IsFront (b ∷ bs) rest
    by false h f = absurd (cc)
    by true h f =
        let front = value_front bs (literal_at bs) rest f in
        record { value = front.value; cell = front.cell; is = ap (λ c. c ∷ bs) (eqb-true b 32 h) ∙ front.is }

pub front_shorter : (bs rest : Bytes) → IsFront bs rest → length rest < length bs
front_shorter bs rest h = omega (arith, ap length h.is, length-append (value_text h.value) rest)

pub cell_shorter : (bs rest : Bytes) → behind_cell bs ≡ Some rest → length rest < length bs
cell_shorter [] rest e = absurd (cc)
cell_shorter (b ∷ bs) rest e = front_shorter (b ∷ bs) rest (cell_front b bs rest e)

-- any number that is large enough says the same
enough : (n m : ℕ) (bs : Bytes) → length bs ≤ n → length bs ≤ m → cells_within n bs ≡ cells_within m bs
enough n m [] h k = refl
enough zero m (b ∷ bs) h k = absurd (omega (arith, h))
enough (suc n) zero (b ∷ bs) h k = absurd (omega (arith, k))
enough (suc n) (suc m) (b ∷ bs) h k = by (λ rest. enough n m rest) (behind_cell (b ∷ bs)) refl
  where
    by : ((rest : Bytes) → length rest ≤ n → length rest ≤ m → cells_within n rest ≡ cells_within m rest)
        → (o : Option Bytes) → behind_cell (b ∷ bs) ≡ o → or_false (cells_within n) o ≡ or_false (cells_within m) o
    by more None e = refl
    by more (Some rest) e =
        let less : length rest < length (b ∷ bs) = cell_shorter (b ∷ bs) rest e in
        more rest (omega (arith, h, less)) (omega (arith, k, less))

pub cells_none : are_cells_in [] ≡ true
unfolding are_cells_in
cells_none = refl

pub cells_empty : (bs : Bytes) → length bs ≡ 0 → are_cells_in bs ≡ true
unfolding are_cells_in
cells_empty [] e = refl
cells_empty (b ∷ bs) e = absurd (omega (arith, e))

-- behind a value the others are looked at
pub cells_behind : (bs rest : Bytes) → behind_cell bs ≡ Some rest → are_cells_in bs ≡ are_cells_in rest
unfolding are_cells_in
cells_behind [] rest e = absurd (cc)
cells_behind (b ∷ bs) rest e =
    let less : length rest < length (b ∷ bs) = cell_shorter (b ∷ bs) rest e in
    ap (or_false (cells_within (length bs))) e
    ∙ enough (length bs) (length rest) rest (omega (arith, less)) (omega arith)

pub cells_fail : (bs : Bytes) → 0 < length bs → behind_cell bs ≡ None → are_cells_in bs ≡ false
unfolding are_cells_in
cells_fail [] some e = absurd (omega (arith, some))
cells_fail (b ∷ bs) some e = ap (or_false (cells_within (length bs))) e

pub ends_cells : (t : Tuple) → may_end (cells_text t) ≡ true
ends_cells [] = refl
ends_cells (v ∷ t) = refl

-- a value that is printed is read, with what is behind it
cell_read : (v : Value) (t : Tuple) → is_cell v ≡ true → behind_cell (cells_text (v ∷ t)) ≡ Some (cells_text t)
cell_read v t h =
    let small = (and_parts (is_small_value v) (is_text v) h).0 in
    let bs = value_text v ++ cells_text t in
    ap (behind_value bs) (read_back v (cells_text t) small (ends_cells t))
    ∙ cond-true _ _ _ (and_from (is_cell v) (bytes_eq bs bs) h (bytes_are bs bs refl))

-- values that are printed are read
pub cells_read : (t : Tuple) → are_cells t ≡ true → are_cells_in (cells_text t) ≡ true
cells_read [] h = cells_none
cells_read (v ∷ t) h =
    let both = and_parts (is_cell v) (are_cells t) h in
    cells_behind (cells_text (v ∷ t)) (cells_text t) (cell_read v t both.0) ∙ cells_read t both.1

-- what is read are values that are printed
pub record AreCells (bs : Bytes) : Type 0 where
  pub tuple : Tuple
  pub cells : are_cells tuple ≡ true
  pub is : bs ≡ cells_text tuple

within_cells : (n : ℕ) (bs : Bytes) → cells_within n bs ≡ true → AreCells bs
within_cells n [] h = record { tuple = []; cells = refl; is = refl }
within_cells zero (b ∷ bs) h = absurd (cc)
within_cells (suc n) (b ∷ bs) h = by (within_cells n) (behind_cell (b ∷ bs)) refl h
  where
    by : ((rest : Bytes) → cells_within n rest ≡ true → AreCells rest) → (o : Option Bytes) → behind_cell (b ∷ bs) ≡ o
        → or_false (cells_within n) o ≡ true → AreCells (b ∷ bs)
    by others None e f = absurd (cc)
    by others (Some rest) e f =
        let front = cell_front b bs rest e in
        let more = others rest f in
        record {
          tuple = front.value ∷ more.tuple;
          cells = and_from (is_cell front.value) (are_cells more.tuple) front.cell more.cells;
          is = front.is ∙ ap (λ (r : Bytes). 32 ∷ (value_text front.value ++ r)) more.is;
        }

pub cells_are : (bs : Bytes) → are_cells_in bs ≡ true → AreCells bs
unfolding are_cells_in
cells_are bs h = within_cells (length bs) bs h

-- What reading a literal says of a value as it is printed.

both_ways : (a b : Bool) → (a ≡ true → b ≡ true) → (b ≡ true → a ≡ true) → a ≡ b
both_ways true b h k = sym (h refl)
both_ways false true h k = k refl
both_ways false false h k = refl

-- a text in front of what is behind a piece is the piece
piece_is : (bytes text : Bytes) (n : ℕ) → bytes_eq (text ++ drop n bytes) bytes ≡ bytes_eq text (take n bytes)
piece_is bytes text n =
    both_ways (bytes_eq (text ++ drop n bytes) bytes) (bytes_eq text (take n bytes))
    (λ h. bytes_are text (take n bytes)
    (append_cancel_right text (take n bytes) (drop n bytes)
    (same_bytes (text ++ drop n bytes) bytes h ∙ sym (take-append-drop n bytes))))
    (λ h. bytes_are (text ++ drop n bytes) bytes
    (ap (λ (xs : Bytes). xs ++ drop n bytes) (same_bytes text (take n bytes) h) ∙ take-append-drop n bytes))

pub value_behind : (bytes : Bytes) (v : Value) (n : ℕ) (test : Bool) → literal_at bytes ≡ Some (v, drop n bytes)
    → is_small_value v ≡ true
    → test ≡ (is_text v && bytes_eq (value_text v) (take n bytes))
    → behind_value bytes (literal_at bytes) ≡ cond test (Some (drop n bytes)) None
value_behind bytes v n test e small printed =
    ap (behind_value bytes) e
    ∙ ap (λ t. cond ((t && is_text v) && bytes_eq (value_text v ++ drop n bytes) bytes) (Some (drop n bytes)) None)
    small
    ∙ ap (λ t. cond (is_text v && t) (Some (drop n bytes)) None) (piece_is bytes (value_text v) n)
    ∙ ap (λ t. cond t (Some (drop n bytes)) None) (sym printed)

-- ---- Names, numbers, edges and labels have no space, and are what their words say.

-- bytes that pass a test lack a sign that doesn't
lacks_by : (p : ℕ → Bool) (sign : ℕ) → ((b : ℕ) → p b ≡ true → b ≡ sign → ⊥) → (w : Bytes) → list_all p w ≡ true
    → lacks sign w ≡ true
lacks_by p sign apart [] h = refl
lacks_by p sign apart (b ∷ bs) h =
    let both = and_parts (p b) (list_all p bs) h in
    and_from (not (eqb b sign)) (lacks sign bs) (not_from_false (eqb b sign) (ne_eqb b sign (apart b both.0)))
    (lacks_by p sign apart bs both.1)

letter_low : (b : ℕ) → is_lower b ≡ true → 97 ≤ b
letter_low b h = leb-true 97 b (and_parts (leb 97 b) (leb b 122) h).0

digit_low : (b : ℕ) → is_digit b ≡ true → 48 ≤ b
digit_low b h = leb-true 48 b (and_parts (leb 48 b) (leb b 57) h).0

-- a byte behind the first of a name
tail_low : (b : ℕ) → (is_lower b || is_digit b || eqb b 95) ≡ true → 48 ≤ b
tail_low b h = elim (or_cases (is_lower b || is_digit b) (eqb b 95) h) [
  | inl front ↦ elim (or_cases (is_lower b) (is_digit b) front) [
    | inl letter ↦ omega (arith, letter_low b letter)
    | inr digit ↦ digit_low b digit
  ]
  | inr low ↦ omega (arith, eqb-true b 95 low)
]

-- a name has no space and no comma
pub name_lacks : (sign : ℕ) → sign < 48 → (w : Bytes) → is_name w ≡ true → lacks sign w ≡ true
name_lacks sign small [] h = refl
name_lacks sign small (b ∷ bs) h =
    let front = and_parts (is_lower b) (list_all (λ c. is_lower c || is_digit c || eqb c 95) bs && leb (length bs) 31) h
    in
    let behind = and_parts (list_all (λ c. is_lower c || is_digit c || eqb c 95) bs) _ front.1 in
    and_from (not (eqb b sign)) (lacks sign bs)
    (not_from_false (eqb b sign)
    (ne_eqb b sign (λ e. let low = letter_low b front.0 in absurd (omega (arith, e, small, low)))))
    (lacks_by (λ c. is_lower c || is_digit c || eqb c 95) sign
    (λ c k e. let low = tail_low c k in absurd (omega (arith, e, small, low))) bs behind.0)

-- so has no number
pub number_lacks : (n : ℕ) → n < 2 ^ 64 → lacks 32 (decimal n) ≡ true
number_lacks n h = lacks_by is_digit 32 (λ b k e. let low = digit_low b k in absurd (omega (arith, e, low))) (decimal n)
    (digits_written n h)

pub variable_lacks : (sign : ℕ) → sign < 48 → (w : Bytes) → is_printed_variable w ≡ true → lacks sign w ≡ true
variable_lacks sign small w h = elim (or_cases (is_name w) (bytes_eq w (codes "_")) h) [
  | inl name ↦ name_lacks sign small w name
  | inr hole ↦
      ap (lacks sign) (same_bytes w (codes "_") hole)
      ∙ and_from (not (eqb 95 sign)) true
      (not_from_false (eqb 95 sign) (ne_eqb 95 sign (λ e. absurd (omega (arith, e, small))))) refl
]

pub label_lacks : (sign : ℕ) → sign < 48 → (xs : List Bytes) → is_label xs ≡ true → list_all (lacks sign) xs ≡ true
label_lacks sign small [] h = refl
label_lacks sign small (x ∷ xs) h =
    let both = and_parts (is_printed_variable x) (is_label xs) h in
    and_from (lacks sign x) (list_all (lacks sign) xs) (variable_lacks sign small x both.0)
    (label_lacks sign small xs both.1)

spaced_lacks : (xs : List Bytes) → list_all (lacks 32) xs ≡ true → lacks 32 (spaced 44 xs) ≡ true
spaced_lacks [] h = refl
spaced_lacks (x ∷ xs) h =
    let both = and_parts (lacks 32 x) (list_all (lacks 32) xs) h in
    list_all-append (λ b. not (eqb b 32)) (44 ∷ x) (spaced 44 xs)
    ∙ and_from (lacks 32 (44 ∷ x)) (lacks 32 (spaced 44 xs)) both.0 (spaced_lacks xs both.1)

pub joined_lacks : (x : Bytes) (xs : List Bytes) → is_label (x ∷ xs) ≡ true → lacks 32 (joined (x ∷ xs)) ≡ true
joined_lacks x xs h =
    let both = and_parts (lacks 32 x) (list_all (lacks 32) xs) (label_lacks 32 (omega arith) (x ∷ xs) h) in
    list_all-append (λ b. not (eqb b 32)) x (spaced 44 xs)
    ∙ and_from (lacks 32 x) (lacks 32 (spaced 44 xs)) both.0 (spaced_lacks xs both.1)

joined_parts : (x : Bytes) (xs : List Bytes) → is_label (x ∷ xs) ≡ true → parts 44 (joined (x ∷ xs)) ≡ x ∷ xs
joined_parts x xs h =
    let both = and_parts (lacks 44 x) (list_all (lacks 44) xs) (label_lacks 44 (omega arith) (x ∷ xs) h) in
    parts_spaced 44 x xs both.0 both.1

-- variables that are printed with commas between them are such a word
pub joined_word : (x : Bytes) (xs : List Bytes) → is_label (x ∷ xs) ≡ true → is_edge_word (joined (x ∷ xs)) ≡ true
joined_word x xs h = ap (λ (ps : List Bytes). list_all is_printed_variable ps) (joined_parts x xs h) ∙ h

pub record IsJoined (w : Bytes) : Type 0 where
  pub first : Bytes
  pub others : List Bytes
  pub variables : is_label (first ∷ others) ≡ true
  pub is : w ≡ joined (first ∷ others)

-- and each such word is one
pub word_joined : (w : Bytes) → is_edge_word w ≡ true → IsJoined w
word_joined w h = by (parts 44 w) (parts_back 44 w) h
  where
    by : (ps : List Bytes) → glued 44 ps ≡ w → list_all is_printed_variable ps ≡ true → IsJoined w
    by [] e k = absurd (no_word w (sym e) h)
      where
        no_word : (u : Bytes) → u ≡ [] → is_edge_word u ≡ true → ⊥
        no_word u f g = absurd (empty (sym (ap is_edge_word f) ∙ g))
          where
            empty : is_edge_word [] ≡ true → ⊥
            empty i = absurd (cc)
    by (p ∷ ps) e k = record { first = p; others = ps; variables = k; is = sym e }

pub label_lack : (xs : List Bytes) → is_label xs ≡ true → lacks 32 (label_of xs) ≡ true
label_lack [] h = refl
label_lack (x ∷ xs) h = joined_lacks x xs h

pub label_word : (xs : List Bytes) → is_label xs ≡ true → is_label_word (label_of xs) ≡ true
label_word [] h = refl
label_word (x ∷ xs) h = or_right (bytes_eq (joined (x ∷ xs)) (codes "-")) (is_edge_word (joined (x ∷ xs)))
    (joined_word x xs h)

pub record IsLabelled (w : Bytes) : Type 0 where
  pub label : List Bytes
  pub variables : is_label label ≡ true
  pub is : w ≡ label_of label

pub word_label : (w : Bytes) → is_label_word w ≡ true → IsLabelled w
word_label w h = elim (or_cases (bytes_eq w (codes "-")) (is_edge_word w) h) [
  | inl dash ↦ record { label = []; variables = refl; is = same_bytes w (codes "-") dash }
  | inr edge ↦
      let found = word_joined w edge in
      record { label = found.first ∷ found.others; variables = found.variables; is = found.is }
]
