-- Rows only come up to the relations between, and only go from there.
use Rattle.std.specs.Prelude.{ℕ, zero, suc, List, [], ◌∷◌, ◌≡◌, ◌⊎◌, ◌==◌, ◌&&◌, ◌<◌, Bool, true, false, not, cond}
use Rattle.std.specs.Prelude.{Option, None, Some, fold, filter, nat_lt, All, Contains}
use Rattle.std.specs.Option.{option_map}
use Rattle.std.proofs.Common.{refl, sym, ap, ◌∙◌, subst, inl, inr, arith}
use Rattle.std.proofs.lemmas.Bool.{false≢true, eq-eqb, lt-ltb, ltb-true}
use Rattle.std.proofs.lemmas.List.Elements.{All-head, All-tail}
use Rattle.djq_model.specs.declared.relation.Relation.{Relation}
use Rattle.djq_model.specs.declared.relation.CountedRow.{CountedRow}
use Rattle.djq_model.specs.Data.{Bytes, Tuple, bytes_eq, tuple_eq, counted_in, counted_of, relation_of, has_row, plain_of}
use Rattle.djq_model.specs.Data.{rows_of, without_copies}
use Rattle.djq_model.specs.Equality.{bytes_eq-decides, tuple_eq-decides}
use Rattle.djq_model.proofs.Copies.{no_copies}
use Rattle.djq_answer_laws.proofs.Lists.{row_found, row_there, kept_hold, hold_each}
use Rattle.djq_store_spec.specs.Relations.{with_rows}
use Rattle.djq_store_spec.proofs.Relations.{relation_here, counted_apart}
use Rattle.djq_store_spec.specs.Held.{HeldLine}
use Rattle.djq_store_spec.specs.Lines.{copies_before, copies_after, line_comes, lines_come, first_lines, with_so_many}
use Rattle.djq_store_spec.specs.Lines.{with_copies_left, relations_between, relations_after}
use Rattle.djq_transaction.specs.Settled.{LinesInsert, LinesRemove}
use Rattle.djq_transaction.proofs.AnyOrder.{after_is}
use Rattle.djq_store_spec.proofs.SoManyCopies.{many_has, many_has_others}

abbrev has : List Relation → Bytes → Tuple → Bool
has relations name row = has_row (rows_of relations name) row

-- where rows of one relation are others: a property of the rows of each
pub elsewhere_or_here : (P : List CountedRow → Type 0) (now : List Relation) (n name : Bytes) (rows : List CountedRow)
    → P (counted_of now name) → (n ≡ name → P rows) → P (counted_of (with_rows now n rows) name)
elsewhere_or_here P now n name rows old new = by (bytes_eq name n) refl
  where
    on : (o : Option Relation) → P (counted_in o) → P rows
        → P (counted_in (option_map (λ (r : Relation). record r { rows = rows }) o))
    on None p q = p
    on (Some r) p q = q

    by : (b : Bool) → bytes_eq name n ≡ b → P (counted_of (with_rows now n rows) name)
    by false e = subst P (sym (counted_apart now n rows name e)) old
    by true e =
        let same : name ≡ n = (bytes_eq-decides name n).0 e in
        subst (λ (m : Bytes). P (counted_of (with_rows now n rows) m)) (sym same)
        (subst (λ (o : Option Relation). P (counted_in o)) (sym (relation_here now n rows))
        (on (relation_of now n) (subst (λ (m : Bytes). P (counted_of now m)) same old) (new (sym same))))

-- and what is there afterwards was there, or is one of these rows
here_before : (now : List Relation) (n name : Bytes) (rows : List CountedRow) (row : Tuple)
    → has (with_rows now n rows) name row ≡ true
    → (has now name row ≡ true) ⊎ ((n ≡ name) × (has_row (plain_of rows) row ≡ true))
here_before now n name rows row = elsewhere_or_here (λ (rs : List CountedRow). has_row (plain_of rs) row ≡ true
    → (has now name row ≡ true) ⊎ ((n ≡ name) × (has_row (plain_of rows) row ≡ true))) now n name rows
    (λ k. inl k) (λ same k. inr (same, k))

-- ---- rows come

-- with one copy or more of a row all that was there is there
many_keeps : (rows : List CountedRow) (row other : Tuple) (n : ℕ) → has_row (plain_of rows) other ≡ true
    → has_row (plain_of (with_so_many rows row (suc n))) other ≡ true
many_keeps rows row other n k = by (tuple_eq row other) refl
  where
    by : (b : Bool) → tuple_eq row other ≡ b → has_row (plain_of (with_so_many rows row (suc n))) other ≡ true
    by true e = ap (λ (t : Tuple). has_row (plain_of (with_so_many rows row (suc n))) t)
        (sym ((tuple_eq-decides row other).0 e)) ∙ many_has rows row n
    by false e = many_has_others rows row other (suc n) e ∙ k

step_keeps : (base : List Relation) (lines : List HeldLine) (now : List Relation) (h : HeldLine) (name : Bytes)
    (row : Tuple) → 0 < copies_after base lines h → has now name row ≡ true
    → has (with_copies_left base lines now h) name row ≡ true
step_keeps base lines now h name row some k =
    elsewhere_or_here (λ (rs : List CountedRow). has_row (plain_of rs) row ≡ true) now h.relation name
    (with_so_many (counted_of now h.relation) h.row (copies_after base lines h)) k
    (λ same. by (copies_after base lines h) some
    (subst (λ (m : Bytes). has now m row ≡ true) (sym same) k))
  where
    by : (n : ℕ) → 0 < n → has now h.relation row ≡ true
        → has_row (plain_of (with_so_many (counted_of now h.relation) h.row n)) row ≡ true
    by zero l p = absurd (omega (arith, l))
    by (suc n) l p = many_keeps (counted_of now h.relation) h.row row n p

all_keep : (base : List Relation) (lines : List HeldLine) (now : List Relation) (hs : List HeldLine) (name : Bytes)
    (row : Tuple) → All (λ h. 0 < copies_after base lines h) hs → has now name row ≡ true
    → has (fold (with_copies_left base lines) now hs) name row ≡ true
all_keep base lines now [] name row some k = k
all_keep base lines now (h ∷ hs) name row some k =
    all_keep base lines (with_copies_left base lines now h) hs name row
    (All-tail (λ (g : HeldLine). 0 < copies_after base lines g) h hs some)
    (step_keeps base lines now h name row (All-head (λ (g : HeldLine). 0 < copies_after base lines g) h hs some) k)

pub second_true : (a b : Bool) → (a && b) ≡ true → b ≡ true
second_true true b h = h
second_true false b h = absurd (false≢true h)

pub come_some : (base : List Relation) (lines : List HeldLine)
    → All (λ h. 0 < copies_after base lines h) (lines_come base lines)
come_some base lines =
    kept_hold (Contains (first_lines lines)) (λ (h : HeldLine). 0 < copies_after base lines h) (line_comes base lines)
    (first_lines lines) (λ h e k. ltb-true 0 (copies_after base lines h)
    (second_true (copies_before base h == 0) (nat_lt 0 (copies_after base lines h)) e))
    (hold_each (Contains (first_lines lines)) (first_lines lines) (λ h k. k))

pub lines_insert : LinesInsert
lines_insert base lines name row k =
    row_there (rows_of (relations_between base lines) name) row
    (all_keep base lines base (lines_come base lines) name row (come_some base lines)
    (row_found (rows_of base name) row k))

-- ---- rows go

-- what is there with so many copies of a row was there, or is the row
without_fewer : (rows : List CountedRow) (row other : Tuple) → has_row (plain_of (without_copies rows row)) other ≡ true
    → has_row (plain_of rows) other ≡ true
without_fewer [] row other k = k
without_fewer (c ∷ rows) row other k = by (tuple_eq c.row row) k (λ e. without_fewer rows row other e)
  where
    more : (b : Bool) → has_row (plain_of rows) other ≡ true → cond b true (has_row (plain_of rows) other) ≡ true
    more true e = refl
    more false e = e

    both : (b : Bool) → cond b true (has_row (plain_of (without_copies rows row)) other) ≡ true
        → (has_row (plain_of (without_copies rows row)) other ≡ true → has_row (plain_of rows) other ≡ true)
        → cond b true (has_row (plain_of rows) other) ≡ true
    both true e rest = refl
    both false e rest = rest e

    by : (b : Bool) → has_row (plain_of (cond b rows (c ∷ without_copies rows row))) other ≡ true
        → (has_row (plain_of (without_copies rows row)) other ≡ true → has_row (plain_of rows) other ≡ true)
        → cond (tuple_eq c.row other) true (has_row (plain_of rows) other) ≡ true
    by true e rest = more (tuple_eq c.row other) e
    by false e rest = both (tuple_eq c.row other) e rest

many_was : (rows : List CountedRow) (row other : Tuple) (n : ℕ)
    → has_row (plain_of (with_so_many rows row n)) other ≡ true
    → (has_row (plain_of rows) other ≡ true) ⊎ ((row ≡ other) × (0 < n))
many_was rows row other zero k = inl (without_fewer rows row other k)
many_was rows row other (suc n) k = by (tuple_eq row other) refl
  where
    by : (b : Bool) → tuple_eq row other ≡ b → (has_row (plain_of rows) other ≡ true) ⊎ ((row ≡ other) × (0 < suc n))
    by true e = inr ((tuple_eq-decides row other).0 e, omega arith)
    by false e = inl (sym (many_has_others rows row other (suc n) e) ∙ k)

module _ (base : List Relation) (lines : List HeldLine) where
  -- a row that doesn't come and has a copy afterwards was there
  was_there : (h : HeldLine) → not (line_comes base lines h) ≡ true → 0 < copies_after base lines h
      → has base h.relation h.row ≡ true
  was_there h other some = by (has base h.relation h.row) refl
    where
      by : (b : Bool) → has base h.relation h.row ≡ b → b ≡ true
      by true e = refl
      by false e =
          let none : copies_before base h ≡ 0 = no_copies (counted_of base h.relation) h.row e in
          let yes : line_comes base lines h ≡ true =
          ap (λ (b : Bool). b && nat_lt 0 (copies_after base lines h)) (eq-eqb (copies_before base h) 0 none)
          ∙ lt-ltb 0 (copies_after base lines h) some in
          absurd (false≢true (sym (ap (λ (b : Bool). not b) yes) ∙ other))

  step_was : (now : List Relation) (h : HeldLine) (name : Bytes) (row : Tuple)
      → not (line_comes base lines h) ≡ true
      → (has now name row ≡ true → has (relations_between base lines) name row ≡ true)
      → has (with_copies_left base lines now h) name row ≡ true → has (relations_between base lines) name row ≡ true
  step_was now h name row other more k =
      step (here_before now h.relation name
      (with_so_many (counted_of now h.relation) h.row (copies_after base lines h)) row k)
    where
      its : h.relation ≡ name → (has now h.relation row ≡ true) ⊎ ((h.row ≡ row) × (0 < copies_after base lines h))
          → has (relations_between base lines) name row ≡ true
      its same (inl old) = more (subst (λ (n : Bytes). has now n row ≡ true) same old)
      its same (inr new) =
          subst (λ (n : Bytes). has (relations_between base lines) n row ≡ true) same
          (subst (λ (t : Tuple). has (relations_between base lines) h.relation t ≡ true) new.0
          (all_keep base lines base (lines_come base lines) h.relation h.row (come_some base lines)
          (was_there h other new.1)))

      step : (has now name row ≡ true)
          ⊎ ((h.relation ≡ name)
          × (has_row (plain_of (with_so_many (counted_of now h.relation) h.row (copies_after base lines h))) row ≡ true))
          → has (relations_between base lines) name row ≡ true
      step (inl old) = more old
      step (inr here) = its here.0
          (many_was (counted_of now h.relation) h.row row (copies_after base lines h) here.1)

  all_were : (now : List Relation) (hs : List HeldLine) (name : Bytes) (row : Tuple)
      → All (λ h. not (line_comes base lines h) ≡ true) hs
      → (has now name row ≡ true → has (relations_between base lines) name row ≡ true)
      → has (fold (with_copies_left base lines) now hs) name row ≡ true
      → has (relations_between base lines) name row ≡ true
  all_were now [] name row others more k = more k
  all_were now (h ∷ hs) name row others more k =
      all_were (with_copies_left base lines now h) hs name row
      (All-tail (λ (g : HeldLine). not (line_comes base lines g) ≡ true) h hs others)
      (λ e. step_was now h name row (All-head (λ (g : HeldLine). not (line_comes base lines g) ≡ true) h hs others) more e) k

pub lines_remove : LinesRemove
lines_remove base lines name row k =
    row_there (rows_of (relations_between base lines) name) row
    (all_were base lines (relations_between base lines) (filter (λ h. not (line_comes base lines h)) (first_lines lines))
    name row
    (kept_hold (Contains (first_lines lines)) (λ (h : HeldLine). not (line_comes base lines h) ≡ true)
    (λ h. not (line_comes base lines h)) (first_lines lines) (λ h e k. e)
    (hold_each (Contains (first_lines lines)) (first_lines lines) (λ h k. k)))
    (λ e. e) (ap (λ (rs : List Relation). has rs name row) (sym (after_is base lines))
    ∙ row_found (rows_of (relations_after base lines) name) row k))
