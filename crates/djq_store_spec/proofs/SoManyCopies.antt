-- Rows with so many copies of one.
use Rattle.std.specs.Prelude.{ℕ, zero, suc, List, [], ◌∷◌, ◌≡◌, ◌≤◌, ◌++◌, Bool, true, false, cond}
use Rattle.std.proofs.Common.{refl, sym, ap, ◌∙◌, subst, arith}
use Rattle.std.proofs.lemmas.Bool.{false≢true}
use Rattle.djq_model.specs.declared.relation.CountedRow.{CountedRow}
use Rattle.djq_model.specs.Data.{Tuple, tuple_eq, has_row, plain_of, copies_among, with_copies, without_copies}
use Rattle.djq_model.specs.Equality.{tuple_eq-decides}
use Rattle.djq_model.proofs.Copies.{tuples_with_copies, no_copies, changed_copies, others_with_copies, others_without}
use Rattle.djq_store_spec.specs.Lines.{with_so_many}

abbrev so_many : Tuple → ℕ → CountedRow
so_many row n = record { row = row; copies = n }

-- ---- a row that isn't there, and one that is last

pub without_absent : (rows : List CountedRow) (row : Tuple) → has_row (plain_of rows) row ≡ false
    → without_copies rows row ≡ rows
without_absent [] row e = refl
without_absent (c ∷ rows) row e = by (tuple_eq c.row row) e (λ k. without_absent rows row k)
  where
    by : (b : Bool) → cond b true (has_row (plain_of rows) row) ≡ false
        → (has_row (plain_of rows) row ≡ false → without_copies rows row ≡ rows)
        → cond b rows (c ∷ without_copies rows row) ≡ c ∷ rows
    by true k rest = absurd (false≢true (sym k))
    by false k rest = ap (λ (rs : List CountedRow). c ∷ rs) (rest k)

last_copies : (rows : List CountedRow) (row : Tuple) (k n : ℕ) → has_row (plain_of rows) row ≡ false
    → with_copies (rows ++ so_many row k ∷ []) row n ≡ rows ++ so_many row n ∷ []
last_copies [] row k n e =
    ap (λ (b : Bool). cond b (so_many row n ∷ []) (so_many row k ∷ [])) ((tuple_eq-decides row row).1 refl)
last_copies (c ∷ rows) row k n e = by (tuple_eq c.row row) e (λ f. last_copies rows row k n f)
  where
    by : (b : Bool) → cond b true (has_row (plain_of rows) row) ≡ false
        → (has_row (plain_of rows) row ≡ false
        → with_copies (rows ++ so_many row k ∷ []) row n ≡ rows ++ so_many row n ∷ [])
        → cond b (record c { copies = n } ∷ rows ++ so_many row k ∷ [])
        (c ∷ with_copies (rows ++ so_many row k ∷ []) row n)
        ≡ c ∷ rows ++ so_many row n ∷ []
    by true f rest = absurd (false≢true (sym f))
    by false f rest = ap (λ (rs : List CountedRow). c ∷ rs) (rest f)

last_without : (rows : List CountedRow) (row : Tuple) (k : ℕ) → has_row (plain_of rows) row ≡ false
    → without_copies (rows ++ so_many row k ∷ []) row ≡ rows
last_without [] row k e =
    ap (λ (b : Bool). cond b [] (so_many row k ∷ [])) ((tuple_eq-decides row row).1 refl)
last_without (c ∷ rows) row k e = by (tuple_eq c.row row) e (λ f. last_without rows row k f)
  where
    by : (b : Bool) → cond b true (has_row (plain_of rows) row) ≡ false
        → (has_row (plain_of rows) row ≡ false → without_copies (rows ++ so_many row k ∷ []) row ≡ rows)
        → cond b (rows ++ so_many row k ∷ []) (c ∷ without_copies (rows ++ so_many row k ∷ []) row) ≡ c ∷ rows
    by true f rest = absurd (false≢true (sym f))
    by false f rest = ap (λ (rs : List CountedRow). c ∷ rs) (rest f)

last_has : (rows : List CountedRow) (row : Tuple) (k : ℕ)
    → has_row (plain_of (rows ++ so_many row k ∷ [])) row ≡ true
last_has [] row k = ap (λ (b : Bool). cond b true false) ((tuple_eq-decides row row).1 refl)
last_has (c ∷ rows) row k = by (tuple_eq c.row row) (last_has rows row k)
  where
    by : (b : Bool) → has_row (plain_of (rows ++ so_many row k ∷ [])) row ≡ true
        → cond b true (has_row (plain_of (rows ++ so_many row k ∷ [])) row) ≡ true
    by true e = refl
    by false e = e

last_among : (rows : List CountedRow) (row : Tuple) (k : ℕ) → has_row (plain_of rows) row ≡ false
    → copies_among (rows ++ so_many row k ∷ []) row ≡ k
last_among [] row k e = ap (λ (b : Bool). cond b k 0) ((tuple_eq-decides row row).1 refl)
last_among (c ∷ rows) row k e = by (tuple_eq c.row row) e (λ f. last_among rows row k f)
  where
    by : (b : Bool) → cond b true (has_row (plain_of rows) row) ≡ false
        → (has_row (plain_of rows) row ≡ false → copies_among (rows ++ so_many row k ∷ []) row ≡ k)
        → cond b c.copies (copies_among (rows ++ so_many row k ∷ []) row) ≡ k
    by true f rest = absurd (false≢true (sym f))
    by false f rest = rest f

-- ---- another number of copies, twice

copies_again : (rows : List CountedRow) (row : Tuple) (k n : ℕ)
    → with_copies (with_copies rows row k) row n ≡ with_copies rows row n
copies_again [] row k n = refl
copies_again (c ∷ rows) row k n = by (tuple_eq c.row row) refl (copies_again rows row k n)
  where
    by : (b : Bool) → tuple_eq c.row row ≡ b
        → with_copies (with_copies rows row k) row n ≡ with_copies rows row n
        → with_copies (cond b (record c { copies = k } ∷ rows) (c ∷ with_copies rows row k)) row n
        ≡ cond b (record c { copies = n } ∷ rows) (c ∷ with_copies rows row n)
    by true e rest = ap (λ (b : Bool). cond b (record c { copies = n } ∷ rows)
        (record c { copies = k } ∷ with_copies rows row n)) e
    by false e rest = ap (λ (b : Bool). cond b (record c { copies = n } ∷ with_copies rows row k)
        (c ∷ with_copies (with_copies rows row k) row n)) e ∙ ap (λ (rs : List CountedRow). c ∷ rs) rest

without_again : (rows : List CountedRow) (row : Tuple) (k : ℕ)
    → without_copies (with_copies rows row k) row ≡ without_copies rows row
without_again [] row k = refl
without_again (c ∷ rows) row k = by (tuple_eq c.row row) refl (without_again rows row k)
  where
    by : (b : Bool) → tuple_eq c.row row ≡ b
        → without_copies (with_copies rows row k) row ≡ without_copies rows row
        → without_copies (cond b (record c { copies = k } ∷ rows) (c ∷ with_copies rows row k)) row
        ≡ cond b rows (c ∷ without_copies rows row)
    by true e rest = ap (λ (b : Bool). cond b rows (record c { copies = k } ∷ without_copies rows row)) e
    by false e rest = ap (λ (b : Bool). cond b (with_copies rows row k)
        (c ∷ without_copies (with_copies rows row k) row)) e ∙ ap (λ (rs : List CountedRow). c ∷ rs) rest

copies_same : (rows : List CountedRow) (row : Tuple) (n : ℕ) → copies_among rows row ≡ n
    → with_copies rows row n ≡ rows
copies_same [] row n e = refl
copies_same (c ∷ rows) row n e = by (tuple_eq c.row row) e (λ f. copies_same rows row n f)
  where
    by : (b : Bool) → cond b c.copies (copies_among rows row) ≡ n
        → (copies_among rows row ≡ n → with_copies rows row n ≡ rows)
        → cond b (record c { copies = n } ∷ rows) (c ∷ with_copies rows row n) ≡ c ∷ rows
    by true f rest = ap (λ (m : ℕ). record c { copies = m } ∷ rows) (sym f)
    by false f rest = ap (λ (rs : List CountedRow). c ∷ rs) (rest f)

-- ---- so many copies

pub many_has : (rows : List CountedRow) (row : Tuple) (n : ℕ)
    → has_row (plain_of (with_so_many rows row (suc n))) row ≡ true
many_has rows row n = by (has_row (plain_of rows) row) refl
  where
    by : (b : Bool) → has_row (plain_of rows) row ≡ b
        → has_row (plain_of (cond b (with_copies rows row (suc n)) (rows ++ so_many row (suc n) ∷ []))) row ≡ true
    by true e = ap (λ (ts : List Tuple). has_row ts row) (tuples_with_copies rows row (suc n)) ∙ e
    by false e = last_has rows row (suc n)

pub many_among : (rows : List CountedRow) (row : Tuple) (n : ℕ)
    → copies_among (with_so_many rows row (suc n)) row ≡ suc n
many_among rows row n = by (has_row (plain_of rows) row) refl
  where
    by : (b : Bool) → has_row (plain_of rows) row ≡ b
        → copies_among (cond b (with_copies rows row (suc n)) (rows ++ so_many row (suc n) ∷ [])) row ≡ suc n
    by true e = changed_copies rows row (suc n) e
    by false e = last_among rows row (suc n) e

-- the last number of copies counts
pub many_again : (rows : List CountedRow) (row : Tuple) (k n : ℕ)
    → with_so_many (with_so_many rows row (suc k)) row n ≡ with_so_many rows row n
many_again rows row k zero = by (has_row (plain_of rows) row) refl
  where
    by : (b : Bool) → has_row (plain_of rows) row ≡ b
        → without_copies (cond b (with_copies rows row (suc k)) (rows ++ so_many row (suc k) ∷ [])) row
        ≡ without_copies rows row
    by true e = without_again rows row (suc k)
    by false e = last_without rows row (suc k) e ∙ sym (without_absent rows row e)
many_again rows row k (suc n) =
    ap (λ (b : Bool). cond b (with_copies (with_so_many rows row (suc k)) row (suc n))
    (with_so_many rows row (suc k) ++ so_many row (suc n) ∷ [])) (many_has rows row k)
    ∙ by (has_row (plain_of rows) row) refl
  where
    by : (b : Bool) → has_row (plain_of rows) row ≡ b
        → with_copies (cond b (with_copies rows row (suc k)) (rows ++ so_many row (suc k) ∷ [])) row (suc n)
        ≡ cond b (with_copies rows row (suc n)) (rows ++ so_many row (suc n) ∷ [])
    by true e = copies_again rows row (suc k) (suc n)
    by false e = last_copies rows row (suc k) (suc n) e

-- with as many copies as it has
pub many_same : (rows : List CountedRow) (row : Tuple) (n : ℕ) → copies_among rows row ≡ n
    → (has_row (plain_of rows) row ≡ true → 1 ≤ n) → with_so_many rows row n ≡ rows
many_same rows row zero e some = by (has_row (plain_of rows) row) refl
  where
    by : (b : Bool) → has_row (plain_of rows) row ≡ b → without_copies rows row ≡ rows
    by true k = absurd (omega (arith, some k))
    by false k = without_absent rows row k
many_same rows row (suc n) e some = by (has_row (plain_of rows) row) refl
  where
    by : (b : Bool) → has_row (plain_of rows) row ≡ b
        → cond b (with_copies rows row (suc n)) (rows ++ so_many row (suc n) ∷ []) ≡ rows
    by true k = copies_same rows row (suc n) e
    by false k = let none = no_copies rows row k in absurd (omega (arith, none, e))

-- a row that isn't there, with one copy or more
pub many_new : (rows : List CountedRow) (row : Tuple) (n : ℕ) → has_row (plain_of rows) row ≡ false
    → with_so_many rows row (suc n) ≡ rows ++ so_many row (suc n) ∷ []
many_new rows row n e =
    ap (λ (b : Bool). cond b (with_copies rows row (suc n)) (rows ++ so_many row (suc n) ∷ [])) e

pub many_there : (rows : List CountedRow) (row : Tuple) (n : ℕ) → has_row (plain_of rows) row ≡ true
    → with_so_many rows row (suc n) ≡ with_copies rows row (suc n)
many_there rows row n e =
    ap (λ (b : Bool). cond b (with_copies rows row (suc n)) (rows ++ so_many row (suc n) ∷ [])) e

-- ---- other rows

apart_here : (x row other : Tuple) → tuple_eq row other ≡ false → tuple_eq x row ≡ true → tuple_eq x other ≡ false
apart_here x row other h e = subst (λ (y : Tuple). tuple_eq y other ≡ false) (sym ((tuple_eq-decides x row).0 e)) h

last_others : (rows : List CountedRow) (row other : Tuple) (k : ℕ) → tuple_eq row other ≡ false
    → copies_among (rows ++ so_many row k ∷ []) other ≡ copies_among rows other
last_others [] row other k h = ap (λ (b : Bool). cond b k 0) h
last_others (c ∷ rows) row other k h =
    ap (λ (n : ℕ). cond (tuple_eq c.row other) c.copies n) (last_others rows row other k h)

last_has_others : (rows : List CountedRow) (row other : Tuple) (k : ℕ) → tuple_eq row other ≡ false
    → has_row (plain_of (rows ++ so_many row k ∷ [])) other ≡ has_row (plain_of rows) other
last_has_others [] row other k h = ap (λ (b : Bool). cond b true false) h
last_has_others (c ∷ rows) row other k h =
    ap (λ (b : Bool). cond (tuple_eq c.row other) true b) (last_has_others rows row other k h)

without_has_others : (rows : List CountedRow) (row other : Tuple) → tuple_eq row other ≡ false
    → has_row (plain_of (without_copies rows row)) other ≡ has_row (plain_of rows) other
without_has_others [] row other h = refl
without_has_others (c ∷ rows) row other h = by (tuple_eq c.row row) refl (without_has_others rows row other h)
  where
    by : (b : Bool) → tuple_eq c.row row ≡ b
        → has_row (plain_of (without_copies rows row)) other ≡ has_row (plain_of rows) other
        → has_row (plain_of (cond b rows (c ∷ without_copies rows row))) other
        ≡ cond (tuple_eq c.row other) true (has_row (plain_of rows) other)
    by true e rest = sym (ap (λ (b : Bool). cond b true (has_row (plain_of rows) other)) (apart_here c.row row other h e))
    by false e rest = ap (λ (b : Bool). cond (tuple_eq c.row other) true b) rest

pub many_others : (rows : List CountedRow) (row other : Tuple) (n : ℕ) → tuple_eq row other ≡ false
    → copies_among (with_so_many rows row n) other ≡ copies_among rows other
many_others rows row other zero h = others_without rows row other h
many_others rows row other (suc n) h = by (has_row (plain_of rows) row)
  where
    by : (b : Bool)
        → copies_among (cond b (with_copies rows row (suc n)) (rows ++ so_many row (suc n) ∷ [])) other
        ≡ copies_among rows other
    by true = others_with_copies rows row other (suc n) h
    by false = last_others rows row other (suc n) h

pub many_has_others : (rows : List CountedRow) (row other : Tuple) (n : ℕ) → tuple_eq row other ≡ false
    → has_row (plain_of (with_so_many rows row n)) other ≡ has_row (plain_of rows) other
many_has_others rows row other zero h = without_has_others rows row other h
many_has_others rows row other (suc n) h = by (has_row (plain_of rows) row)
  where
    by : (b : Bool)
        → has_row (plain_of (cond b (with_copies rows row (suc n)) (rows ++ so_many row (suc n) ∷ []))) other
        ≡ has_row (plain_of rows) other
    by true = ap (λ (ts : List Tuple). has_row ts other) (tuples_with_copies rows row (suc n))
    by false = last_has_others rows row other (suc n) h
