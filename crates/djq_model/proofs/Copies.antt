-- Rows with their copies, and the same rows in another order.
use Rattle.std.proofs.Common.{ℕ, List, [], ◌∷◌, ◌+◌, ◌≡◌, ◌≤◌, Bool, true, false, cond, refl, ap, subst, arith, suc}
use Rattle.std.proofs.Common.{◌++◌, sym, ap₂, ◌∙◌}
use Rattle.std.specs.Prelude.{sum_by, IsPermutation, ◌&&◌, ◌||◌, ◌==◌, All}
use Rattle.std.specs.Bool.{Decides}
use Rattle.std.proofs.lemmas.List.Sums.{sum_by-cons}
use Rattle.std.proofs.lemmas.List.Sorted.{IsPermutation-refl, IsPermutation-sym, IsPermutation-cons}
use Rattle.std.proofs.lemmas.List.Sorted.{IsPermutation-trans, IsPermutation-append_left, IsPermutation-append_comm}
use Rattle.std.proofs.lemmas.List.Sorted.{sum_by-IsPermutation, IsPermutation-map, list_any-IsPermutation}
use Rattle.std.specs.List.{list_any}
use Rattle.std.proofs.lemmas.Bool.{false≢true}
use Rattle.std.proofs.lemmas.Bool.Decides.{Decides-eqb, Decides-and}
use Rattle.std.proofs.lemmas.List.{map-append}
use Rattle.std.proofs.lemmas.List.Elements.{All-cons, All-head, All-tail, All-push}
use Rattle.std.proofs.lemmas.Map.Keys.{IsDistinct-IsPermutation}
use Rattle.std.proofs.lemmas.Map.Made.{AllPairs-from_IsDistinct, IsDistinct-from_AllPairs}
use Rattle.djq_model.specs.declared.relation.CountedRow.{CountedRow}
use Rattle.djq_model.specs.Data.{drop_first, Tuple, tuple_eq, has_row, without_row, plain_of, copies_among, with_row}
use Rattle.djq_model.specs.Data.{with_copies, without_copies}
use Rattle.djq_model.specs.Answer.{AreDifferent}
use Rattle.djq_model.specs.Equality.{tuple_eq-decides}

-- ---- Lists in another order, of things whose equality is tested.

-- two at the front, exchanged
pub front_exchanged : {A : Type 0} (x y : A) (xs : List A) → IsPermutation (x ∷ y ∷ xs) (y ∷ x ∷ xs)
front_exchanged x y xs =
    IsPermutation-append_left xs (x ∷ y ∷ []) (y ∷ x ∷ []) (IsPermutation-append_comm (x ∷ []) (y ∷ []))

module _ {A : Type 0} (eq : A → A → Bool) (decides : (x y : A) → Decides (eq x y) (x ≡ y)) where
  -- how often a thing stands among others
  abbrev one_of : A → A → ℕ
  one_of t r = cond (eq r t) 1 0

  abbrev times : A → List A → ℕ
  times t xs = sum_by (one_of t) xs

  times_more : (t x : A) (xs : List A) → times t (x ∷ xs) ≡ one_of t x + times t xs
  times_more t x xs = sum_by-cons (one_of t) x xs

  one_itself : (t : A) → one_of t t ≡ 1
  one_itself t = ap (λ (b : Bool). cond b 1 0) ((decides t t).1 refl)

  -- where it stands once at least, it can be taken to the front
  taken_front : (xs : List A) (t : A) → 1 ≤ times t xs
      → IsPermutation xs (t ∷ drop_first (λ x. eq x t) xs)
  taken_front [] t h = absurd (omega (arith, h))
  taken_front (x ∷ xs) t h = by (eq x t) refl (λ k. taken_front xs t k)
    where
      by : (b : Bool) → eq x t ≡ b → (1 ≤ times t xs → IsPermutation xs (t ∷ drop_first (λ y. eq y t) xs))
          → IsPermutation (x ∷ xs) (t ∷ cond b xs (x ∷ drop_first (λ y. eq y t) xs))
      by true e rest =
          subst (λ (r : A). IsPermutation (x ∷ xs) (r ∷ xs)) ((decides x t).0 e) (IsPermutation-refl (x ∷ xs))
      by false e rest =
          let first : one_of t x ≡ 0 = ap (λ (b : Bool). cond b 1 0) e in
          let more = times_more t x xs in
          let others = drop_first (λ y. eq y t) xs in
          IsPermutation-trans (x ∷ xs) (x ∷ t ∷ others) (t ∷ x ∷ others)
          (IsPermutation-cons x xs (t ∷ others) (rest (omega (arith, h, first, more))))
          (front_exchanged x t others)

  -- Lists in which each stands as often are the same in another order.
  same_times : (xs ys : List A) → ((t : A) → times t ys ≡ times t xs) → IsPermutation xs ys
  same_times [] [] h = IsPermutation-refl []
  same_times [] (y ∷ ys) h =
      let first = one_itself y in
      let more = times_more y y ys in
      let none : times y (y ∷ ys) ≡ 0 = h y in
      absurd (omega (arith, first, more, none))
  same_times (x ∷ xs) ys h =
      let first = one_itself x in
      let more = times_more x x xs in
      let is = h x in
      let others = drop_first (λ z. eq z x) ys in
      let front = taken_front ys x (omega (arith, first, more, is)) in
      let rest = same_times xs others (λ t.
      let a = sum_by-IsPermutation (one_of t) ys (x ∷ others) front in
      let b = times_more t x others in
      let c = times_more t x xs in
      let d = h t in
      omega (arith, a, b, c, d)) in
      IsPermutation-trans (x ∷ xs) (x ∷ others) ys
      (IsPermutation-cons x xs others rest) (IsPermutation-sym ys (x ∷ others) front)

  -- One less of each.
  pub one_less : (x : A) (xs ys : List A) → IsPermutation (x ∷ xs) (x ∷ ys) → IsPermutation xs ys
  one_less x xs ys p = same_times xs ys (λ t.
      let a = sum_by-IsPermutation (one_of t) (x ∷ xs) (x ∷ ys) p in
      let b = times_more t x xs in
      let c = times_more t x ys in
      omega (arith, a, b, c))

-- ---- Rows with their copies: what a change of them does to the plain rows and to the copies of each, and the same
-- rows in another order.

-- ---- the plain rows

pub tuples_with_row : (rows : List CountedRow) (row : Tuple)
    → plain_of (with_row rows row) ≡ plain_of rows ++ row ∷ []
tuples_with_row rows row = map-append (λ (c : CountedRow). c.row) rows (record { row = row; copies = 1 } ∷ [])

-- Another number of copies leaves them as they are.
pub tuples_with_copies : (rows : List CountedRow) (row : Tuple) (n : ℕ)
    → plain_of (with_copies rows row n) ≡ plain_of rows
tuples_with_copies [] row n = refl
tuples_with_copies (c ∷ rows) row n = by (tuple_eq c.row row) (tuples_with_copies rows row n)
  where
    by : (b : Bool) → plain_of (with_copies rows row n) ≡ plain_of rows
        → plain_of (cond b (record c { copies = n } ∷ rows) (c ∷ with_copies rows row n)) ≡ c.row ∷ plain_of rows
    by true rest = refl
    by false rest = ap (λ (ts : List Tuple). c.row ∷ ts) rest

pub tuples_without : (rows : List CountedRow) (row : Tuple)
    → plain_of (without_copies rows row) ≡ without_row (plain_of rows) row
tuples_without [] row = refl
tuples_without (c ∷ rows) row = by (tuple_eq c.row row) (tuples_without rows row)
  where
    by : (b : Bool) → plain_of (without_copies rows row) ≡ without_row (plain_of rows) row
        → plain_of (cond b rows (c ∷ without_copies rows row))
        ≡ cond b (plain_of rows) (c.row ∷ without_row (plain_of rows) row)
    by true rest = refl
    by false rest = ap (λ (ts : List Tuple). c.row ∷ ts) rest

pub tuples_moved : (rows moved : List CountedRow) → IsPermutation rows moved
    → IsPermutation (plain_of rows) (plain_of moved)
tuples_moved rows moved p = IsPermutation-map (λ (c : CountedRow). c.row) rows moved p

-- ---- the copies of a row

-- None of a row that isn't there,
pub no_copies : (rows : List CountedRow) (row : Tuple) → has_row (plain_of rows) row ≡ false
    → copies_among rows row ≡ 0
no_copies [] row h = refl
no_copies (c ∷ rows) row h = by (tuple_eq c.row row) h (λ k. no_copies rows row k)
  where
    by : (b : Bool) → cond b true (has_row (plain_of rows) row) ≡ false
        → (has_row (plain_of rows) row ≡ false → copies_among rows row ≡ 0)
        → cond b c.copies (copies_among rows row) ≡ 0
    by true k rest = absurd (false≢true (sym k))
    by false k rest = rest k

-- and of one that is there as of all.
pub copies_hold : (P : ℕ → Type 0) (rows : List CountedRow) (row : Tuple) → All (λ (c : CountedRow). P c.copies) rows
    → has_row (plain_of rows) row ≡ true → P (copies_among rows row)
copies_hold P [] row h k = absurd (false≢true k)
copies_hold P (c ∷ rows) row h k =
    by (tuple_eq c.row row) k (λ e. copies_hold P rows row (All-tail (λ (c : CountedRow). P c.copies) c rows h) e)
  where
    by : (b : Bool) → cond b true (has_row (plain_of rows) row) ≡ true
        → (has_row (plain_of rows) row ≡ true → P (copies_among rows row))
        → P (cond b c.copies (copies_among rows row))
    by true e rest = All-head (λ (c : CountedRow). P c.copies) c rows h
    by false e rest = rest e

-- behind which a row has come
pub came_copies : (rows : List CountedRow) (row : Tuple) → has_row (plain_of rows) row ≡ false
    → copies_among (with_row rows row) row ≡ 1
came_copies [] row h = ap (λ (b : Bool). cond b 1 0) ((tuple_eq-decides row row).1 refl)
came_copies (c ∷ rows) row h = by (tuple_eq c.row row) h (λ k. came_copies rows row k)
  where
    by : (b : Bool) → cond b true (has_row (plain_of rows) row) ≡ false
        → (has_row (plain_of rows) row ≡ false → copies_among (with_row rows row) row ≡ 1)
        → cond b c.copies (copies_among (with_row rows row) row) ≡ 1
    by true k rest = absurd (false≢true (sym k))
    by false k rest = rest k

pub others_with_row : (rows : List CountedRow) (row other : Tuple) → tuple_eq row other ≡ false
    → copies_among (with_row rows row) other ≡ copies_among rows other
others_with_row [] row other h = ap (λ (b : Bool). cond b 1 0) h
others_with_row (c ∷ rows) row other h =
    ap (λ (n : ℕ). cond (tuple_eq c.row other) c.copies n) (others_with_row rows row other h)

-- of which one has another number
pub changed_copies : (rows : List CountedRow) (row : Tuple) (n : ℕ) → has_row (plain_of rows) row ≡ true
    → copies_among (with_copies rows row n) row ≡ n
changed_copies [] row n h = absurd (false≢true h)
changed_copies (c ∷ rows) row n h = by (tuple_eq c.row row) refl h (λ k. changed_copies rows row n k)
  where
    by : (b : Bool) → tuple_eq c.row row ≡ b → cond b true (has_row (plain_of rows) row) ≡ true
        → (has_row (plain_of rows) row ≡ true → copies_among (with_copies rows row n) row ≡ n)
        → copies_among (cond b (record c { copies = n } ∷ rows) (c ∷ with_copies rows row n)) row ≡ n
    by true e k rest = ap (λ (b : Bool). cond b n (copies_among rows row)) e
    by false e k rest = ap (λ (b : Bool). cond b c.copies (copies_among (with_copies rows row n) row)) e ∙ rest k

-- a row that isn't another: where something is the one, it isn't the other
apart_rows : (x row other : Tuple) → tuple_eq row other ≡ false → tuple_eq x row ≡ true → tuple_eq x other ≡ false
apart_rows x row other h e = subst (λ (y : Tuple). tuple_eq y other ≡ false) (sym ((tuple_eq-decides x row).0 e)) h

pub others_with_copies : (rows : List CountedRow) (row other : Tuple) (n : ℕ) → tuple_eq row other ≡ false
    → copies_among (with_copies rows row n) other ≡ copies_among rows other
others_with_copies [] row other n h = refl
others_with_copies (c ∷ rows) row other n h = by (tuple_eq c.row row) refl (others_with_copies rows row other n h)
  where
    by : (b : Bool) → tuple_eq c.row row ≡ b → copies_among (with_copies rows row n) other ≡ copies_among rows other
        → copies_among (cond b (record c { copies = n } ∷ rows) (c ∷ with_copies rows row n)) other
        ≡ cond (tuple_eq c.row other) c.copies (copies_among rows other)
    by true e rest =
        let not_it = apart_rows c.row row other h e in
        ap (λ (b : Bool). cond b n (copies_among rows other)) not_it
        ∙ sym (ap (λ (b : Bool). cond b c.copies (copies_among rows other)) not_it)
    by false e rest = ap (λ (m : ℕ). cond (tuple_eq c.row other) c.copies m) rest

-- of which one has gone
pub others_without : (rows : List CountedRow) (row other : Tuple) → tuple_eq row other ≡ false
    → copies_among (without_copies rows row) other ≡ copies_among rows other
others_without [] row other h = refl
others_without (c ∷ rows) row other h = by (tuple_eq c.row row) refl (others_without rows row other h)
  where
    by : (b : Bool) → tuple_eq c.row row ≡ b → copies_among (without_copies rows row) other ≡ copies_among rows other
        → copies_among (cond b rows (c ∷ without_copies rows row)) other
        ≡ cond (tuple_eq c.row other) c.copies (copies_among rows other)
    by true e rest = sym (ap (λ (b : Bool). cond b c.copies (copies_among rows other)) (apart_rows c.row row other h e))
    by false e rest = ap (λ (m : ℕ). cond (tuple_eq c.row other) c.copies m) rest

-- ---- what holds of all

module _ (P : CountedRow → Type 0) where
  pub all_with_row : (rows : List CountedRow) (row : Tuple) → All P rows → P (record { row = row; copies = 1 })
      → All P (with_row rows row)
  all_with_row rows row h k = All-push P rows (record { row = row; copies = 1 }) h k

  pub all_with_copies : (rows : List CountedRow) (row : Tuple) (n : ℕ) → All P rows
      → P (record { row = row; copies = n }) → All P (with_copies rows row n)
  all_with_copies [] row n h k = h
  all_with_copies (c ∷ rows) row n h k =
      by (tuple_eq c.row row) refl (all_with_copies rows row n (All-tail P c rows h) k)
    where
      by : (b : Bool) → tuple_eq c.row row ≡ b → All P (with_copies rows row n)
          → All P (cond b (record c { copies = n } ∷ rows) (c ∷ with_copies rows row n))
      by true e rest =
          let same = (tuple_eq-decides c.row row).0 e in
          All-cons P (record c { copies = n }) rows
          (subst (λ (t : Tuple). P (record { row = t; copies = n })) (sym same) k) (All-tail P c rows h)
      by false e rest = All-cons P c (with_copies rows row n) (All-head P c rows h) rest

  pub all_without : (rows : List CountedRow) (row : Tuple) → All P rows → All P (without_copies rows row)
  all_without [] row h = h
  all_without (c ∷ rows) row h = by (tuple_eq c.row row) (all_without rows row (All-tail P c rows h))
    where
      by : (b : Bool) → All P (without_copies rows row) → All P (cond b rows (c ∷ without_copies rows row))
      by true rest = All-tail P c rows h
      by false rest = All-cons P c (without_copies rows row) (All-head P c rows h) rest

-- ---- in another order

-- A row that is there can be taken to the front with its copies,
pub copies_front : (rows : List CountedRow) (row : Tuple) → has_row (plain_of rows) row ≡ true
    → IsPermutation rows (record { row = row; copies = copies_among rows row } ∷ without_copies rows row)
copies_front [] row h = absurd (false≢true h)
copies_front (c ∷ rows) row h = by (tuple_eq c.row row) refl h (λ k. copies_front rows row k)
  where
    by : (b : Bool) → tuple_eq c.row row ≡ b → cond b true (has_row (plain_of rows) row) ≡ true
        → (has_row (plain_of rows) row ≡ true
        → IsPermutation rows (record { row = row; copies = copies_among rows row } ∷ without_copies rows row))
        → IsPermutation (c ∷ rows)
        (record { row = row; copies = cond b c.copies (copies_among rows row) }
        ∷ cond b rows (c ∷ without_copies rows row))
    by true e k rest =
        subst (λ (t : Tuple). IsPermutation (c ∷ rows) (record { row = t; copies = c.copies } ∷ rows))
        ((tuple_eq-decides c.row row).0 e) (IsPermutation-refl (c ∷ rows))
    by false e k rest =
        let it : CountedRow = record { row = row; copies = copies_among rows row } in
        IsPermutation-trans (c ∷ rows) (c ∷ it ∷ without_copies rows row) (it ∷ c ∷ without_copies rows row)
        (IsPermutation-cons c rows (it ∷ without_copies rows row) (rest k))
        (front_exchanged c it (without_copies rows row))

-- and so can one that has another number of them.
pub changed_front : (rows : List CountedRow) (row : Tuple) (n : ℕ) → has_row (plain_of rows) row ≡ true
    → IsPermutation (with_copies rows row n) (record { row = row; copies = n } ∷ without_copies rows row)
changed_front [] row n h = absurd (false≢true h)
changed_front (c ∷ rows) row n h = by (tuple_eq c.row row) refl h (λ k. changed_front rows row n k)
  where
    by : (b : Bool) → tuple_eq c.row row ≡ b → cond b true (has_row (plain_of rows) row) ≡ true
        → (has_row (plain_of rows) row ≡ true
        → IsPermutation (with_copies rows row n) (record { row = row; copies = n } ∷ without_copies rows row))
        → IsPermutation (cond b (record c { copies = n } ∷ rows) (c ∷ with_copies rows row n))
        (record { row = row; copies = n } ∷ cond b rows (c ∷ without_copies rows row))
    by true e k rest =
        subst (λ (t : Tuple). IsPermutation (record c { copies = n } ∷ rows) (record { row = t; copies = n } ∷ rows))
        ((tuple_eq-decides c.row row).0 e) (IsPermutation-refl (record c { copies = n } ∷ rows))
    by false e k rest =
        let it : CountedRow = record { row = row; copies = n } in
        IsPermutation-trans (c ∷ with_copies rows row n) (c ∷ it ∷ without_copies rows row)
        (it ∷ c ∷ without_copies rows row)
        (IsPermutation-cons c (with_copies rows row n) (it ∷ without_copies rows row) (rest k))
        (front_exchanged c it (without_copies rows row))

tuple_eq_back : (s t : Tuple) → tuple_eq s t ≡ tuple_eq t s
tuple_eq_back s t = by (tuple_eq s t) (tuple_eq t s) refl refl
  where
    by : (a b : Bool) → tuple_eq s t ≡ a → tuple_eq t s ≡ b → a ≡ b
    by true true e f = refl
    by false false e f = refl
    by true false e f =
        let back : tuple_eq t s ≡ true = (tuple_eq-decides t s).1 (sym ((tuple_eq-decides s t).0 e)) in
        absurd (cc (back, f))
    by false true e f =
        let back : tuple_eq s t ≡ true = (tuple_eq-decides s t).1 (sym ((tuple_eq-decides t s).0 f)) in
        absurd (cc (back, e))

-- The same rows are there.
has_as_any : (rows : List Tuple) (row : Tuple) → has_row rows row ≡ list_any (λ r. tuple_eq r row) rows
has_as_any [] row = refl
has_as_any (r ∷ rows) row = by (tuple_eq r row) (has_as_any rows row)
  where
    by : (b : Bool) → has_row rows row ≡ list_any (λ r. tuple_eq r row) rows
        → cond b true (has_row rows row) ≡ (b || list_any (λ r. tuple_eq r row) rows)
    by true rest = refl
    by false rest = rest

pub has_moved : (rows moved : List Tuple) (row : Tuple) → IsPermutation rows moved
    → has_row moved row ≡ has_row rows row
has_moved rows moved row p =
    has_as_any moved row
    ∙ sym (list_any-IsPermutation (λ r. tuple_eq r row) rows moved p)
    ∙ sym (has_as_any rows row)

-- Where no row stands twice, each has as many copies.
abbrev counts : Tuple → CountedRow → ℕ
counts row c = cond (tuple_eq c.row row) c.copies 0

-- what holds of a list's first and the others, of all pairs
first_apart : (r : Tuple) (rows : List Tuple) → AreDifferent (r ∷ rows) → All (λ t. r ≡ t → ⊥) rows
first_apart r rows h = λ k d lt. h 0 (suc k) d (omega arith) (omega (arith, lt))

pub rest_differ : (r : Tuple) (rows : List Tuple) → AreDifferent (r ∷ rows) → AreDifferent rows
rest_differ r rows h = λ i j d lt within. h (suc i) (suc j) d (omega (arith, lt)) (omega (arith, within))

none_counts : (rows : List CountedRow) (row : Tuple) → All (λ (t : Tuple). row ≡ t → ⊥) (plain_of rows)
    → sum_by (counts row) rows ≡ 0
none_counts [] row h = refl
none_counts (c ∷ rows) row h =
    by (tuple_eq c.row row) refl
    (none_counts rows row (All-tail (λ (t : Tuple). row ≡ t → ⊥) c.row (plain_of rows) h))
  where
    by : (b : Bool) → tuple_eq c.row row ≡ b → sum_by (counts row) rows ≡ 0 → sum_by (counts row) (c ∷ rows) ≡ 0
    by true e rest =
        absurd (All-head (λ (t : Tuple). row ≡ t → ⊥) c.row (plain_of rows) h (sym ((tuple_eq-decides c.row row).0 e)))
    by false e rest =
        let first : counts row c ≡ 0 = ap (λ (b : Bool). cond b c.copies 0) e in
        let more = sum_by-cons (counts row) c rows in
        omega (arith, first, more, rest)

as_counts : (rows : List CountedRow) (row : Tuple) → AreDifferent (plain_of rows)
    → copies_among rows row ≡ sum_by (counts row) rows
as_counts [] row h = refl
as_counts (c ∷ rows) row h =
    by (tuple_eq c.row row) refl (as_counts rows row (rest_differ c.row (plain_of rows) h))
  where
    by : (b : Bool) → tuple_eq c.row row ≡ b → copies_among rows row ≡ sum_by (counts row) rows
        → cond (tuple_eq c.row row) c.copies (copies_among rows row) ≡ sum_by (counts row) (c ∷ rows)
    by true e others =
        let it : cond (tuple_eq c.row row) c.copies (copies_among rows row) ≡ c.copies =
        ap (λ (b : Bool). cond b c.copies (copies_among rows row)) e in
        let first : counts row c ≡ c.copies = ap (λ (b : Bool). cond b c.copies 0) e in
        let more = sum_by-cons (counts row) c rows in
        let rest = none_counts rows row
        (subst (λ (r : Tuple). All (λ (t : Tuple). r ≡ t → ⊥) (plain_of rows)) ((tuple_eq-decides c.row row).0 e)
        (first_apart c.row (plain_of rows) h)) in
        omega (arith, it, first, more, rest)
    by false e rest =
        let it : cond (tuple_eq c.row row) c.copies (copies_among rows row) ≡ copies_among rows row =
        ap (λ (b : Bool). cond b c.copies (copies_among rows row)) e in
        let first : counts row c ≡ 0 = ap (λ (b : Bool). cond b c.copies 0) e in
        let more = sum_by-cons (counts row) c rows in
        omega (arith, it, first, more, rest)

pub differ_moved : (rows moved : List Tuple) → IsPermutation rows moved → AreDifferent rows → AreDifferent moved
differ_moved rows moved p h =
    AllPairs-from_IsDistinct tuple_eq-decides moved
    (IsDistinct-IsPermutation tuple_eq tuple_eq_back rows moved p (IsDistinct-from_AllPairs tuple_eq-decides rows h))

pub copies_moved : (rows moved : List CountedRow) (row : Tuple) → AreDifferent (plain_of rows)
    → IsPermutation rows moved → copies_among moved row ≡ copies_among rows row
copies_moved rows moved row h p =
    as_counts moved row (differ_moved (plain_of rows) (plain_of moved) (tuples_moved rows moved p) h)
    ∙ sum_by-IsPermutation (counts row) rows moved p
    ∙ sym (as_counts rows row h)

-- ---- changed alike in another order

pub with_row_moved : (rows moved : List CountedRow) (row : Tuple) → IsPermutation rows moved
    → IsPermutation (with_row rows row) (with_row moved row)
with_row_moved rows moved row p = IsPermutation-append_left (record { row = row; copies = 1 } ∷ []) rows moved p

abbrev counted_eq : CountedRow → CountedRow → Bool
counted_eq c d = tuple_eq c.row d.row && (c.copies == d.copies)

counted_eq-decides : (c d : CountedRow) → Decides (counted_eq c d) (c ≡ d)
counted_eq-decides c d =
    let both = Decides-and (tuple_eq c.row d.row) (c.copies == d.copies) (tuple_eq-decides c.row d.row)
    (Decides-eqb c.copies d.copies) in (
      λ e. let k = both.0 e in ap₂ (λ (r : Tuple) (n : ℕ). record { row = r; copies = n }) k.0 k.1,
      λ e. both.1 (ap (λ (x : CountedRow). x.row) e, ap (λ (x : CountedRow). x.copies) e),
    )

pub without_moved : (rows moved : List CountedRow) (row : Tuple) → AreDifferent (plain_of rows)
    → has_row (plain_of rows) row ≡ true → IsPermutation rows moved
    → IsPermutation (without_copies rows row) (without_copies moved row)
without_moved rows moved row h there p =
    let it : CountedRow = record { row = row; copies = copies_among rows row } in
    let has : has_row (plain_of moved) row ≡ true =
    has_moved (plain_of rows) (plain_of moved) row (tuples_moved rows moved p) ∙ there in
    let front : IsPermutation moved (it ∷ without_copies moved row) =
    subst (λ (n : ℕ). IsPermutation moved (record { row = row; copies = n } ∷ without_copies moved row))
    (copies_moved rows moved row h p) (copies_front moved row has) in
    one_less counted_eq counted_eq-decides it (without_copies rows row) (without_copies moved row)
    (IsPermutation-trans (it ∷ without_copies rows row) rows (it ∷ without_copies moved row)
    (IsPermutation-sym rows (it ∷ without_copies rows row) (copies_front rows row there))
    (IsPermutation-trans rows moved (it ∷ without_copies moved row) p front))

pub with_copies_moved : (rows moved : List CountedRow) (row : Tuple) (n : ℕ) → AreDifferent (plain_of rows)
    → has_row (plain_of rows) row ≡ true → IsPermutation rows moved
    → IsPermutation (with_copies rows row n) (with_copies moved row n)
with_copies_moved rows moved row n h there p =
    let it : CountedRow = record { row = row; copies = n } in
    let has : has_row (plain_of moved) row ≡ true =
    has_moved (plain_of rows) (plain_of moved) row (tuples_moved rows moved p) ∙ there in
    IsPermutation-trans (with_copies rows row n) (it ∷ without_copies rows row) (with_copies moved row n)
    (changed_front rows row n there)
    (IsPermutation-trans (it ∷ without_copies rows row) (it ∷ without_copies moved row) (with_copies moved row n)
    (IsPermutation-cons it (without_copies rows row) (without_copies moved row)
    (without_moved rows moved row h there p))
    (IsPermutation-sym (with_copies moved row n) (it ∷ without_copies moved row) (changed_front moved row n has)))

-- where no row stands twice, one that has gone has no copies
pub gone_copies : (rows : List CountedRow) (row : Tuple) → AreDifferent (plain_of rows)
    → copies_among (without_copies rows row) row ≡ 0
gone_copies [] row h = refl
gone_copies (c ∷ rows) row h =
    by (tuple_eq c.row row) refl (gone_copies rows row (rest_differ c.row (plain_of rows) h))
  where
    by : (b : Bool) → tuple_eq c.row row ≡ b → copies_among (without_copies rows row) row ≡ 0
        → copies_among (cond b rows (c ∷ without_copies rows row)) row ≡ 0
    by true e rest =
        as_counts rows row (rest_differ c.row (plain_of rows) h)
        ∙ none_counts rows row
        (subst (λ (r : Tuple). All (λ (t : Tuple). r ≡ t → ⊥) (plain_of rows)) ((tuple_eq-decides c.row row).0 e)
        (first_apart c.row (plain_of rows) h))
    by false e rest = ap (λ (b : Bool). cond b c.copies (copies_among (without_copies rows row) row)) e ∙ rest
