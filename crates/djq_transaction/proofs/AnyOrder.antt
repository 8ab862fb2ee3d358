-- The copies of rows that lines name may be set in any order, but for those that come among themselves.
use Rattle.std.specs.Prelude.{ℕ, zero, suc, List, [], ◌∷◌, ◌≡◌, ◌⊎◌, ◌&&◌, ◌++◌, Bool, true, false, not, cond}
use Rattle.std.specs.Prelude.{Option, None, Some, fold, filter, nat_lt, All, Contains}
use Rattle.std.proofs.Common.{refl, sym, ap, ◌∙◌, subst, inl, inr, arith}
use Rattle.std.proofs.lemmas.Bool.{false≢true, false_from_ne_true, eq-eqb, lt-ltb}
use Rattle.std.proofs.lemmas.List.Elements.{All-head, All-tail, All-contains, All-filter}
use Rattle.djq_model.specs.declared.relation.Relation.{Relation}
use Rattle.djq_model.specs.declared.relation.CountedRow.{CountedRow}
use Rattle.djq_model.specs.Data.{Bytes, Tuple, bytes_eq, tuple_eq, counted_of, relation_of, has_row, plain_of}
use Rattle.djq_model.specs.Data.{rows_of, with_copies, without_copies}
use Rattle.djq_model.specs.Equality.{bytes_eq-decides, tuple_eq-decides}
use Rattle.djq_model.proofs.Copies.{no_copies}
use Rattle.djq_answer_laws.proofs.Lists.{hold_each, pairs_head, pairs_tail}
use Rattle.djq_store_spec.specs.Relations.{with_rows}
use Rattle.djq_store_spec.proofs.Relations.{counted_here, counted_apart}
use Rattle.djq_store_spec.specs.Held.{HeldLine}
use Rattle.djq_store_spec.specs.Lines.{copies_before, copies_after, line_comes, first_lines, with_so_many}
use Rattle.djq_store_spec.specs.Lines.{with_copies_left, relations_between, relations_after}
use Rattle.djq_transaction.specs.LookUp.{AreSame}
use Rattle.djq_transaction.proofs.FirstLines.{AreApart, same_back}
use Rattle.djq_transaction.proofs.Entries.{all_apart}
use Rattle.djq_store_spec.proofs.SoManyCopies.{many_new, many_has_others}
use Rattle.djq_transaction.proofs.Applying.{rows_twice, row_stays}

-- ---- the rows of a list, one of which is changed or gone

abbrev put : CountedRow → Option ℕ → List CountedRow → List CountedRow
put c None rows = rows
put c (Some n) rows = record c { copies = n } ∷ rows

abbrev alter : List CountedRow → Tuple → Option ℕ → List CountedRow
alter [] row k = []
alter (c ∷ rows) row k = cond (tuple_eq c.row row) (put c k rows) (c ∷ alter rows row k)

-- how many copies: none where it is gone
abbrev kept : ℕ → Option ℕ
kept zero = None
kept (suc n) = Some (suc n)

without_alter : (rows : List CountedRow) (row : Tuple) → without_copies rows row ≡ alter rows row None
without_alter [] row = refl
without_alter (c ∷ rows) row =
    ap (λ (rs : List CountedRow). cond (tuple_eq c.row row) rows (c ∷ rs)) (without_alter rows row)

copies_alter : (rows : List CountedRow) (row : Tuple) (n : ℕ) → with_copies rows row n ≡ alter rows row (Some n)
copies_alter [] row n = refl
copies_alter (c ∷ rows) row n =
    ap (λ (rs : List CountedRow). cond (tuple_eq c.row row) (record c { copies = n } ∷ rows) (c ∷ rs))
    (copies_alter rows row n)

-- a row that is to be gone, or is there
abbrev pub IsFixed : List CountedRow → Tuple → ℕ → Type 0
IsFixed rows row n = (n ≡ 0) ⊎ (has_row (plain_of rows) row ≡ true)

many_alter : (rows : List CountedRow) (row : Tuple) (n : ℕ) → IsFixed rows row n
    → with_so_many rows row n ≡ alter rows row (kept n)
many_alter rows row zero f = without_alter rows row
many_alter rows row (suc n) (inl e) = absurd (omega (arith, e))
many_alter rows row (suc n) (inr e) =
    ap (λ (b : Bool). cond b (with_copies rows row (suc n)) (rows ++ record { row = row; copies = suc n } ∷ [])) e
    ∙ copies_alter rows row (suc n)

apart_rows : (t x y : Tuple) → tuple_eq x y ≡ false → tuple_eq t x ≡ true → tuple_eq t y ≡ false
apart_rows t x y h e = subst (λ (z : Tuple). tuple_eq z y ≡ false) (sym ((tuple_eq-decides t x).0 e)) h

put_alter : (c : CountedRow) (rows : List CountedRow) (row : Tuple) (k m : Option ℕ) → tuple_eq c.row row ≡ false
    → alter (put c k rows) row m ≡ put c k (alter rows row m)
put_alter c rows row None m e = refl
put_alter c rows row (Some n) m e = ap (λ (b : Bool). cond b (put (record c { copies = n }) m rows)
    (record c { copies = n } ∷ alter rows row m)) e

alter_swap : (rows : List CountedRow) (x y : Tuple) (k m : Option ℕ) → tuple_eq x y ≡ false
    → alter (alter rows x k) y m ≡ alter (alter rows y m) x k
alter_swap [] x y k m h = refl
alter_swap (c ∷ rows) x y k m h =
    by (tuple_eq c.row x) (tuple_eq c.row y) refl refl (alter_swap rows x y k m h)
  where
    by : (a b : Bool) → tuple_eq c.row x ≡ a → tuple_eq c.row y ≡ b
        → alter (alter rows x k) y m ≡ alter (alter rows y m) x k
        → alter (cond a (put c k rows) (c ∷ alter rows x k)) y m
        ≡ alter (cond b (put c m rows) (c ∷ alter rows y m)) x k
    by true true e f rest = absurd (false≢true (sym (apart_rows c.row x y h e) ∙ f))
    by true false e f rest = put_alter c rows y k m f
        ∙ sym (ap (λ (b : Bool). cond b (put c k (alter rows y m)) (c ∷ alter (alter rows y m) x k)) e)
    by false true e f rest =
        ap (λ (b : Bool). cond b (put c m (alter rows x k)) (c ∷ alter (alter rows x k) y m)) f
        ∙ sym (put_alter c rows x m k e)
    by false false e f rest =
        ap (λ (b : Bool). cond b (put c m (alter rows x k)) (c ∷ alter (alter rows x k) y m)) f
        ∙ ap (λ (rs : List CountedRow). c ∷ rs) rest
        ∙ sym (ap (λ (b : Bool). cond b (put c k (alter rows y m)) (c ∷ alter (alter rows y m) x k)) e)

alter_last : (rows : List CountedRow) (x : Tuple) (k : Option ℕ) (last : CountedRow) → tuple_eq last.row x ≡ false
    → alter (rows ++ last ∷ []) x k ≡ alter rows x k ++ last ∷ []
alter_last [] x k last h = ap (λ (b : Bool). cond b (put last k []) (last ∷ [])) h
alter_last (c ∷ rows) x k last h = by (tuple_eq c.row x) (alter_last rows x k last h)
  where
    put_last : (j : Option ℕ) → put c j (rows ++ last ∷ []) ≡ put c j rows ++ last ∷ []
    put_last None = refl
    put_last (Some n) = refl

    by : (b : Bool) → alter (rows ++ last ∷ []) x k ≡ alter rows x k ++ last ∷ []
        → cond b (put c k (rows ++ last ∷ [])) (c ∷ alter (rows ++ last ∷ []) x k)
        ≡ cond b (put c k rows) (c ∷ alter rows x k) ++ last ∷ []
    by true rest = put_last k
    by false rest = ap (λ (rs : List CountedRow). c ∷ rs) rest

-- ---- so many copies of two rows

many_swap : (rows : List CountedRow) (x y : Tuple) (n m : ℕ) → tuple_eq x y ≡ false → IsFixed rows x n
    → with_so_many (with_so_many rows x n) y m ≡ with_so_many (with_so_many rows y m) x n
many_swap rows x y n m h f = by m (has_row (plain_of rows) y) refl
  where
    back : tuple_eq y x ≡ false
    back = false_from_ne_true (tuple_eq y x) (λ e.
        let yes : tuple_eq x y ≡ true = (tuple_eq-decides x y).1 (sym ((tuple_eq-decides y x).0 e)) in
        false≢true (sym h ∙ yes))

    fixed : (k : ℕ) → IsFixed rows x n → IsFixed (with_so_many rows y k) x n
    fixed k (inl e) = inl e
    fixed k (inr e) = inr (many_has_others rows y x k back ∙ e)

    -- y is to be gone, or there
    both : (k : ℕ) → IsFixed rows y k → IsFixed (with_so_many rows x n) y k
        → with_so_many (with_so_many rows x n) y k ≡ with_so_many (with_so_many rows y k) x n
    both k g after =
        many_alter (with_so_many rows x n) y k after
        ∙ ap (λ (rs : List CountedRow). alter rs y (kept k)) (many_alter rows x n f)
        ∙ alter_swap rows x y (kept n) (kept k) h
        ∙ ap (λ (rs : List CountedRow). alter rs x (kept n)) (sym (many_alter rows y k g))
        ∙ sym (many_alter (with_so_many rows y k) x n (fixed k f))

    by : (k : ℕ) (b : Bool) → has_row (plain_of rows) y ≡ b
        → with_so_many (with_so_many rows x n) y k ≡ with_so_many (with_so_many rows y k) x n
    by zero b e = both zero (inl refl) (inl refl)
    by (suc k) true e = both (suc k) (inr e) (inr (many_has_others rows x y n h ∙ e))
    by (suc k) false e =
        let last : CountedRow = record { row = y; copies = suc k } in
        many_new (with_so_many rows x n) y k (many_has_others rows x y n h ∙ e)
        ∙ ap (λ (rs : List CountedRow). rs ++ last ∷ []) (many_alter rows x n f)
        ∙ sym (alter_last rows x (kept n) last back)
        ∙ ap (λ (rs : List CountedRow). alter rs x (kept n)) (sym (many_new rows y k e))
        ∙ sym (many_alter (with_so_many rows y (suc k)) x n (fixed (suc k) f))

-- ---- relations

apart_names : (t x y : Bytes) → bytes_eq x y ≡ false → bytes_eq t x ≡ true → bytes_eq t y ≡ false
apart_names t x y h e = subst (λ (z : Bytes). bytes_eq z y ≡ false) (sym ((bytes_eq-decides t x).0 e)) h

rows_swap : (rs : List Relation) (a b : Bytes) (xs ys : List CountedRow) → bytes_eq a b ≡ false
    → with_rows (with_rows rs a xs) b ys ≡ with_rows (with_rows rs b ys) a xs
rows_swap [] a b xs ys h = refl
rows_swap (r ∷ rs) a b xs ys h =
    by (bytes_eq r.name a) (bytes_eq r.name b) refl refl (rows_swap rs a b xs ys h)
  where
    by : (p q : Bool) → bytes_eq r.name a ≡ p → bytes_eq r.name b ≡ q
        → with_rows (with_rows rs a xs) b ys ≡ with_rows (with_rows rs b ys) a xs
        → with_rows (cond p (record r { rows = xs } ∷ rs) (r ∷ with_rows rs a xs)) b ys
        ≡ with_rows (cond q (record r { rows = ys } ∷ rs) (r ∷ with_rows rs b ys)) a xs
    by true true e f rest = absurd (false≢true (sym (apart_names r.name a b h e) ∙ f))
    by true false e f rest =
        ap (λ (t : Bool). cond t (record r { rows = ys } ∷ rs) (record r { rows = xs } ∷ with_rows rs b ys)) f
        ∙ sym (ap (λ (t : Bool). cond t (record r { rows = xs } ∷ with_rows rs b ys)
        (r ∷ with_rows (with_rows rs b ys) a xs)) e)
    by false true e f rest =
        ap (λ (t : Bool). cond t (record r { rows = ys } ∷ with_rows rs a xs)
        (r ∷ with_rows (with_rows rs a xs) b ys)) f
        ∙ sym (ap (λ (t : Bool). cond t (record r { rows = xs } ∷ rs) (record r { rows = ys } ∷ with_rows rs a xs)) e)
    by false false e f rest =
        ap (λ (t : Bool). cond t (record r { rows = ys } ∷ with_rows rs a xs)
        (r ∷ with_rows (with_rows rs a xs) b ys)) f
        ∙ ap (λ (qs : List Relation). r ∷ qs) rest
        ∙ sym (ap (λ (t : Bool). cond t (record r { rows = xs } ∷ with_rows rs b ys)
        (r ∷ with_rows (with_rows rs b ys) a xs)) e)

none_rows : (rs : List Relation) (name : Bytes) (rows : List CountedRow) → relation_of rs name ≡ None
    → with_rows rs name rows ≡ rs
none_rows [] name rows e = refl
none_rows (r ∷ rs) name rows e = by (bytes_eq r.name name) e (λ k. none_rows rs name rows k)
  where
    by : (b : Bool) → cond b (Some r) (relation_of rs name) ≡ None
        → (relation_of rs name ≡ None → with_rows rs name rows ≡ rs)
        → cond b (record r { rows = rows } ∷ rs) (r ∷ with_rows rs name rows) ≡ r ∷ rs
    by true k rest = absurd (cc k)
    by false k rest = ap (λ (qs : List Relation). r ∷ qs) (rest k)

twice_here : (rs : List Relation) (name : Bytes) (rows : List CountedRow) (f : List CountedRow → List CountedRow)
    → with_rows (with_rows rs name rows) name (f (counted_of (with_rows rs name rows) name))
    ≡ with_rows rs name (f rows)
twice_here rs name rows f =
    rows_twice rs name rows (f (counted_of (with_rows rs name rows) name)) ∙ by (relation_of rs name) refl
  where
    by : (o : Option Relation) → relation_of rs name ≡ o
        → with_rows rs name (f (counted_of (with_rows rs name rows) name)) ≡ with_rows rs name (f rows)
    by None e = none_rows rs name (f (counted_of (with_rows rs name rows) name)) e ∙ sym (none_rows rs name (f rows) e)
    by (Some r) e = ap (λ (us : List CountedRow). with_rows rs name (f us)) (counted_here rs name rows r e)

-- ---- lines

module _ (base : List Relation) (lines : List HeldLine) where
  abbrev step : List Relation → HeldLine → List Relation
  step = with_copies_left base lines

  abbrev left : HeldLine → ℕ
  left h = copies_after base lines h

  abbrev IsFixedIn : List Relation → HeldLine → Type 0
  IsFixedIn now h = IsFixed (counted_of now h.relation) h.row (left h)

  abbrev set : HeldLine → List CountedRow → List CountedRow
  set h rows = with_so_many rows h.row (copies_after base lines h)

  steps_swap : (now : List Relation) (x y : HeldLine) → (AreSame y x → ⊥) → IsFixedIn now x
      → step (step now x) y ≡ step (step now y) x
  steps_swap now x y apart f = by (bytes_eq x.relation y.relation) refl
    where
      by : (b : Bool) → bytes_eq x.relation y.relation ≡ b → step (step now x) y ≡ step (step now y) x
      by false e =
          let back : bytes_eq y.relation x.relation ≡ false = false_from_ne_true (bytes_eq y.relation x.relation) (λ k.
          let yes : bytes_eq x.relation y.relation ≡ true =
          (bytes_eq-decides x.relation y.relation).1 (sym ((bytes_eq-decides y.relation x.relation).0 k)) in
          false≢true (sym e ∙ yes)) in
          ap (λ (us : List CountedRow). with_rows (step now x) y.relation (with_so_many us y.row (left y)))
          (counted_apart now x.relation (set x (counted_of now x.relation)) y.relation back)
          ∙ rows_swap now x.relation y.relation (set x (counted_of now x.relation)) (set y (counted_of now y.relation)) e
          ∙ sym (ap (λ (us : List CountedRow). with_rows (step now y) x.relation (with_so_many us x.row (left x)))
          (counted_apart now y.relation (set y (counted_of now y.relation)) x.relation e))
      by true e =
          let same : x.relation ≡ y.relation = (bytes_eq-decides x.relation y.relation).0 e in
          let rows = counted_of now x.relation in
          let differ : tuple_eq x.row y.row ≡ false = false_from_ne_true (tuple_eq x.row y.row) (λ k.
          apart (record { relation = sym same; row = sym ((tuple_eq-decides x.row y.row).0 k) })) in
          ap (λ (n : Bytes). with_rows (step now x) n (with_so_many (counted_of (step now x) n) y.row (left y))) (sym same)
          ∙ twice_here now x.relation (set x rows) (set y)
          ∙ ap (λ (us : List CountedRow). with_rows now x.relation us)
          (many_swap rows x.row y.row (left x) (left y) differ f)
          ∙ sym (twice_here now x.relation (set y rows) (set x))
          ∙ ap (λ (n : Bytes). with_rows (with_rows now n (set y (counted_of now n))) x.relation
          (set x (counted_of (with_rows now n (set y (counted_of now n))) x.relation))) same

  fixed_on : (now : List Relation) (g x : HeldLine) → (AreSame g x → ⊥) → IsFixedIn now x → IsFixedIn (step now g) x
  fixed_on now g x apart (inl e) = inl e
  fixed_on now g x apart (inr e) = inr (row_stays base lines x now (g ∷ [])
      (hold_each (λ (k : HeldLine). AreSame k x → ⊥) (g ∷ []) (λ k c. one k c)) ∙ e)
    where
      one : (k : HeldLine) → Contains (g ∷ []) k → AreSame k x → ⊥
      one k (zero, l, same) s = apart (subst (λ (m : HeldLine). AreSame m x) (sym same) s)
      one k (suc i, l, same) s = absurd (omega (arith, l))

  past : (now : List Relation) (x : HeldLine) (gs : List HeldLine) → IsFixedIn now x → All (λ g. AreSame g x → ⊥) gs
      → fold step (step now x) gs ≡ step (fold step now gs) x
  past now x [] f apart = refl
  past now x (g ∷ gs) f apart =
      let first = All-head (λ (k : HeldLine). AreSame k x → ⊥) g gs apart in
      ap (λ (rs : List Relation). fold step rs gs) (steps_swap now x g first f)
      ∙ past (step now g) x gs (fixed_on now g x first f) (All-tail (λ (k : HeldLine). AreSame k x → ⊥) g gs apart)

  abbrev comes : HeldLine → Bool
  comes h = line_comes base lines h

  abbrev stays : HeldLine → Bool
  stays h = not (line_comes base lines h)

  come_first : (now : List Relation) (hs : List HeldLine) → AreApart hs
      → All (λ h. comes h ≡ false → IsFixedIn now h) hs
      → fold step now hs ≡ fold step (fold step now (filter comes hs)) (filter stays hs)
  come_first now [] apart fixed = refl
  come_first now (x ∷ hs) apart fixed =
      by (comes x) refl (come_first (step now x) hs (pairs_tail (λ (g h : HeldLine). AreSame g h → ⊥) x hs apart)
      (hold_each (λ (h : HeldLine). comes h ≡ false → IsFixedIn (step now x) h) hs
      (λ h k e. fixed_on now x h (others h k)
      (All-contains (λ (g : HeldLine). comes g ≡ false → IsFixedIn now g) hs h
      (All-tail (λ (g : HeldLine). comes g ≡ false → IsFixedIn now g) x hs fixed) k e))))
    where
      others : (h : HeldLine) → Contains hs h → AreSame x h → ⊥
      others h k = All-contains (λ (g : HeldLine). AreSame x g → ⊥) hs h
          (pairs_head (λ (g h : HeldLine). AreSame g h → ⊥) x hs apart) k

      by : (b : Bool) → comes x ≡ b
          → fold step (step now x) hs ≡ fold step (fold step (step now x) (filter comes hs)) (filter stays hs)
          → fold step (step now x) hs
          ≡ fold step (fold step now (cond b (x ∷ filter comes hs) (filter comes hs)))
          (cond (not b) (x ∷ filter stays hs) (filter stays hs))
      by true e rest = rest
      by false e rest = rest
          ∙ ap (λ (rs : List Relation). fold step rs (filter stays hs))
          (past now x (filter comes hs) (All-head (λ (g : HeldLine). comes g ≡ false → IsFixedIn now g) x hs fixed e)
          (All-filter comes (λ (g : HeldLine). AreSame g x → ⊥) hs
          (hold_each (λ (g : HeldLine). AreSame g x → ⊥) hs (λ g k s. others g k (same_back g x s)))))

  -- a row that doesn't come was there, or is gone
  fixed_before : (h : HeldLine) → comes h ≡ false → IsFixedIn base h
  fixed_before h e = by (copies_after base lines h) refl (has_row (rows_of base h.relation) h.row) refl
    where
      by : (n : ℕ) → copies_after base lines h ≡ n → (b : Bool) → has_row (rows_of base h.relation) h.row ≡ b
          → IsFixedIn base h
      by zero k b there = inl k
      by (suc n) k true there = inr there
      by (suc n) k false there =
          let none : copies_before base h ≡ 0 = no_copies (counted_of base h.relation) h.row there in
          let yes : comes h ≡ true =
          ap (λ (b : Bool). b && nat_lt 0 (copies_after base lines h)) (eq-eqb (copies_before base h) 0 none)
          ∙ lt-ltb 0 (copies_after base lines h) (omega (arith, k)) in
          absurd (false≢true (sym e ∙ yes))

  -- So the rows that come may be inserted first.
  pub after_is : relations_after base lines
      ≡ fold step (relations_between base lines) (filter stays (first_lines lines))
  after_is = come_first base (first_lines lines) (all_apart lines)
      (hold_each (λ (h : HeldLine). comes h ≡ false → IsFixedIn base h) (first_lines lines) (λ h k. fixed_before h))
