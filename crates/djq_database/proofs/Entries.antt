-- Entries, the rows that their tuples are with their copies, and a walk over them.
use Rattle.std.proofs.Common.{◌≡◌, ℕ, ◌<◌, Bool, true, false, cond, List, [], ◌∷◌, ◌++◌, length, refl, sym, ap, ◌∙◌}
use Rattle.std.proofs.Common.{subst, inl, inr, arith, ◌+◌, ◌≤◌, ap₂, ◌-◌, take, drop, drop_at, length-append}
use Rattle.std.proofs.Common.{length-drop, length-take-le, take-append-drop}
use Rattle.std.specs.Prelude.{map, Option, Some, None, is_some, MatchOption}
use Rattle.std.specs.List.{AllByRecursion}
use Rattle.std.proofs.lemmas.Bool.{cases_Bool, false≢true}
use Rattle.std.proofs.lemmas.List.{length-map, map-append}
use Rattle.std.proofs.lemmas.List.Elements.{All-from_recursion}
use Rattle.std.proofs.lemmas.List.Kept.{AllPairs-cons}
use Rattle.djq_dictionary.specs.Known.{AllDifferent}
use Rattle.djq_model.specs.declared.relation.ColumnType.{ColumnType}
use Rattle.djq_model.specs.declared.relation.CountedRow.{CountedRow}
use Rattle.djq_model.specs.Data.{Bytes, Tuple, tuple_eq, has_row, plain_of, copies_among, with_copies, without_copies}
use Rattle.djq_model.specs.Answer.{AreDifferent}
use Rattle.djq_model.specs.Equality.{tuple_eq-decides}
use Rattle.djq_index.specs.declared.place.Place.{Place}
use Rattle.djq_index.specs.Tuple.{same}
use Rattle.djq_index.specs.Entries.{Entry, count_of, supports_of, head_at}
use Rattle.djq_index.specs.Table.{IsAt, TuplesDiffer, AreSupported, IsOccupied}
use Rattle.djq_index.proofs.Tuples.{same_is, is_same, one_true, one_false, same_cases, cnt_cons, cnt_length, cnt_middle}
use Rattle.djq_index.proofs.Tuples.{supp_cons, there, supp_none, cnt_supp}
use Rattle.djq_index.proofs.Groups.{walk_cut}
use Rattle.djq_database.specs.Parts.{row_of, tuples_of, AreWithin, counted_row, IsCopied}
use Rattle.djq_database.specs.Rows.{row_place, Rows, row_place_of}
use Rattle.djq_database.specs.Tuples.{HasTuple}
use Rattle.djq_database.specs.Catalog.{CopiesAreInRange}
use Rattle.djq_database.specs.Walking.{entries_left, tuples_left, IsWalk}
use Rattle.djq_database.proofs.Cells.{same_cells, row_grown, Grown}

-- ---- Entries, and the rows that their tuples are.

-- a tuple that is found

pub found : (es : List Entry) (slot : ℕ) (u : List ℕ) → IsAt es (row_place slot) u → 0 < count_of es u
found es slot u a = there es a.front a.entry a.back u a.is a.tuple

pub found_has : (es : List Entry) (u : List ℕ) (r : Option ℕ) (b : Bool) → MatchOption r (count_of es u
    ≡ 0) (λ slot. IsAt es (row_place slot) u) → b ≡ is_some r → HasTuple es u b
found_has es u None true h e = absurd cc
found_has es u None false h e = h
found_has es u (Some slot) true h e = found es slot u h
found_has es u (Some slot) false h e = absurd cc

-- the rows of entries

abbrev pub rows_in : List Bytes → List ColumnType → List Entry → List Tuple
rows_in texts ts es = map (row_of texts ts) (tuples_of es)

abbrev pub Within : List Bytes → List ColumnType → List Entry → Type 0
Within texts ts es = AllByRecursion (AreWithin texts ts) (tuples_of es)

pub rows_cons : (texts : List Bytes) (ts : List ColumnType) (e : Entry) (es : List Entry) → rows_in
    texts ts (e ∷ es) ≡ row_of texts ts e.tuple ∷ rows_in texts ts es
unfolding tuples_of
rows_cons texts ts e es = refl

pub within_first : (texts : List Bytes) (ts : List ColumnType) (e : Entry) (es : List Entry) →
    Within texts ts (e ∷ es) → AreWithin texts ts e.tuple
unfolding tuples_of
within_first texts ts e es h = h.0

pub within_rest : (texts : List Bytes) (ts : List ColumnType) (e : Entry) (es : List Entry) → Within
    texts ts (e ∷ es) → Within texts ts es
unfolding tuples_of
within_rest texts ts e es h = h.1

rows_nil : (texts : List Bytes) (ts : List ColumnType) → rows_in texts ts [] ≡ []
unfolding tuples_of
rows_nil texts ts = refl

pub rows_long : (texts : List Bytes) (ts : List ColumnType) (es : List Entry) → length (rows_in
    texts ts es) ≡ length es
unfolding tuples_of
rows_long texts ts es = length-map (map (λ (e : Entry). e.tuple) es) (row_of texts ts) ∙ length-map
    es (λ (e : Entry). e.tuple)

pub within_push : (texts : List Bytes) (ts : List ColumnType) (xs : List Entry) (e : Entry) → Within
    texts ts xs → AreWithin texts ts e.tuple → Within texts ts (xs ++ e ∷ [])
unfolding tuples_of
within_push texts ts [] e h k = (k, tt)
within_push texts ts (x ∷ xs) e h k = (h.0, within_push texts ts xs e h.1 k)

pub within_out : (texts : List Bytes) (ts : List ColumnType) (xs : List Entry) (e : Entry) (ys :
    List Entry) → Within texts ts (xs ++ e ∷ ys) → Within texts ts (xs ++ ys)
unfolding tuples_of
within_out texts ts [] e ys h = h.1
within_out texts ts (x ∷ xs) e ys h = (h.0, within_out texts ts xs e ys h.1)

pub within_in : (texts : List Bytes) (ts : List ColumnType) (xs : List Entry) (d e : Entry) (ys :
    List Entry) → e.tuple ≡ d.tuple → Within texts ts (xs ++ d ∷ ys) → Within texts ts (xs ++ e ∷
    ys)
unfolding tuples_of
within_in texts ts [] d e ys t h = (subst (AreWithin texts ts) (sym t) h.0, h.1)
within_in texts ts (x ∷ xs) d e ys t h = (h.0, within_in texts ts xs d e ys t h.1)

-- a tuple and its row

pub row_yes : (texts : List Bytes) (ts : List ColumnType) (u v : List ℕ) → u ≡ v → tuple_eq (row_of
    texts ts u) (row_of texts ts v) ≡ true
row_yes texts ts u v e = (tuple_eq-decides (row_of texts ts u) (row_of texts ts v)).1 (ap (row_of
    texts ts) e)

pub row_no : (texts : List Bytes) (ts : List ColumnType) (u v : List ℕ) → AllDifferent texts → AreWithin
    texts ts u → AreWithin texts ts v → (u ≡ v → ⊥) → tuple_eq (row_of texts ts u) (row_of texts ts
    v) ≡ false
row_no texts ts u v d h k other = elim (cases_Bool (tuple_eq (row_of texts ts u) (row_of texts ts
    v))) [
      | inl e ↦ absurd (other (same_cells texts ts u v d h k ((tuple_eq-decides (row_of texts ts u)
          (row_of texts ts v)).0 e)))
      | inr e ↦ e
    ]

none_first : (e : Entry) (es : List Entry) (u : List ℕ) → count_of (e ∷ es) u ≡ 0 → (e.tuple ≡ u) → ⊥
none_first e es u h k = omega (
  arith,
  h,
  cnt_cons e es u,
  one_true (same e.tuple u) (is_same e.tuple
      u k),
)

none_rest : (e : Entry) (es : List Entry) (u : List ℕ) → count_of (e ∷ es) u ≡ 0 → count_of es u ≡ 0
none_rest e es u h = omega (arith, h, cnt_cons e es u)

pub absent_row : (texts : List Bytes) (ts : List ColumnType) (es : List Entry) (u : List ℕ) →
    AllDifferent texts → Within texts ts es → AreWithin texts ts u → count_of es u ≡ 0 → has_row (rows_in
    texts ts es) (row_of texts ts u) ≡ false
unfolding tuples_of
absent_row texts ts [] u d h k n = refl
absent_row texts ts (e ∷ es) u d h k n =
    rw (row_no texts ts e.tuple u d h.0 k (none_first e es u n)) (absent_row texts ts es u d h.1 k
    (none_rest e es u n))

pub present_row : (texts : List Bytes) (ts : List ColumnType) (es : List Entry) (u : List ℕ) → 0 <
    count_of es u → has_row (rows_in texts ts es) (row_of texts ts u) ≡ true
unfolding tuples_of
present_row texts ts [] u n = absurd (omega (arith, n, cnt_length [] u))
present_row texts ts (e ∷ es) u n = elim (cases_Bool (same e.tuple u)) [
  | inl s ↦ rw (row_yes texts ts e.tuple u (same_is e.tuple u s)) refl
  | inr s ↦ by_test (tuple_eq (row_of texts ts e.tuple) (row_of texts ts u)) (present_row texts ts
      es u (omega (arith, n, cnt_cons e es u, one_false (same e.tuple u) s)))
]
  where
    by_test : (b : Bool) → has_row (rows_in texts ts es) (row_of texts ts u) ≡ true → cond b true
        (has_row (rows_in texts ts es) (row_of texts ts u)) ≡ true
    by_test true k = refl
    by_test false k = k

-- apart from an entry its tuple is absent

pub apart_first : (x : Entry) (es : List Entry) → TuplesDiffer (x ∷ es) → count_of es x.tuple ≡ 0
unfolding TuplesDiffer
apart_first x es h = h.0

pub apart_rest : (x : Entry) (es : List Entry) → TuplesDiffer (x ∷ es) → TuplesDiffer es
unfolding TuplesDiffer
apart_rest x es h = h.1

-- different tuples are different rows

others_differ : (texts : List Bytes) (ts : List ColumnType) (es : List Entry) (u : List ℕ) →
    AllDifferent texts → Within texts ts es → AreWithin texts ts u → count_of es u ≡ 0
    → AllByRecursion (λ (r : Tuple). row_of texts ts u ≡ r → ⊥) (rows_in texts ts es)
unfolding tuples_of
others_differ texts ts [] u d h k n = tt
others_differ texts ts (e ∷ es) u d h k n = (
  (λ same. none_first e es u n (same_cells texts ts e.tuple u d h.0 k (sym same))),
  others_differ
      texts ts es u d h.1 k (none_rest e es u n),
)

pub rows_differ : (texts : List Bytes) (ts : List ColumnType) (es : List Entry) → AllDifferent texts
    → Within texts ts es → TuplesDiffer es → AreDifferent (rows_in texts ts es)
rows_differ texts ts [] d h a = subst AreDifferent (sym (rows_nil texts ts)) (λ i j k low high.
    absurd (omega arith))
rows_differ texts ts (e ∷ es) d h a =
    subst AreDifferent (sym (rows_cons texts ts e es))
    (AllPairs-cons (λ (s t : Tuple). s ≡ t → ⊥) (row_of texts ts e.tuple) (rows_in texts ts es)
    (All-from_recursion (λ (r : Tuple). row_of texts ts e.tuple ≡ r → ⊥) (rows_in texts ts es)
    (others_differ texts ts es e.tuple d (within_rest texts ts e es h) (within_first texts ts e
    es h) (apart_first e es a)))
    (rows_differ texts ts es d (within_rest texts ts e es h) (apart_rest e es a)))

-- ---- The rows of entries with their copies, which are the entries' supports.

abbrev pub counted_in : List Bytes → List ColumnType → List Entry → List CountedRow
counted_in texts ts es = map (counted_row texts ts) es

abbrev pub Copied : List Entry → Type 0
Copied es = AllByRecursion IsCopied es

-- without their copies they are the rows of the tuples
pub plain_rows : (texts : List Bytes) (ts : List ColumnType) (es : List Entry)
    → plain_of (counted_in texts ts es) ≡ rows_in texts ts es
unfolding tuples_of counted_row
plain_rows texts ts [] = refl
plain_rows texts ts (e ∷ es) =
    ap (λ (l : List Tuple). row_of texts ts e.tuple ∷ l) (plain_rows texts ts es)

pub counted-append : (texts : List Bytes) (ts : List ColumnType) (xs ys : List Entry)
    → counted_in texts ts (xs ++ ys) ≡ counted_in texts ts xs ++ counted_in texts ts ys
counted-append texts ts xs ys = map-append (counted_row texts ts) xs ys

pub counted_one : (texts : List Bytes) (ts : List ColumnType) (e : Entry) → e.supports ≡ 1
    → counted_in texts ts (e ∷ []) ≡ record { row = row_of texts ts e.tuple; copies = 1 } ∷ []
unfolding counted_row
counted_one texts ts e h = ap (λ (n : ℕ). record {
  row = row_of texts ts e.tuple;
  copies = n;
} ∷ []) h

-- an entry in the middle has the row of no other

entry_within : (texts : List Bytes) (ts : List ColumnType) (xs : List Entry) (e : Entry)
    (ys : List Entry) → Within texts ts (xs ++ e ∷ ys) → AreWithin texts ts e.tuple
entry_within texts ts [] e ys k = within_first texts ts e ys k
entry_within texts ts (x ∷ xs) e ys k =
    entry_within texts ts xs e ys (within_rest texts ts x (xs ++ e ∷ ys) k)

other_row : (texts : List Bytes) (ts : List ColumnType) (x : Entry) (xs : List Entry) (e : Entry)
    (ys : List Entry) → AllDifferent texts → Within texts ts (x ∷ xs ++ e ∷ ys)
    → TuplesDiffer (x ∷ xs ++ e ∷ ys)
    → tuple_eq (row_of texts ts x.tuple) (row_of texts ts e.tuple) ≡ false
other_row texts ts x xs e ys d h a =
    row_no texts ts x.tuple e.tuple d (within_first texts ts x (xs ++ e ∷ ys) h)
    (entry_within texts ts xs e ys (within_rest texts ts x (xs ++ e ∷ ys) h))
    (λ k. omega (
      arith,
      apart_first x (xs ++ e ∷ ys) a,
      cnt_middle xs e ys x.tuple,
      one_true (same e.tuple x.tuple) (is_same e.tuple x.tuple (sym k)),
    ))

-- its copies change
pub recounted : (texts : List Bytes) (ts : List ColumnType) (xs : List Entry) (d e : Entry)
    (ys : List Entry) (n : ℕ) → AllDifferent texts → Within texts ts (xs ++ d ∷ ys)
    → TuplesDiffer (xs ++ d ∷ ys) → e.tuple ≡ d.tuple → e.supports ≡ n
    → with_copies (counted_in texts ts (xs ++ d ∷ ys)) (row_of texts ts d.tuple) n
    ≡ counted_in texts ts (xs ++ e ∷ ys)
unfolding counted_row
recounted texts ts [] d e ys n f h a t s =
    rw (row_yes texts ts d.tuple d.tuple refl)
    (ap₂ (λ (r : Tuple) (m : ℕ). record { row = r; copies = m } ∷ counted_in texts ts ys)
    (ap (row_of texts ts) (sym t)) (sym s))
recounted texts ts (x ∷ xs) d e ys n f h a t s =
    rw (other_row texts ts x xs d ys f h a)
    (ap (λ (l : List CountedRow). counted_row texts ts x ∷ l)
    (recounted texts ts xs d e ys n f (within_rest texts ts x (xs ++ d ∷ ys) h)
    (apart_rest x (xs ++ d ∷ ys) a) t s))

-- it goes
pub dropped_row : (texts : List Bytes) (ts : List ColumnType) (xs : List Entry) (e : Entry)
    (ys : List Entry) → AllDifferent texts → Within texts ts (xs ++ e ∷ ys)
    → TuplesDiffer (xs ++ e ∷ ys)
    → without_copies (counted_in texts ts (xs ++ e ∷ ys)) (row_of texts ts e.tuple)
    ≡ counted_in texts ts (xs ++ ys)
unfolding counted_row
dropped_row texts ts [] e ys d h a = rw (row_yes texts ts e.tuple e.tuple refl) refl
dropped_row texts ts (x ∷ xs) e ys d h a =
    rw (other_row texts ts x xs e ys d h a)
    (ap (λ (l : List CountedRow). counted_row texts ts x ∷ l)
    (dropped_row texts ts xs e ys d (within_rest texts ts x (xs ++ e ∷ ys) h)
    (apart_rest x (xs ++ e ∷ ys) a)))

-- a row's copies are its tuple's supports

supp_nil : (u : List ℕ) → 0 ≡ supports_of [] u
unfolding supports_of
supp_nil u = refl

supp_yes : (e : Entry) (es : List Entry) (u : List ℕ) → same e.tuple u ≡ true
    → supports_of (e ∷ es) u ≡ e.supports + supports_of es u
supp_yes e es u s =
    supp_cons e es u ∙ ap (λ (b : Bool). cond b e.supports 0 + supports_of es u) s

supp_no : (e : Entry) (es : List Entry) (u : List ℕ) → same e.tuple u ≡ false
    → supports_of (e ∷ es) u ≡ supports_of es u
supp_no e es u s =
    let none : supports_of (e ∷ es) u ≡ 0 + supports_of es u =
    supp_cons e es u ∙ ap (λ (b : Bool). cond b e.supports 0 + supports_of es u) s in
    omega (arith, none)

pub copies_row : (texts : List Bytes) (ts : List ColumnType) (es : List Entry) (u : List ℕ)
    → AllDifferent texts → Within texts ts es → AreWithin texts ts u → TuplesDiffer es
    → copies_among (counted_in texts ts es) (row_of texts ts u) ≡ supports_of es u
unfolding counted_row
copies_row texts ts [] u d h k a = supp_nil u
copies_row texts ts (e ∷ es) u d h k a = elim (same_cases e.tuple u) [
  | inl here ↦ rw (row_yes texts ts e.tuple u here) (omega (
    arith,
    supp_yes e es u (is_same e.tuple u here),
    supp_none es u (subst (λ v. count_of es v ≡ 0) here (apart_first e es a)),
  ))
  | inr other ↦ rw (row_no texts ts e.tuple u d (within_first texts ts e es h) k
      (λ s. false≢true (sym other ∙ is_same e.tuple u s)))
      (copies_row texts ts es u d (within_rest texts ts e es h) k (apart_rest e es a)
      ∙ sym (supp_no e es u other))
]

-- each has a copy at least, and no more than there may be

pub copied_push : (xs : List Entry) (e : Entry) → Copied xs → IsCopied e → Copied (xs ++ e ∷ [])
copied_push [] e h k = (k, tt)
copied_push (x ∷ xs) e h k = (h.0, copied_push xs e h.1 k)

pub copied_out : (xs : List Entry) (e : Entry) (ys : List Entry) → Copied (xs ++ e ∷ ys)
    → Copied (xs ++ ys)
copied_out [] e ys h = h.1
copied_out (x ∷ xs) e ys h = (h.0, copied_out xs e ys h.1)

pub copied_in : (xs : List Entry) (d e : Entry) (ys : List Entry) → Copied (xs ++ d ∷ ys)
    → IsCopied e → Copied (xs ++ e ∷ ys)
copied_in [] d e ys h k = (k, h.1)
copied_in (x ∷ xs) d e ys h k = (h.0, copied_in xs d e ys h.1 k)

pub copied_here : (xs : List Entry) (e : Entry) (ys : List Entry) → Copied (xs ++ e ∷ ys)
    → IsCopied e
copied_here [] e ys h = h.0
copied_here (x ∷ xs) e ys h = copied_here xs e ys h.1

pub are_supported : (es : List Entry) → Copied es → AreSupported es
unfolding AreSupported
are_supported [] h = tt
are_supported (e ∷ es) h = (h.0.0, are_supported es h.1)

pub are_counted : (texts : List Bytes) (ts : List ColumnType) (es : List Entry) → Copied es
    → AllByRecursion CopiesAreInRange (counted_in texts ts es)
unfolding counted_row
are_counted texts ts [] h = tt
are_counted texts ts (e ∷ es) h = (h.0, are_counted texts ts es h.1)

-- a tuple that is there has a support at least
pub some_copy : (es : List Entry) (u : List ℕ) → Copied es → 0 < count_of es u → 1 ≤ supports_of es u
some_copy es u h n = omega (arith, cnt_supp es u (are_supported es h) n)

-- more texts change nothing
pub counted_grown : (old new : List Bytes) (ts : List ColumnType) (es : List Entry) → Grown old new
    → Within old ts es → counted_in new ts es ≡ counted_in old ts es
unfolding counted_row
counted_grown old new ts [] g h = refl
counted_grown old new ts (e ∷ es) g h =
    ap₂ (λ (r : Tuple) (l : List CountedRow). record { row = r; copies = e.supports } ∷ l)
    (row_grown old new ts e.tuple g (within_first old ts e es h))
    (counted_grown old new ts es g (within_rest old ts e es h))

-- ---- A walk over the rows of a relation, step by step.

-- the entry at which a walk stands
pub record Ahead (g : List Entry) (j : ℕ) (p : Place) : Type 0 where
  pub entry : Entry
  pub at : entry.at ≡ p
  pub low : j < length g
  pub is : g ≡ take j g ++ entry ∷ drop (j + 1) g
  pub left : drop j g ≡ entry ∷ drop (j + 1) g

pub ahead : (g : List Entry) (j : ℕ) (p : Place) → head_at (drop j g) ≡ Some p → Ahead g j p
ahead g j p h =
    let c = walk_cut g j p h in
    let low : j < length g = omega (
      arith,
      ap (λ (es : List Entry). length es) c.is,
      length-append (take j g) (c.entry ∷ drop (j + 1) g),
      ap (λ (es : List Entry). length es) (take-append-drop j g),
      length-append (take j g) (drop j g),
      length-drop j g,
      length-drop (j + 1) g,
    ) in
    record {
      entry = c.entry;
      at = c.at;
      low = low;
      is = c.is;
      left = ap (drop j) c.is ∙ drop_at (take j g) (c.entry ∷ drop (j + 1) g) j
          (length-take-le j g (omega (arith, low)));
    }

pub all_left : (t : Rows) (n : ℕ) → n ≡ length t.entries → entries_left t n ≡ t.entries
all_left t n e = let none : length t.entries - n ≡ 0 = omega arith in ap (λ k. drop k t.entries)
    none

pub starts : (t : Rows) (next : Option ℕ) (n : ℕ) → n ≡ length t.entries → row_place_of next ≡ head_at
    t.entries → IsWalk t next n
starts t next n long at = record {
  within = omega arith;
  at = at ∙ ap head_at (sym (all_left t n long));
}

pub left_long : (t : Rows) (n : ℕ) → n ≤ length t.entries → length (tuples_left t n) ≡ n
unfolding tuples_of
left_long t n low = let l = length-map (entries_left t n) (λ (e : Entry). e.tuple) in let d =
    length-drop (length t.entries - n) t.entries in omega arith

no_entry : (es : List Entry) → None ≡ head_at es → es ≡ []
unfolding head_at
no_entry [] h = refl
no_entry (e ∷ es) h = absurd cc

pub none_left : (t : Rows) (n : ℕ) → row_place_of None ≡ head_at (entries_left t n) → tuples_left t n ≡
    []
unfolding tuples_of
none_left t n h = ap (map (λ (e : Entry). e.tuple)) (no_entry (entries_left t n) h)

-- where the walk stands, there is an entry
pub stands : (t : Rows) (n slot : ℕ) → row_place_of (Some slot) ≡ head_at (entries_left t n) → Ahead
    t.entries (length t.entries - n) (row_place slot)
stands t n slot h = ahead t.entries (length t.entries - n) (row_place slot) (sym h)

pub stands_at : (t : Rows) (n slot : ℕ) (a : Ahead t.entries (length t.entries - n) (row_place slot)) →
    IsAt t.entries (row_place slot) a.entry.tuple
stands_at t n slot a = record {
  front = take (length t.entries - n) t.entries;
  back = drop (length t.entries - n + 1) t.entries;
  entry = a.entry;
  is = a.is;
  tuple = refl;
  at = a.at;
}

pub stands_live : (t : Rows) (n slot : ℕ) (a : Ahead t.entries (length t.entries - n) (row_place slot))
    → IsOccupied t.entries (row_place slot)
stands_live t n slot a = record { tuple = a.entry.tuple; is_at = stands_at t n slot a }

rest_of : (t : Rows) (n : ℕ) → n ≤ length t.entries → 0 < n → drop (length t.entries - n + 1)
    t.entries ≡ entries_left t (n - 1)
rest_of t n high some = let e : length t.entries - n + 1 ≡ length t.entries - (n - 1) = omega arith
    in ap (λ k. drop k t.entries) e

cons_tuples : (e : Entry) (es : List Entry) → tuples_of (e ∷ es) ≡ e.tuple ∷ tuples_of es
unfolding tuples_of
cons_tuples e es = refl

pub some_left : (t : Rows) (n : ℕ) (p : Place) → Ahead t.entries (length t.entries - n) p → 0 < n
some_left t n p a = omega (arith, a.low)

pub step_left : (t : Rows) (n : ℕ) (p : Place) (a : Ahead t.entries (length t.entries - n) p) → n ≤
    length t.entries → tuples_left t n ≡ a.entry.tuple ∷ tuples_left t (n - 1)
step_left t n p a high =
    ap tuples_of (a.left ∙ ap (λ (es : List Entry). a.entry ∷ es) (rest_of t n high (some_left t n p
    a))) ∙ cons_tuples a.entry (entries_left t (n - 1))

pub steps : (t : Rows) (n slot : ℕ) (next : Option ℕ) (a : Ahead t.entries (length t.entries - n)
    (row_place slot)) → n ≤ length t.entries → row_place_of next ≡ head_at (drop (length t.entries - n + 1)
    t.entries) → IsWalk t next (n - 1)
steps t n slot next a within at = let some = some_left t n (row_place slot) a in record {
  within = omega (arith, within);
  at = at ∙ ap head_at (rest_of t n within some);
}
