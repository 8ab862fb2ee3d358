-- The rows that come stand behind those that a relation has before.
use Rattle.std.specs.Prelude.{ℕ, suc, List, [], ◌∷◌, ◌≡◌, ◌==◌, ◌-◌, ◌++◌, ◌≤◌, ◌<◌, Bool, true, false, cond}
use Rattle.std.specs.Prelude.{Option, None, Some, fold, filter, map, nat_lt, slice_get, All, Contains}
use Rattle.std.specs.Option.{option_map}
use Rattle.std.proofs.Common.{refl, sym, ap, ◌∙◌, subst, arith}
use Rattle.std.proofs.lemmas.Bool.{false≢true, false_from_ne_true, eqb-true}
use Rattle.std.proofs.lemmas.List.{append-nil, map-append}
use Rattle.std.proofs.lemmas.List.Elements.{All-head, All-tail, All-nil, All-cons, All-contains, All-contains_itself}
use Rattle.std.proofs.lemmas.List.Elements.{All-filter}
use Rattle.std.proofs.lemmas.List.Kept.{AllPairs-cons}
use Rattle.std.proofs.lemmas.List.Folds.{find_at}
use Rattle.std.proofs.lemmas.Option.{slice_get_within, get_or_from_slice_get}
use Rattle.djq_model.specs.declared.relation.Relation.{Relation}
use Rattle.djq_model.specs.declared.relation.CountedRow.{CountedRow}
use Rattle.djq_model.specs.Data.{Bytes, Tuple, bytes_eq, counted_in, counted_of, relation_of, rows_of, has_row, plain_of}
use Rattle.djq_model.specs.Data.{copies_among}
use Rattle.djq_model.specs.Equality.{bytes_eq-decides}
use Rattle.djq_answer_laws.proofs.Lists.{first_holds, kept_hold, hold_each, pairs_head, pairs_tail}
use Rattle.djq_database.specs.Catalog.{Catalog, IsCatalog, no_relation, relation_at}
use Rattle.djq_store_spec.specs.Relations.{with_rows}
use Rattle.djq_store_spec.proofs.Relations.{relation_here, relation_apart, counted_here, rows_apart}
use Rattle.djq_store_spec.specs.Held.{HeldLine}
use Rattle.djq_store_spec.specs.Lines.{copies_before, copies_after, line_comes, lines_come, first_lines, with_so_many}
use Rattle.djq_store_spec.specs.Lines.{with_copies_left}
use Rattle.djq_transaction.specs.LookUp.{AreSame}
use Rattle.djq_transaction.specs.Net.{relation_place}
use Rattle.djq_transaction.specs.Settled.{RowsInserted}
use Rattle.djq_transaction.proofs.FirstLines.{AreApart}
use Rattle.djq_transaction.proofs.Entries.{all_apart}
use Rattle.djq_store_spec.proofs.SoManyCopies.{many_new}
use Rattle.djq_transaction.proofs.SetCopies.{counted_some}
use Rattle.djq_transaction.proofs.Applying.{row_stays}
use Rattle.djq_transaction.proofs.SettledLines.{come_some}

abbrev IsFoundIn : List Relation → Bytes → Type 0
IsFoundIn relations name = (r : Relation) × (relation_of relations name ≡ Some r)

found_on : (now : List Relation) (n name : Bytes) (rows : List CountedRow) → IsFoundIn now name
    → IsFoundIn (with_rows now n rows) name
found_on now n name rows f = by (bytes_eq name n) refl
  where
    by : (b : Bool) → bytes_eq name n ≡ b → IsFoundIn (with_rows now n rows) name
    by false e = (f.0, relation_apart now n rows name e ∙ f.1)
    by true e =
        let same : name ≡ n = (bytes_eq-decides name n).0 e in
        subst (λ (m : Bytes). IsFoundIn (with_rows now m rows) name) same
        (with_these (f.0) (relation_here now name rows ∙ ap (option_map (λ (r : Relation). record r { rows = rows })) f.1))
      where
        with_these : (r : Relation) → relation_of (with_rows now name rows) name ≡ Some (record r { rows = rows })
            → IsFoundIn (with_rows now name rows) name
        with_these r k = (record r { rows = rows }, k)

one_behind : (xs : List Tuple) (x : Tuple) (ys : List Tuple) → (xs ++ x ∷ []) ++ ys ≡ xs ++ x ∷ ys
one_behind [] x ys = refl
one_behind (z ∷ zs) x ys = ap (λ (ts : List Tuple). z ∷ ts) (one_behind zs x ys)

module _ (base : List Relation) (lines : List HeldLine) (name : Bytes) where
  abbrev step : List Relation → HeldLine → List Relation
  step = with_copies_left base lines

  abbrev its : HeldLine → Bool
  its h = bytes_eq h.relation name

  abbrev IsAbsentIn : List Relation → HeldLine → Type 0
  IsAbsentIn now h = has_row (rows_of now h.relation) h.row ≡ false

  -- the rows with one that comes
  one_inserted : (now : List Relation) (g : HeldLine) → IsFoundIn now name → IsAbsentIn now g
      → 0 < copies_after base lines g → g.relation ≡ name → rows_of (step now g) name ≡ rows_of now name ++ g.row ∷ []
  one_inserted now g f none some same =
      let n = copies_after base lines g - 1 in
      let next : copies_after base lines g ≡ suc n = omega (arith, some) in
      let rows = counted_of now g.relation in
      ap (λ (m : Bytes). rows_of (step now g) m) (sym same)
      ∙ ap (λ (us : List CountedRow). plain_of us) (counted_here now g.relation
      (with_so_many rows g.row (copies_after base lines g)) f.0
      (ap (λ (m : Bytes). relation_of now m) same ∙ f.1))
      ∙ ap (λ (m : ℕ). plain_of (with_so_many rows g.row m)) next
      ∙ ap (λ (us : List CountedRow). plain_of us) (many_new rows g.row n none)
      ∙ map-append (λ (c : CountedRow). c.row) rows (record { row = g.row; copies = suc n } ∷ [])
      ∙ ap (λ (m : Bytes). rows_of now m ++ g.row ∷ []) same

  all_inserted : (now : List Relation) (gs : List HeldLine) → IsFoundIn now name → AreApart gs
      → All (λ h. IsAbsentIn now h) gs → All (λ h. 0 < copies_after base lines h) gs
      → rows_of (fold step now gs) name ≡ rows_of now name ++ map (λ (h : HeldLine). h.row) (filter its gs)
  all_inserted now [] f apart none some = sym (append-nil (rows_of now name))
  all_inserted now (g ∷ gs) f apart none some =
      by (its g) refl (all_inserted (step now g) gs
      (found_on now g.relation name (with_so_many (counted_of now g.relation) g.row (copies_after base lines g)) f)
      (pairs_tail (λ (x y : HeldLine). AreSame x y → ⊥) g gs apart)
      (hold_each (λ (h : HeldLine). IsAbsentIn (step now g) h) gs
      (λ h k. row_stays base lines h now (g ∷ [])
      (All-cons (λ (x : HeldLine). AreSame x h → ⊥) g []
      (All-contains (λ (y : HeldLine). AreSame g y → ⊥) gs h
      (pairs_head (λ (x y : HeldLine). AreSame x y → ⊥) g gs apart) k)
      (All-nil (λ (x : HeldLine). AreSame x h → ⊥)))
      ∙ All-contains (λ (x : HeldLine). IsAbsentIn now x) gs h (All-tail (λ (x : HeldLine). IsAbsentIn now x) g gs none) k))
      (All-tail (λ (h : HeldLine). 0 < copies_after base lines h) g gs some))
    where
      by : (b : Bool) → its g ≡ b
          → rows_of (fold step (step now g) gs) name
          ≡ rows_of (step now g) name ++ map (λ (h : HeldLine). h.row) (filter its gs)
          → rows_of (fold step (step now g) gs) name
          ≡ rows_of now name ++ map (λ (h : HeldLine). h.row) (cond b (g ∷ filter its gs) (filter its gs))
      by false e rest =
          let other : bytes_eq name g.relation ≡ false = false_from_ne_true (bytes_eq name g.relation) (λ k.
          let yes : its g ≡ true = (bytes_eq-decides g.relation name).1 (sym ((bytes_eq-decides name g.relation).0 k)) in
          false≢true (sym e ∙ yes)) in
          rest ∙ ap (λ (us : List Tuple). us ++ map (λ (h : HeldLine). h.row) (filter its gs))
          (rows_apart now g.relation (with_so_many (counted_of now g.relation) g.row (copies_after base lines g)) name other)
      by true e rest =
          rest ∙ ap (λ (us : List Tuple). us ++ map (λ (h : HeldLine). h.row) (filter its gs))
          (one_inserted now g f (All-head (λ (h : HeldLine). IsAbsentIn now h) g gs none)
          (All-head (λ (h : HeldLine). 0 < copies_after base lines h) g gs some) ((bytes_eq-decides g.relation name).0 e))
          ∙ one_behind (rows_of now name) g.row (map (λ (h : HeldLine). h.row) (filter its gs))

-- a row that a catalog has has a copy
pub some_copies : (c : Catalog) (name : Bytes) (row : Tuple) → IsCatalog c → has_row (rows_of c.relations name) row ≡ true
    → 1 ≤ copies_among (counted_of c.relations name) row
some_copies c name row laws h = by (relation_of c.relations name) refl h
  where
    by : (o : Option Relation) → relation_of c.relations name ≡ o → has_row (plain_of (counted_in o)) row ≡ true
        → 1 ≤ copies_among (counted_of c.relations name) row
    by None k there = absurd (false≢true there)
    by (Some r) k there =
        let at = relation_place c.relations name in
        let here : slice_get c.relations at ≡ Some r =
        sym (find_at (λ (q : Relation). bytes_eq q.name name) c.relations) ∙ k in
        let is : relation_at c.relations at ≡ r = get_or_from_slice_get c.relations at r no_relation here in
        subst (λ (o : Option Relation). 1 ≤ copies_among (counted_in o) row) (sym k)
        (subst (λ (q : Relation). 1 ≤ copies_among q.rows row) is
        (counted_some c at row laws (slice_get_within c.relations at r here)
        (ap (λ (q : Relation). has_row (plain_of q.rows) row) is ∙ there)))

come_absent : (c : Catalog) (lines : List HeldLine) → IsCatalog c
    → All (λ h. has_row (rows_of c.relations h.relation) h.row ≡ false) (lines_come c.relations lines)
come_absent c lines laws =
    kept_hold (Contains (first_lines lines)) (λ (h : HeldLine). has_row (rows_of c.relations h.relation) h.row ≡ false)
    (line_comes c.relations lines) (first_lines lines)
    (λ h came k. false_from_ne_true (has_row (rows_of c.relations h.relation) h.row) (λ there.
    let none = eqb-true (copies_before c.relations h) 0
    (first_holds (copies_before c.relations h == 0) (nat_lt 0 (copies_after c.relations lines h)) came) in
    let some = some_copies c h.relation h.row laws there in
    omega (arith, none, some))) (All-contains_itself (first_lines lines))

-- the lines that come are of different rows
pub come_apart : (p : HeldLine → Bool) (hs : List HeldLine) → AreApart hs → AreApart (filter p hs)
come_apart p [] apart = apart
come_apart p (h ∷ hs) apart = by (p h) (come_apart p hs (pairs_tail (λ (x y : HeldLine). AreSame x y → ⊥) h hs apart))
  where
    by : (b : Bool) → AreApart (filter p hs) → AreApart (cond b (h ∷ filter p hs) (filter p hs))
    by true rest = AllPairs-cons (λ (x y : HeldLine). AreSame x y → ⊥) h (filter p hs)
        (All-filter p (λ (y : HeldLine). AreSame h y → ⊥) hs
        (pairs_head (λ (x y : HeldLine). AreSame x y → ⊥) h hs apart)) rest
    by false rest = rest

pub rows_inserted : RowsInserted
rows_inserted c lines name r laws found =
    all_inserted c.relations lines name c.relations (lines_come c.relations lines) (r, found)
    (come_apart (line_comes c.relations lines) (first_lines lines) (all_apart lines)) (come_absent c lines laws)
    (come_some c.relations lines)
