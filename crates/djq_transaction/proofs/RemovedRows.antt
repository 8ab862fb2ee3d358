-- The rows that go are taken out of those that a relation has between.
use Rattle.std.specs.Prelude.{ℕ, zero, suc, List, [], ◌∷◌, ◌≡◌, ◌==◌, ◌&&◌, Bool, true, false, not, cond}
use Rattle.std.specs.Prelude.{Option, None, Some, fold, filter, map, nat_lt, All, Contains}
use Rattle.std.specs.Option.{option_map}
use Rattle.std.proofs.Common.{refl, sym, ap, ap₂, ◌∙◌, arith}
use Rattle.std.proofs.lemmas.Bool.{false≢true, false_from_ne_true, eqb-true, eq-eqb, lt-ltb, ltb-true}
use Rattle.std.proofs.lemmas.List.Elements.{All-head, All-tail, All-nil, All-cons, All-contains, All-contains_itself}
use Rattle.djq_model.specs.declared.relation.Relation.{Relation}
use Rattle.djq_model.specs.declared.relation.CountedRow.{CountedRow}
use Rattle.djq_model.specs.Data.{Bytes, Tuple, bytes_eq, counted_in, counted_of, relation_of, rows_of, has_row, plain_of}
use Rattle.djq_model.specs.Data.{without_row, without_copies}
use Rattle.djq_model.specs.Equality.{bytes_eq-decides}
use Rattle.djq_model.proofs.Copies.{tuples_without, tuples_with_copies, no_copies}
use Rattle.djq_answer_laws.proofs.Lists.{first_holds, kept_hold, hold_each, pairs_head, pairs_tail}
use Rattle.djq_database.specs.Catalog.{Catalog, IsCatalog}
use Rattle.djq_store_spec.specs.Relations.{with_rows}
use Rattle.djq_store_spec.proofs.Relations.{relation_here, rows_apart, rows_stay}
use Rattle.djq_store_spec.specs.Held.{HeldLine}
use Rattle.djq_transaction.specs.declared.net.Copies.{Copies}
use Rattle.djq_transaction.specs.Net.{copies_came}
use Rattle.djq_transaction.proofs.Places.{same_copies}
use Rattle.djq_store_spec.specs.Lines.{copies_before, copies_after, line_comes, line_goes, lines_come, first_lines}
use Rattle.djq_store_spec.specs.Lines.{with_so_many, with_copies_left, relations_between}
use Rattle.djq_transaction.specs.LookUp.{AreSame}
use Rattle.djq_transaction.specs.Settled.{RowsRemoved}
use Rattle.djq_transaction.proofs.FirstLines.{AreApart}
use Rattle.djq_transaction.proofs.Entries.{all_apart}
use Rattle.djq_store_spec.proofs.SoManyCopies.{many_there, without_absent}
use Rattle.djq_transaction.proofs.Applying.{row_stays}
use Rattle.djq_transaction.proofs.SettledLines.{second_true}
use Rattle.djq_transaction.proofs.AnyOrder.{after_is}
use Rattle.djq_transaction.proofs.InsertedRows.{some_copies, come_apart}

gone_here : (rs : List Relation) (name : Bytes) (row : Tuple)
    → rows_of (with_rows rs name (without_copies (counted_of rs name) row)) name ≡ without_row (rows_of rs name) row
gone_here rs name row =
    ap (λ (o : Option Relation). plain_of (counted_in o))
    (relation_here rs name (without_copies (counted_of rs name) row)) ∙ by (relation_of rs name)
  where
    by : (o : Option Relation)
        → plain_of (counted_in (option_map (λ (r : Relation). record r { rows = without_copies (counted_in o) row }) o))
        ≡ without_row (plain_of (counted_in o)) row
    by None = refl
    by (Some r) = tuples_without r.rows row

module _ (c : Catalog) (lines : List HeldLine) (laws : IsCatalog c) (name : Bytes) where
  abbrev base : List Relation
  base = c.relations

  abbrev step : List Relation → HeldLine → List Relation
  step = with_copies_left base lines

  abbrev its : HeldLine → Bool
  its h = bytes_eq h.relation name

  abbrev goes : HeldLine → Bool
  goes h = line_goes base lines h

  -- whether the row is there is as it was before
  abbrev IsAsBefore : List Relation → HeldLine → Type 0
  IsAsBefore now h = has_row (rows_of now h.relation) h.row ≡ has_row (rows_of base h.relation) h.row

  -- a row that neither comes nor goes stays
  stays_plain : (now : List Relation) (h : HeldLine) → IsAsBefore now h → not (line_comes base lines h) ≡ true
      → goes h ≡ false
      → plain_of (with_so_many (counted_of now h.relation) h.row (copies_after base lines h)) ≡ rows_of now h.relation
  stays_plain now h as_before other stay =
      by (copies_after base lines h) refl (has_row (rows_of base h.relation) h.row) refl
    where
      rows_now : (b : Bool) → has_row (rows_of base h.relation) h.row ≡ b
          → has_row (plain_of (counted_of now h.relation)) h.row ≡ b
      rows_now b e = as_before ∙ e

      by : (n : ℕ) → copies_after base lines h ≡ n → (b : Bool) → has_row (rows_of base h.relation) h.row ≡ b
          → plain_of (with_so_many (counted_of now h.relation) h.row n) ≡ rows_of now h.relation
      by zero k true e =
          let some = some_copies c h.relation h.row laws e in
          let yes : goes h ≡ true = ap₂ (λ (a b : Bool). a && b) (lt-ltb 0 (copies_before base h) (omega (arith, some)))
          (eq-eqb (copies_after base lines h) 0 k) in
          absurd (false≢true (sym stay ∙ yes))
      by zero k false e = ap (λ (rs : List CountedRow). plain_of rs)
          (without_absent (counted_of now h.relation) h.row (rows_now false e))
      by (suc n) k true e =
          ap (λ (rs : List CountedRow). plain_of rs) (many_there (counted_of now h.relation) h.row n (rows_now true e))
          ∙ tuples_with_copies (counted_of now h.relation) h.row (suc n)
      by (suc n) k false e =
          let none = no_copies (counted_of base h.relation) h.row e in
          let yes : line_comes base lines h ≡ true = ap₂ (λ (a b : Bool). a && b)
          (eq-eqb (copies_before base h) 0 none) (lt-ltb 0 (copies_after base lines h) (omega (arith, k))) in
          absurd (false≢true (sym (ap (λ (b : Bool). not b) yes) ∙ other))

  pub all_removed : (now : List Relation) (hs : List HeldLine) → AreApart hs → All (λ h. IsAsBefore now h) hs
      → All (λ h. not (line_comes base lines h) ≡ true) hs
      → rows_of (fold step now hs) name
      ≡ fold without_row (rows_of now name) (map (λ (h : HeldLine). h.row) (filter its (filter goes hs)))
  all_removed now [] apart as_before others = refl
  all_removed now (h ∷ hs) apart as_before others =
      by (goes h) (its h) refl refl (all_removed (step now h) hs (pairs_tail (λ (x y : HeldLine). AreSame x y → ⊥) h hs apart)
      (hold_each (λ (g : HeldLine). IsAsBefore (step now h) g) hs
      (λ g k. row_stays base lines g now (h ∷ [])
      (All-cons (λ (x : HeldLine). AreSame x g → ⊥) h []
      (All-contains (λ (y : HeldLine). AreSame h y → ⊥) hs g
      (pairs_head (λ (x y : HeldLine). AreSame x y → ⊥) h hs apart) k)
      (All-nil (λ (x : HeldLine). AreSame x g → ⊥)))
      ∙ All-contains (λ (x : HeldLine). IsAsBefore now x) hs g (All-tail (λ (x : HeldLine). IsAsBefore now x) h hs as_before) k))
      (All-tail (λ (g : HeldLine). not (line_comes base lines g) ≡ true) h hs others))
    where
      by : (a b : Bool) → goes h ≡ a → its h ≡ b
          → rows_of (fold step (step now h) hs) name
          ≡ fold without_row (rows_of (step now h) name) (map (λ (g : HeldLine). g.row) (filter its (filter goes hs)))
          → rows_of (fold step (step now h) hs) name
          ≡ fold without_row (rows_of now name)
          (map (λ (g : HeldLine). g.row) (filter its (cond a (h ∷ filter goes hs) (filter goes hs))))
      by false b e f rest = rest ∙ ap (λ (ts : List Tuple). fold without_row ts
          (map (λ (g : HeldLine). g.row) (filter its (filter goes hs))))
          (rows_stay now h.relation (with_so_many (counted_of now h.relation) h.row (copies_after base lines h))
          (stays_plain now h (All-head (λ (x : HeldLine). IsAsBefore now x) h hs as_before)
          (All-head (λ (g : HeldLine). not (line_comes base lines g) ≡ true) h hs others) e) name)
      by true false e f rest =
          let back : bytes_eq name h.relation ≡ false = false_from_ne_true (bytes_eq name h.relation) (λ k.
          let yes : its h ≡ true = (bytes_eq-decides h.relation name).1 (sym ((bytes_eq-decides name h.relation).0 k)) in
          false≢true (sym f ∙ yes)) in
          rest ∙ ap (λ (ts : List Tuple). fold without_row ts
          (map (λ (g : HeldLine). g.row) (filter its (filter goes hs))))
          (rows_apart now h.relation (with_so_many (counted_of now h.relation) h.row (copies_after base lines h)) name back)
          ∙ ap (λ (t : Bool). fold without_row (rows_of now name) (map (λ (g : HeldLine). g.row)
          (cond t (h ∷ filter its (filter goes hs)) (filter its (filter goes hs))))) (sym f)
      by true true e f rest =
          let none : copies_after base lines h ≡ 0 = eqb-true (copies_after base lines h) 0
          (second_true (nat_lt 0 (copies_before base h)) (copies_after base lines h == 0) e) in
          let same : h.relation ≡ name = (bytes_eq-decides h.relation name).0 f in
          rest ∙ ap (λ (ts : List Tuple). fold without_row ts
          (map (λ (g : HeldLine). g.row) (filter its (filter goes hs))))
          (ap (λ (n : ℕ). rows_of (with_rows now h.relation (with_so_many (counted_of now h.relation) h.row n)) name) none
          ∙ ap (λ (m : Bytes). rows_of (with_rows now m (without_copies (counted_of now m) h.row)) name) same
          ∙ gone_here now name h.row)
          ∙ ap (λ (t : Bool). fold without_row (rows_of now name) (map (λ (g : HeldLine). g.row)
          (cond t (h ∷ filter its (filter goes hs)) (filter its (filter goes hs))))) (sym f)

  -- those that go are among those that don't come
  goes_stay : (hs : List HeldLine) → filter goes (filter (λ h. not (line_comes base lines h)) hs) ≡ filter goes hs
  goes_stay [] = refl
  goes_stay (h ∷ hs) = by (copies_before base h) (nat_lt 0 (copies_after base lines h)) refl (goes_stay hs)
    where
      by : (n : ℕ) (b : Bool) → copies_before base h ≡ n
          → filter goes (filter (λ h. not (line_comes base lines h)) hs) ≡ filter goes hs
          → filter goes (filter (λ h. not (line_comes base lines h)) (h ∷ hs)) ≡ filter goes (h ∷ hs)
      by n b e rest = on (line_comes base lines h) (goes h) refl refl
        where
          on : (p q : Bool) → line_comes base lines h ≡ p → goes h ≡ q
              → filter goes (cond (not p) (h ∷ filter (λ h. not (line_comes base lines h)) hs)
              (filter (λ h. not (line_comes base lines h)) hs))
              ≡ cond q (h ∷ filter goes hs) (filter goes hs)
          on true true k l = absurd (omega (
            arith,
            eqb-true (copies_before base h) 0
                (first_holds (copies_before base h == 0) (nat_lt 0 (copies_after base lines h)) k),
            ltb-true 0 (copies_before base h)
                (first_holds (nat_lt 0 (copies_before base h)) (copies_after base lines h == 0) l),
          ))
          on true false k l = rest
          on false q k l =
              ap (λ (t : Bool). cond t (h ∷ filter goes (filter (λ h. not (line_comes base lines h)) hs))
              (filter goes (filter (λ h. not (line_comes base lines h)) hs))) l
              ∙ ap (λ (gs : List HeldLine). cond q (h ∷ gs) gs) rest

-- a line that doesn't come is of no row that comes
pub come_others : (rs : List Relation) (ls : List HeldLine) (h : HeldLine) → not (line_comes rs ls h) ≡ true
    → (hs : List HeldLine) → All (λ g. AreSame g h → ⊥) (filter (line_comes rs ls) hs)
come_others rs ls h other hs =
    kept_hold (Contains hs) (λ (g : HeldLine). AreSame g h → ⊥) (line_comes rs ls) hs
    (λ g came k same. false≢true (sym (ap (λ (b : Bool). not b)
    (sym (ap (λ (x : Copies). copies_came x) (same_copies rs ls g h same)) ∙ came)) ∙ other))
    (All-contains_itself hs)

pub rows_removed : RowsRemoved
rows_removed c lines name laws =
    let base = c.relations in
    let firsts = first_lines lines in
    let others : List HeldLine = filter (λ h. not (line_comes base lines h)) firsts in
    ap (λ (rs : List Relation). rows_of rs name) (after_is base lines)
    ∙ all_removed c lines laws name (relations_between base lines) others
    (come_apart (λ h. not (line_comes base lines h)) firsts (all_apart lines))
    (kept_hold (Contains firsts)
    (λ (h : HeldLine). has_row (rows_of (relations_between base lines) h.relation) h.row
    ≡ has_row (rows_of base h.relation) h.row)
    (λ h. not (line_comes base lines h)) firsts
    (λ h other k. row_stays base lines h base (lines_come base lines)
    (come_others base lines h other firsts)) (All-contains_itself firsts))
    (kept_hold (Contains firsts) (λ (h : HeldLine). not (line_comes base lines h) ≡ true)
    (λ h. not (line_comes base lines h)) firsts (λ h other k. other) (All-contains_itself firsts))
    ∙ ap (λ (hs : List HeldLine). fold without_row (rows_of (relations_between base lines) name)
    (map (λ (h : HeldLine). h.row) (filter (λ h. bytes_eq h.relation name) hs))) (goes_stay c lines laws name firsts)
