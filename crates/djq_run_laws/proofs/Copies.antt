-- How many copies of a row `add`, `del` and `done` make or take.
use Rattle.std.specs.Prelude.{ℕ, List, ◌≡◌, ◌==◌, ◌+◌, ◌-◌, ◌≤◌, ◌&&◌, ◌||◌, Bool, true, false, cond, Option, None}
use Rattle.std.specs.Prelude.{Some}
use Rattle.std.specs.Prelude.{is_none, nat_le, nat_lt, Ok, zero, suc, [], ◌∷◌, ◌++◌, not, length, filter, fold, All}
use Rattle.std.proofs.Common.{refl, sym, ap, ap₂, ◌∙◌, subst, arith}
use Rattle.std.proofs.lemmas.Bool.{false≢true, le-leb, lt-leb, lt-ltb, eq-eqb, ne_eqb}
use Rattle.std.specs.List.{list_any}
use Rattle.std.proofs.lemmas.List.{map-append}
use Rattle.std.proofs.lemmas.List.Elements.{All-head, All-tail, All-weaker, All-contains}
use Rattle.djq_model.specs.declared.relation.Relation.{Relation}
use Rattle.djq_model.specs.declared.relation.CountedRow.{CountedRow}
use Rattle.djq_model.specs.Data.{Bytes, Tuple, bytes_eq, tuple_eq, relation_of, plain_of, counted_in, counted_of}
use Rattle.djq_model.specs.Data.{rows_of, has_row, copies_among, with_row, with_copies, without_copies}
use Rattle.djq_model.specs.Answer.{AreDifferent}
use Rattle.djq_model.specs.Equality.{bytes_eq-decides}
use Rattle.djq_model.specs.Typed.{fits}
use Rattle.djq_model.proofs.Copies.{no_copies, copies_hold, came_copies, others_with_row, changed_copies}
use Rattle.djq_model.proofs.Copies.{others_with_copies, others_without, gone_copies, tuples_without, tuples_with_copies}
use Rattle.djq_protocol.specs.declared.answer.AddOutcome.{AddOutcome}
use Rattle.djq_protocol.specs.declared.answer.AddOutcome.TheVariants.{First, More}
use Rattle.djq_protocol.specs.declared.answer.DeleteOutcome.{DeleteOutcome}
use Rattle.djq_protocol.specs.declared.answer.DeleteOutcome.TheVariants.{Last, Left, Absent}
use Rattle.djq_protocol.specs.declared.answer.Refusal.TheVariants.{NoRelation, Arity, WrongType}
use Rattle.djq_protocol.specs.Conditions.{OutOfMemoryWhere, first_refusal}
use Rattle.djq_protocol.specs.Columns.{types_of}
use Rattle.djq_store_spec.specs.Store.{Store}
use Rattle.djq_store_spec.specs.Rows.{copies_of, with_copies_of, add_refusal, AddsAs, AddsRow, delete_refusal}
use Rattle.djq_store_spec.specs.Rows.{DeletesAs, DeletesRow}
use Rattle.djq_store_spec.specs.Relations.{with_rows}
use Rattle.djq_store_spec.specs.Held.{HeldLine}
use Rattle.djq_store_spec.specs.Lines.{same_row, first_lines, copies_before, copies_after, after_verb, line_comes}
use Rattle.djq_store_spec.specs.Lines.{line_goes, with_so_many, with_copies_left, relations_after}
use Rattle.djq_store_spec.specs.Transaction.{suit_refusal, SuitAll}
use Rattle.djq_store_spec.proofs.Relations.{counted_here, counted_apart, rows_apart}
use Rattle.djq_store_spec.proofs.SoManyCopies.{many_among, many_others}
use Rattle.djq_answer_laws.proofs.Lists.{pairs_head, pairs_tail}
use Rattle.djq_run_laws.specs.Sound.{IsCopyCount, IsSoundRelation, IsSoundStore}
use Rattle.djq_run_laws.specs.Copies.{RowsHaveCopies, LeavesCopies, copies_added, copies_left, AddsCopy, TakesCopy}
use Rattle.djq_run_laws.specs.Copies.{lines_leave, has_turned, LinesLeaveCopies}
use Rattle.djq_run_laws.proofs.Lists.{nothing_apart, all_found, rows_more, rows_less}
use Rattle.djq_run_laws.proofs.Forms.{done_of, none_holds, none_first}
use Rattle.djq_run_laws.proofs.RowCommands.{counted_sound, SameTypes, types_with_rows, there_still}
use Rattle.djq_run_laws.proofs.DoneLines.{AreOfOtherRows, line_of, by_row, after_same, any_first, all_first}
use Rattle.djq_run_laws.proofs.DoneLines.{others_first}
use Rattle.djq_run_laws.proofs.DoneLines.{unnamed_stays, here_holds, other_row, same_turned, same_none, none_of}

-- ---- `add` makes a copy of a row more, `del` one less, and all other rows have as many as before.

-- ---- a row is there exactly where it has a copy

module _ (st : Store) (sound : IsSoundStore st) (name : Bytes) (row : Tuple) where
  held : has_row (rows_of st.relations name) row ≡ true → 1 ≤ copies_of st name row
  held there =
      (copies_hold IsCopyCount (counted_of st.relations name) row
      (counted_sound st.relations name (relation_of st.relations name) refl sound.rows) there).0

  none_held : has_row (rows_of st.relations name) row ≡ false → copies_of st name row ≡ 0
  none_held absent = no_copies (counted_of st.relations name) row absent

  differ : AreDifferent (rows_of st.relations name)
  differ = by (relation_of st.relations name) refl
    where
      by : (o : Option Relation) → relation_of st.relations name ≡ o → AreDifferent (plain_of (counted_in o))
      by None e = nothing_apart (λ (s t : Tuple). s ≡ t → ⊥)
      by (Some x) e =
          (all_found IsSoundRelation (λ (r : Relation). bytes_eq r.name name) st.relations x sound.rows e).once

pub rows_have_copies : RowsHaveCopies
rows_have_copies st sound name row = by (has_row (rows_of st.relations name) row) refl
  where
    by : (b : Bool) → has_row (rows_of st.relations name) row ≡ b → b ≡ nat_le 1 (copies_of st name row)
    by true e = sym (le-leb 1 (copies_of st name row) (held st sound name row e))
    by false e =
        let none = none_held st sound name row e in
        sym (lt-leb 1 (copies_of st name row) (omega (arith, none)))

-- ---- other rows in one relation

-- a relation that is found
found_one : (o : Option Relation) → is_none o ≡ false → (x : Relation) × (o ≡ Some x)
found_one None e = absurd cc
found_one (Some x) e = (x, refl)

module _ (rs : List Relation) (name : Bytes) (row : Tuple) (rows : List CountedRow)
    (found : is_none (relation_of rs name) ≡ false) where
  these_rows : counted_of (with_rows rs name rows) name ≡ rows
  these_rows = let f = found_one (relation_of rs name) found in counted_here rs name rows f.0 f.1

  pub its_copies : (k : ℕ) → copies_among rows row ≡ k → copies_among (counted_of (with_rows rs name rows) name) row ≡ k
  its_copies k e = ap (λ (cs : List CountedRow). copies_among cs row) these_rows ∙ e

  pub other_copies : ((t : Tuple) → tuple_eq row t ≡ false → copies_among rows t ≡ copies_among (counted_of rs name) t)
      → (n : Bytes) (t : Tuple) → (bytes_eq n name && tuple_eq row t) ≡ false
      → copies_among (counted_of (with_rows rs name rows) n) t ≡ copies_among (counted_of rs n) t
  other_copies same n t h = by (bytes_eq n name) refl h
    where
      by : (b : Bool) → bytes_eq n name ≡ b → (b && tuple_eq row t) ≡ false
          → copies_among (counted_of (with_rows rs name rows) n) t ≡ copies_among (counted_of rs n) t
      by false e k = ap (λ (cs : List CountedRow). copies_among cs t) (counted_apart rs name rows n e)
      by true e k =
          subst (λ (m : Bytes).
          copies_among (counted_of (with_rows rs name rows) m) t ≡ copies_among (counted_of rs m) t)
          (sym ((bytes_eq-decides n name).0 e))
          (ap (λ (cs : List CountedRow). copies_among cs t) these_rows ∙ same t k)

-- ---- the commands

-- a number of changes, where there is one more or none
as_counted : (b c : Bool) (n : ℕ) → b ≡ c → cond c (n + 1) n ≡ cond b (n + 1) n
as_counted b c n e = ap (λ (x : Bool). cond x (n + 1) n) (sym e)

module _ (old : Store) (sound : IsSoundStore old) (name : Bytes) (row : Tuple) (new : Store) where
  abbrev had : List CountedRow
  had = counted_of old.relations name

  -- another number of copies of a row that is there
  recounted : (n : ℕ) (is_change : Bool) → is_change ≡ false → has_row (rows_of old.relations name) row ≡ true
      → is_none (relation_of old.relations name) ≡ false
      → new ≡ record old { relations = with_copies_of old.relations name row n }
      → LeavesCopies old name row n is_change new
  recounted n is_change same there found after =
      subst (λ (st : Store). LeavesCopies old name row n is_change st) (sym after) (record {
        row_has = its_copies old.relations name row (with_copies had row n) found n (changed_copies had row n there);
        others = other_copies old.relations name row (with_copies had row n) found
            (λ t apart. others_with_copies had row t n apart);
        counted = as_counted is_change false old.seq same;
      })

  adds : (outcome : AddOutcome) → AddsRow old name row (Ok outcome) new
      → LeavesCopies old name row (copies_of old name row + 1) (copies_of old name row == 0) new
      × (copies_added outcome ≡ copies_of old name row + 1)
  adds First h =
      let d = done_of (add_refusal old name row) First (AddsAs old name row new) _ h.answer in
      let none = none_holds (add_refusal old name row) First (AddsAs old name row new) _ h.answer in
      let found = none_first (is_none (relation_of old.relations name)) _ _ none in
      let no : copies_of old name row ≡ 0 = none_held old sound name row d.0 in
      let one : copies_of old name row + 1 ≡ 1 = ap (λ (n : ℕ). n + 1) no in (
        subst (λ (st : Store). LeavesCopies old name row (copies_of old name row + 1) (copies_of old name row == 0) st)
            (sym d.2) (record {
              row_has = its_copies old.relations name row (with_row had row) found (copies_of old name row + 1)
                  (came_copies had row d.0 ∙ sym one);
              others = other_copies old.relations name row (with_row had row) found
                  (λ t apart. others_with_row had row t apart);
              counted = as_counted (copies_of old name row == 0) true old.seq (eq-eqb (copies_of old name row) 0 no);
            }),
        sym one,
      )
  adds (More copies) h =
      let d = done_of (add_refusal old name row) (More copies) (AddsAs old name row new) _ h.answer in
      let none = none_holds (add_refusal old name row) (More copies) (AddsAs old name row new) _ h.answer in
      let found = none_first (is_none (relation_of old.relations name)) _ _ none in
      let some = held old sound name row d.0 in (
        subst (λ (n : ℕ). LeavesCopies old name row n (copies_of old name row == 0) new) d.1
            (recounted copies (copies_of old name row == 0)
            (ne_eqb (copies_of old name row) 0 (λ no. omega (arith, some, no))) d.0 found d.2),
        d.1,
      )

  takes : (outcome : DeleteOutcome) → DeletesRow old name row (Ok outcome) new
      → LeavesCopies old name row (copies_of old name row - 1) (copies_of old name row == 1) new
      × (copies_left outcome ≡ copies_of old name row - 1)
  takes Last h =
      let d = done_of (delete_refusal old name row) Last (DeletesAs old name row new) (OutOfMemoryWhere ⊥) h.answer in
      let none = none_holds (delete_refusal old name row) Last (DeletesAs old name row new) (OutOfMemoryWhere ⊥)
      h.answer in
      let found = none_first (is_none (relation_of old.relations name)) _ _ none in
      let no : copies_of old name row - 1 ≡ 0 = ap (λ (n : ℕ). n - 1) d.1 in (
        subst (λ (st : Store). LeavesCopies old name row (copies_of old name row - 1) (copies_of old name row == 1) st)
            (sym d.2) (record {
              row_has = its_copies old.relations name row (without_copies had row) found (copies_of old name row - 1)
                  (gone_copies had row (differ old sound name row) ∙ sym no);
              others = other_copies old.relations name row (without_copies had row) found
                  (λ t apart. others_without had row t apart);
              counted = as_counted (copies_of old name row == 1) true old.seq (eq-eqb (copies_of old name row) 1 d.1);
            }),
        sym no,
      )
  takes (Left copies) h =
      let d = done_of (delete_refusal old name row) (Left copies) (DeletesAs old name row new) (OutOfMemoryWhere ⊥)
      h.answer in
      let none = none_holds (delete_refusal old name row) (Left copies) (DeletesAs old name row new)
      (OutOfMemoryWhere ⊥) h.answer in
      let found = none_first (is_none (relation_of old.relations name)) _ _ none in
      let is = d.1 in
      let some = d.2 in
      let left : copies ≡ copies_of old name row - 1 = omega (arith, is) in (
        subst (λ (n : ℕ). LeavesCopies old name row n (copies_of old name row == 1) new) left
            (recounted copies (copies_of old name row == 1)
            (ne_eqb (copies_of old name row) 1 (λ one. omega (arith, is, some, one))) d.0 found d.3),
        left,
      )
  takes Absent h =
      let d = done_of (delete_refusal old name row) Absent (DeletesAs old name row new) (OutOfMemoryWhere ⊥) h.answer in
      let no = none_held old sound name row d.0 in
      let left : copies_of old name row - 1 ≡ copies_of old name row = omega (arith, no) in (
        subst (λ (st : Store). LeavesCopies old name row (copies_of old name row - 1) (copies_of old name row == 1) st)
            (sym d.1) (record {
              row_has = sym left;
              others = λ n t apart. refl;
              counted = as_counted (copies_of old name row == 1) false old.seq
                  (ne_eqb (copies_of old name row) 1 (λ one. omega (arith, no, one)));
            }),
        sym (left ∙ no),
      )

pub adds_copy : AddsCopy
adds_copy old sound name row outcome new h =
    let a = adds old sound name row new outcome h in (a.0, a.1 ∙ sym a.0.row_has)

pub takes_copy : TakesCopy
takes_copy old sound name row outcome new h =
    let t = takes old sound name row new outcome h in (t.0, t.1 ∙ sym t.0.row_has)

-- ---- `done` leaves each row the copies that its lines leave, one after another.

-- ---- one line

-- a row that suits has its relation
suit_found : (st : Store) (name : Bytes) (row : Tuple) → suit_refusal st name row ≡ None
    → is_none (relation_of st.relations name) ≡ false
suit_found st name row h =
    let types = types_of (relation_of st.relations name) in
    none_first (is_none (relation_of st.relations name)) NoRelation
    (first_refusal ((not (length row == length types), Arity) ∷ (not (fits types row), WrongType) ∷ [])) h

module _ (st : Store) (lines : List HeldLine) where
  abbrev base : List Relation
  base = st.relations

  abbrev step : List Relation → HeldLine → List Relation
  step = with_copies_left base lines

  -- its rows stay different
  abbrev AllDiffer : List Relation → Type 0
  AllDiffer now = (name : Bytes) → AreDifferent (rows_of now name)

  left_differ : (had : List CountedRow) (row : Tuple) (n : ℕ) → AreDifferent (plain_of had)
      → AreDifferent (plain_of (with_so_many had row n))
  left_differ had row zero apart =
      subst AreDifferent (sym (tuples_without had row)) (rows_less (plain_of had) row apart)
  left_differ had row (suc n) apart = by (has_row (plain_of had) row) refl
    where
      by : (b : Bool) → has_row (plain_of had) row ≡ b
          → AreDifferent
          (plain_of (cond b (with_copies had row (suc n)) (had ++ record { row = row; copies = suc n } ∷ [])))
      by true e = subst AreDifferent (sym (tuples_with_copies had row (suc n))) apart
      by false e =
          subst AreDifferent
          (sym (map-append (λ (c : CountedRow). c.row) had (record { row = row; copies = suc n } ∷ [])))
          (rows_more (plain_of had) row apart e)

  step_differs : (now : List Relation) (g : HeldLine) → AllDiffer now → AllDiffer (step now g)
  step_differs now g apart name = by (bytes_eq name g.relation) refl
    where
      rows : List CountedRow
      rows = with_so_many (counted_of now g.relation) g.row (copies_after base lines g)

      by : (b : Bool) → bytes_eq name g.relation ≡ b → AreDifferent (rows_of (step now g) name)
      by false e = subst AreDifferent (sym (rows_apart now g.relation rows name e)) (apart name)
      by true e =
          subst (λ (n : Bytes). AreDifferent (rows_of (step now g) n)) (sym ((bytes_eq-decides name g.relation).0 e))
          (here_holds (λ (cs : List CountedRow). AreDifferent (plain_of cs)) now g.relation rows
          (left_differ (counted_of now g.relation) g.row (copies_after base lines g) (apart g.relation))
          (nothing_apart (λ (s t : Tuple). s ≡ t → ⊥)))

  so_many_are : (had : List CountedRow) (row : Tuple) (n : ℕ) → AreDifferent (plain_of had)
      → copies_among (with_so_many had row n) row ≡ n
  so_many_are had row zero apart = gone_copies had row apart
  so_many_are had row (suc n) apart = many_among had row n

  -- a line's relation is there
  abbrev IsFound : HeldLine → Type 0
  IsFound g = is_none (relation_of base g.relation) ≡ false

  its_own : (now : List Relation) (g : HeldLine) → SameTypes base now → IsFound g → AllDiffer now
      → copies_among (counted_of (step now g) g.relation) g.row ≡ copies_after base lines g
  its_own now g same found apart =
      its_copies now g.relation g.row (with_so_many (counted_of now g.relation) g.row (copies_after base lines g))
      (there_still base now g.relation (same g.relation) found) (copies_after base lines g)
      (so_many_are (counted_of now g.relation) g.row (copies_after base lines g) (apart g.relation))

  another : (now : List Relation) (g h : HeldLine) → same_row g h ≡ false
      → copies_among (counted_of (step now g) h.relation) h.row ≡ copies_among (counted_of now h.relation) h.row
  another now g h apart =
      other_row st lines (λ (rows : List CountedRow). copies_among rows h.row) h
      (λ rows row n e. many_others rows row h.row n e) now g apart

  -- ---- all of them

  copies_on : (h : HeldLine) (now : List Relation) (gs : List HeldLine) → AreOfOtherRows gs → All IsFound gs
      → SameTypes base now → AllDiffer now → (b : Bool) → list_any (λ g. same_row g h) gs ≡ b
      → copies_among (counted_of (fold step now gs) h.relation) h.row
      ≡ cond b (copies_after base lines h) (copies_among (counted_of now h.relation) h.row)
  copies_on h now [] others found same apart true e = absurd (false≢true e)
  copies_on h now [] others found same apart false e = refl
  copies_on h now (g ∷ gs) others found same apart b e =
      by (same_row g h) refl e
      (λ c k. copies_on h (step now g) gs (pairs_tail (λ (x y : HeldLine). same_row x y ≡ false) g gs others)
      (All-tail IsFound g gs found)
      (λ n. types_with_rows now g.relation
      (with_so_many (counted_of now g.relation) g.row (copies_after base lines g)) n ∙ same n)
      (step_differs now g apart) c k)
    where
      none_more : same_row g h ≡ true → list_any (λ k. same_row k h) gs ≡ false
      none_more s = none_of gs (λ k c. same_none g h k s (All-contains (λ (j : HeldLine). same_row g j ≡ false) gs k
          (pairs_head (λ (x y : HeldLine). same_row x y ≡ false) g gs others) c))

      by : (a : Bool) → same_row g h ≡ a → (a || list_any (λ k. same_row k h) gs) ≡ b
          → ((c : Bool) → list_any (λ k. same_row k h) gs ≡ c
          → copies_among (counted_of (fold step (step now g) gs) h.relation) h.row
          ≡ cond c (copies_after base lines h) (copies_among (counted_of (step now g) h.relation) h.row))
          → copies_among (counted_of (fold step (step now g) gs) h.relation) h.row
          ≡ cond b (copies_after base lines h) (copies_among (counted_of now h.relation) h.row)
      by true s k more =
          more false (none_more s)
          ∙ by_row (λ (j : HeldLine). copies_among (counted_of (step now g) j.relation) j.row) (λ j. refl) h g
          (same_turned g h s)
          ∙ its_own now g same (All-head IsFound g gs found) apart
          ∙ after_same base lines g h s
          ∙ ap (λ (a : Bool). cond a (copies_after base lines h) (copies_among (counted_of now h.relation) h.row)) k
      by false s k more =
          more b k ∙ ap (λ (n : ℕ). cond b (copies_after base lines h) n) (another now g h s)

  module _ (sound : IsSoundStore st) (suit : SuitAll st lines) where
    found_all : All IsFound (first_lines lines)
    found_all = all_first IsFound lines
        (All-weaker (λ (h : HeldLine). suit_refusal st h.relation h.row ≡ None) IsFound
        (λ h k. suit_found st h.relation h.row k) lines suit)

    -- each row has the copies that they leave
    pub all_copies : (h : HeldLine)
        → copies_among (counted_of (relations_after base lines) h.relation) h.row ≡ copies_after base lines h
    all_copies h =
        copies_on h base (first_lines lines) (others_first lines) found_all (λ n. refl)
        (λ name. differ st sound name [])
        (list_any (λ (g : HeldLine). same_row g h) (first_lines lines)) refl
        ∙ by (list_any (λ (g : HeldLine). same_row g h) (first_lines lines)) refl
      where
        by : (b : Bool) → list_any (λ (g : HeldLine). same_row g h) (first_lines lines) ≡ b
            → cond b (copies_after base lines h) (copies_before base h) ≡ copies_after base lines h
        by true e = refl
        by false e =
            sym (unnamed_stays base lines h
            (sym (any_first (λ (g : HeldLine). same_row g h)
            (λ g k s. by_row (λ (j : HeldLine). same_row j h) (λ j. refl) g k s) lines) ∙ e))

-- the copies that lines leave, in the law's words
leave_as : (lines : List HeldLine) (name : Bytes) (row : Tuple) (n : ℕ)
    → fold (λ m g. cond (same_row g (line_of name row)) (after_verb g.verb m) m) n lines ≡ lines_leave lines name row n
leave_as [] name row n = refl
leave_as (h ∷ hs) name row n =
    leave_as hs name row (cond (bytes_eq h.relation name && tuple_eq h.row row) (after_verb h.verb n) n)

-- some row comes or goes exactly if one of the lines is of such a row
count_any : (p q : HeldLine → Bool) (hs : List HeldLine)
    → nat_lt 0 (length (filter p hs) + length (filter q hs)) ≡ list_any (λ h. p h || q h) hs
count_any p q [] = refl
count_any p q (h ∷ hs) = by (p h) (q h) (count_any p q hs)
  where
    by : (a b : Bool) → nat_lt 0 (length (filter p hs) + length (filter q hs)) ≡ list_any (λ k. p k || q k) hs
        → nat_lt 0 (length (cond a (h ∷ filter p hs) (filter p hs)) + length (cond b (h ∷ filter q hs) (filter q hs)))
        ≡ ((a || b) || list_any (λ k. p k || q k) hs)
    by true b rest = lt-ltb 0 (suc (length (filter p hs)) + length (cond b (h ∷ filter q hs) (filter q hs)))
        (omega arith)
    by false true rest = lt-ltb 0 (length (filter p hs) + suc (length (filter q hs))) (omega arith)
    by false false rest = rest

any_alike : (p q : HeldLine → Bool) → ((h : HeldLine) → p h ≡ q h) → (hs : List HeldLine)
    → list_any p hs ≡ list_any q hs
any_alike p q same [] = refl
any_alike p q same (h ∷ hs) = ap₂ (λ (a b : Bool). a || b) (same h) (any_alike p q same hs)

pub lines_leave_copies : LinesLeaveCopies
lines_leave_copies old sound lines suit given n new h = record {
  each = λ name row. left (line_of name row) ∙ leave_as lines name row (copies_of old name row);
  counted = ap (λ (st : Store). st.seq) h.does.1
      ∙ ap (λ (b : Bool). cond b (old.seq + 1) old.seq)
      (count_any (line_comes old.relations lines) (line_goes old.relations lines) (first_lines lines)
      ∙ any_first turns turns_alike lines ∙ any_alike turns (has_turned old new) turned lines);
}
  where
    left : (k : HeldLine) → copies_of new k.relation k.row ≡ copies_after old.relations lines k
    left k = ap (λ (st : Store). copies_of st k.relation k.row) h.does.1 ∙ all_copies old lines sound suit k

    turns : HeldLine → Bool
    turns k = line_comes old.relations lines k || line_goes old.relations lines k

    turns_alike : (g k : HeldLine) → same_row g k ≡ true → turns g ≡ turns k
    turns_alike g k s = by_row turns (λ j. refl) g k s

    turned : (k : HeldLine) → turns k ≡ has_turned old new k
    turned k = ap (λ (m : ℕ). ((copies_of old k.relation k.row == 0) && nat_lt 0 m)
        || (nat_lt 0 (copies_of old k.relation k.row) && (m == 0))) (sym (left k))
