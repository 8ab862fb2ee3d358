-- What lines of a transaction leave: rows that suit, within the limits, and as before where none comes or goes.
use Rattle.std.specs.Prelude.{ℕ, zero, suc, List, [], ◌∷◌, ◌≡◌, ◌==◌, ◌+◌, ◌++◌, ◌<◌, ◌≤◌, ◌&&◌, ◌||◌, Bool, true}
use Rattle.std.specs.Prelude.{false}
use Rattle.std.specs.Prelude.{cond, not, Option, None, Some, option_map, length, map, filter, fold, nat_le, nat_lt}
use Rattle.std.specs.Prelude.{pred, All}
use Rattle.std.specs.Prelude.{AllPairs, Contains}
use Rattle.std.specs.List.{list_any}
use Rattle.std.specs.Option.{option_or}
use Rattle.std.proofs.Common.{refl, sym, ap, ap₂, ◌∙◌, subst, arith, length-append}
use Rattle.std.proofs.lemmas.Bool.{false≢true, or_parts, and_parts, and_from, leb-false, ltb-false, eq-eqb, lt-ltb}
use Rattle.std.proofs.lemmas.List.{append-nil, append_assoc, map-append}
use Rattle.std.proofs.lemmas.List.Elements.{All-nil, All-cons, All-head, All-tail, All-push, All-weaker, All-contains}
use Rattle.std.proofs.lemmas.List.Elements.{filter-append}
use Rattle.std.proofs.lemmas.List.Folds.{list_any-append}
use Rattle.std.proofs.lemmas.List.Sums.{fold-append}
use Rattle.djq_model.specs.declared.relation.ColumnType.{ColumnType}
use Rattle.djq_model.specs.declared.relation.Relation.{Relation}
use Rattle.djq_model.specs.declared.relation.CountedRow.{CountedRow}
use Rattle.djq_model.specs.Data.{Bytes, Tuple, bytes_eq, tuple_eq, counted_in, counted_of, relation_of, rows_of}
use Rattle.djq_model.specs.Data.{has_row}
use Rattle.djq_model.specs.Data.{plain_of, with_copies}
use Rattle.djq_model.specs.Equality.{bytes_eq-decides, tuple_eq-decides}
use Rattle.djq_model.specs.Typed.{fits}
use Rattle.djq_model.specs.Known.{all_learned}
use Rattle.djq_model.proofs.Copies.{tuples_with_copies, tuples_without, no_copies, copies_hold}
use Rattle.djq_protocol.specs.declared.limits.TheConstants.{ROWS, COPIES, TEXTS}
use Rattle.djq_protocol.specs.Columns.{types_of}
use Rattle.djq_protocol.specs.declared.held.Verb.{Verb}
use Rattle.djq_protocol.specs.declared.held.Verb.TheVariants.{Add, Delete}
use Rattle.djq_protocol.specs.declared.held.LineRefusal.{LineRefusal}
use Rattle.djq_protocol.specs.declared.held.LineRefusal.TheVariants.{Absent}
use Rattle.djq_store_spec.specs.Store.{Store}
use Rattle.djq_store_spec.specs.Relations.{with_rows}
use Rattle.djq_store_spec.specs.Held.{HeldLine}
use Rattle.djq_store_spec.specs.Lines.{same_row, with_naming, first_lines, copies_before, copies_after, after_verb}
use Rattle.djq_store_spec.specs.Lines.{line_comes, line_goes, with_so_many, with_copies_left, relations_after}
use Rattle.djq_store_spec.specs.Judging.{texts_added, texts_after, names_row_before, is_new, rows_reached}
use Rattle.djq_store_spec.specs.Judging.{limit_if, refusal_by, row_refusal, texts_refusal, line_refusal, refused_at}
use Rattle.djq_store_spec.specs.Judging.{refusal_behind, lines_refusal}
use Rattle.djq_store_spec.specs.Done.{rows_changed, has_changed}
use Rattle.djq_store_spec.specs.Transaction.{suit_refusal, SuitAll, HaveCopies}
use Rattle.djq_store_spec.proofs.Relations.{relation_here, counted_apart, rows_apart, rows_stay}
use Rattle.djq_store_spec.proofs.SoManyCopies.{without_absent, many_has_others}
use Rattle.djq_run_laws.specs.Sound.{AreApart, IsCopyCount, IsSoundRelation}
use Rattle.djq_run_laws.proofs.Forms.{second_fails}
use Rattle.djq_run_laws.proofs.Lists.{all_found, pairs_push, nothing_apart, without_dropped, less_dropped}
use Rattle.djq_run_laws.proofs.RowCommands.{SameTypes, types_with_rows, types_found, other_names, other_rows}
use Rattle.djq_run_laws.proofs.RowCommands.{other_count}
use Rattle.djq_run_laws.proofs.RowCommands.{counted_sound, suit_fits, Suits, suits_copies, suits_less, suits_last}
use Rattle.djq_answer_laws.proofs.Lists.{pairs_head, pairs_tail, or_false, hold_each, first_there, later_there}
use Rattle.djq_answer_laws.proofs.Choices.{none_any}

-- ---- lines of the same row

same_parts : (g h : HeldLine) → same_row g h ≡ true → (g.relation ≡ h.relation) × (g.row ≡ h.row)
same_parts g h e =
    let both = and_parts (bytes_eq g.relation h.relation) (tuple_eq g.row h.row) e in
    ((bytes_eq-decides g.relation h.relation).0 both.0, (tuple_eq-decides g.row h.row).0 both.1)

pub same_turned : (g h : HeldLine) → same_row g h ≡ true → same_row h g ≡ true
same_turned g h e =
    let p = same_parts g h e in
    and_from (bytes_eq h.relation g.relation) (tuple_eq h.row g.row)
    ((bytes_eq-decides h.relation g.relation).1 (sym p.0)) ((tuple_eq-decides h.row g.row).1 (sym p.1))

-- a row that isn't that of one line isn't that of another line of its row
pub same_none : (g h k : HeldLine) → same_row g h ≡ true → same_row g k ≡ false → same_row k h ≡ false
same_none g h k e apart = by (same_row k h) refl
  where
    by : (b : Bool) → same_row k h ≡ b → b ≡ false
    by false f = refl
    by true f =
        let p = same_parts g h e in
        let q = same_parts k h f in
        let yes : same_row g k ≡ true = and_from (bytes_eq g.relation k.relation) (tuple_eq g.row k.row)
        ((bytes_eq-decides g.relation k.relation).1 (p.0 ∙ sym q.0))
        ((tuple_eq-decides g.row k.row).1 (p.1 ∙ sym q.1)) in
        absurd (false≢true (sym apart ∙ yes))

pub none_of : {p : HeldLine → Bool} (gs : List HeldLine) → ((k : HeldLine) → Contains gs k → p k ≡ false)
    → list_any p gs ≡ false
none_of [] h = refl
none_of {p = p} (g ∷ gs) h =
    ap (λ (b : Bool). b || list_any p gs) (h g (first_there g gs g refl))
    ∙ none_of gs (λ k c. h k (later_there g gs k c))

-- what depends on the row alone is the same
abbrev pub line_of : Bytes → Tuple → HeldLine
line_of name row = record { verb = Add; relation = name; row = row }

pub by_row : {A : Type 0} (f : HeldLine → A) → ((h : HeldLine) → f h ≡ f (line_of h.relation h.row)) → (g h : HeldLine)
    → same_row g h ≡ true → f g ≡ f h
by_row f plain g h e =
    let p = same_parts g h e in
    plain g ∙ ap₂ (λ (name : Bytes) (row : Tuple). f (line_of name row)) p.0 p.1 ∙ sym (plain h)

pub after_same : (relations : List Relation) (lines : List HeldLine) (g h : HeldLine) → same_row g h ≡ true
    → copies_after relations lines g ≡ copies_after relations lines h
after_same relations lines = by_row (λ (h : HeldLine). copies_after relations lines h) (λ h. refl)

-- ---- the lines that name rows first

-- a test that depends on the row alone holds of one of them exactly if it holds of one of all lines
module _ (p : HeldLine → Bool) (alike : (g h : HeldLine) → same_row g h ≡ true → p g ≡ p h) where
  absorbs : (b c : Bool) → (b ≡ true → c ≡ true) → c ≡ (c || b)
  absorbs false c k = sym (or_false c)
  absorbs true c k = k refl ∙ sym (ap (λ (a : Bool). a || true) (k refl))

  among : (seen : List HeldLine) (g : HeldLine) → list_any (λ k. same_row k g) seen ≡ true → p g ≡ true
      → list_any p seen ≡ true
  among [] g e h = absurd (false≢true e)
  among (k ∷ ks) g e h = by (same_row k g) refl e (λ r. among ks g r h)
    where
      by : (b : Bool) → same_row k g ≡ b → (b || list_any (λ j. same_row j g) ks) ≡ true
          → (list_any (λ j. same_row j g) ks ≡ true → list_any p ks ≡ true) → (p k || list_any p ks) ≡ true
      by true f r more = ap (λ (b : Bool). b || list_any p ks) (alike k g f ∙ h)
      by false f r more = ap (λ (b : Bool). p k || b) (more r) ∙ last (p k)
        where
          last : (b : Bool) → (b || true) ≡ true
          last true = refl
          last false = refl

  with_any : (seen : List HeldLine) (g : HeldLine) → list_any p (with_naming seen g) ≡ (list_any p seen || p g)
  with_any seen g = by (list_any (λ k. same_row k g) seen) refl
    where
      by : (b : Bool) → list_any (λ k. same_row k g) seen ≡ b
          → list_any p (cond b seen (seen ++ g ∷ [])) ≡ (list_any p seen || p g)
      by true e = absorbs (p g) (list_any p seen) (λ h. among seen g e h)
      by false e = list_any-append p seen (g ∷ []) ∙ ap (λ (b : Bool). list_any p seen || b) (or_false (p g))

  any_on : (seen rest : List HeldLine) → list_any p (fold with_naming seen rest) ≡ (list_any p seen || list_any p rest)
  any_on seen [] = sym (or_false (list_any p seen))
  any_on seen (g ∷ rest) =
      any_on (with_naming seen g) rest ∙ ap (λ (b : Bool). b || list_any p rest) (with_any seen g)
      ∙ three (list_any p seen) (p g) (list_any p rest)
    where
      three : (a b c : Bool) → ((a || b) || c) ≡ (a || (b || c))
      three true b c = refl
      three false b c = refl

  pub any_first : (lines : List HeldLine) → list_any p (first_lines lines) ≡ list_any p lines
  any_first lines = any_on [] lines

-- what holds of all lines holds of these
all_on : (P : HeldLine → Type 0) (seen rest : List HeldLine) → All P seen → All P rest
    → All P (fold with_naming seen rest)
all_on P seen [] h k = h
all_on P seen (g ∷ rest) h k = all_on P (with_naming seen g) rest (by (list_any (λ j. same_row j g) seen))
    (All-tail P g rest k)
  where
    by : (b : Bool) → All P (cond b seen (seen ++ g ∷ []))
    by true = h
    by false = All-push P seen g h (All-head P g rest k)

pub all_first : (P : HeldLine → Type 0) (lines : List HeldLine) → All P lines → All P (first_lines lines)
all_first P lines h = all_on P [] lines (All-nil P) h

-- no two of them are of the same row
abbrev pub AreOfOtherRows : List HeldLine → Type 0
AreOfOtherRows lines = AllPairs (λ g h. same_row g h ≡ false) lines

none_same : (seen : List HeldLine) (g : HeldLine) → list_any (λ k. same_row k g) seen ≡ false
    → All (λ k. same_row k g ≡ false) seen
none_same [] g e = All-nil (λ (k : HeldLine). same_row k g ≡ false)
none_same (k ∷ ks) g e =
    let both = or_parts (same_row k g) (list_any (λ (j : HeldLine). same_row j g) ks) e in
    All-cons (λ (j : HeldLine). same_row j g ≡ false) k ks both.0 (none_same ks g both.1)

others_on : (seen rest : List HeldLine) → AreOfOtherRows seen → AreOfOtherRows (fold with_naming seen rest)
others_on seen [] h = h
others_on seen (g ∷ rest) h = others_on (with_naming seen g) rest (by (list_any (λ j. same_row j g) seen) refl)
  where
    by : (b : Bool) → list_any (λ j. same_row j g) seen ≡ b → AreOfOtherRows (cond b seen (seen ++ g ∷ []))
    by true e = h
    by false e = pairs_push (λ (a b : HeldLine). same_row a b ≡ false) seen g h (none_same seen g e)

pub others_first : (lines : List HeldLine) → AreOfOtherRows (first_lines lines)
others_first lines = others_on [] lines (nothing_apart (λ (g h : HeldLine). same_row g h ≡ false))

-- ---- one line more

after_step : (relations : List Relation) (lines : List HeldLine) (h g : HeldLine)
    → copies_after relations (lines ++ h ∷ []) g
    ≡ cond (same_row h g) (after_verb h.verb (copies_after relations lines g)) (copies_after relations lines g)
after_step relations lines h g =
    fold-append (λ (n : ℕ) (k : HeldLine). cond (same_row k g) (after_verb k.verb n) n) (copies_before relations g)
    lines (h ∷ [])

first_step : (lines : List HeldLine) (h : HeldLine) → first_lines (lines ++ h ∷ []) ≡ with_naming (first_lines lines) h
first_step lines h = fold-append with_naming [] lines (h ∷ [])

texts_step : (texts : List Bytes) (lines : List HeldLine) (h : HeldLine)
    → texts_after texts (lines ++ h ∷ []) ≡ all_learned (texts_after texts lines) (texts_added h)
texts_step texts lines h =
    fold-append (λ (known : List Bytes) (g : HeldLine). all_learned known (texts_added g)) texts lines (h ∷ [])

-- the copies of a row that no line names stay
unnamed_on : (n : ℕ) (lines : List HeldLine) (h : HeldLine) → list_any (λ g. same_row g h) lines ≡ false
    → fold (λ m g. cond (same_row g h) (after_verb g.verb m) m) n lines ≡ n
unnamed_on n [] h e = refl
unnamed_on n (g ∷ lines) h e =
    let both = or_parts (same_row g h) (list_any (λ (k : HeldLine). same_row k h) lines) e in
    ap (λ (b : Bool). fold (λ (m : ℕ) (k : HeldLine). cond (same_row k h) (after_verb k.verb m) m)
    (cond b (after_verb g.verb n) n) lines) both.0 ∙ unnamed_on n lines h both.1

pub unnamed_stays : (relations : List Relation) (lines : List HeldLine) (h : HeldLine)
    → list_any (λ g. same_row g h) lines ≡ false → copies_after relations lines h ≡ copies_before relations h
unnamed_stays relations lines h e = unnamed_on (copies_before relations h) lines h e

-- ---- what passes

limit_none : (b : Bool) → limit_if b ≡ None → b ≡ false
limit_none false e = refl
limit_none true e = absurd cc

both_none : {A : Type 0} (a b : Option A) → option_or a b ≡ None → (a ≡ None) × (b ≡ None)
both_none None b e = (refl, e)
both_none (Some x) b e = absurd cc

unrefused : (at : ℕ) (o : Option LineRefusal) → refused_at at o ≡ None → o ≡ None
unrefused at None e = refl
unrefused at (Some r) e = absurd cc

-- What holds of lines of which none is refused.
pub record AreWithin (relations : List Relation) (texts : List Bytes) (lines : List HeldLine) : Type 0 where
  pub copies : (h : HeldLine) → copies_before relations h ≤ COPIES → copies_after relations lines h ≤ COPIES
  pub room : (name : Bytes) → length (rows_of relations name) ≤ ROWS → rows_reached relations lines name ≤ ROWS
  pub known : length texts ≤ TEXTS → length (texts_after texts lines) ≤ TEXTS

module _ (relations : List Relation) (texts : List Bytes) (front : List HeldLine) (h : HeldLine)
    (passes : line_refusal relations texts front h ≡ None) where
  row_passes : row_refusal relations front h ≡ None
  row_passes = (both_none (row_refusal relations front h) (texts_refusal (texts_after texts front) h) passes).0

  copies_step : (within : AreWithin relations texts front) (g : HeldLine) → copies_before relations g ≤ COPIES
      → copies_after relations (front ++ h ∷ []) g ≤ COPIES
  copies_step within g few =
      subst (λ (n : ℕ). n ≤ COPIES) (sym (after_step relations front h g)) (by (same_row h g) refl)
    where
      old : copies_after relations front g ≤ COPIES
      old = within.copies g few

      verb : (v : Verb) → refusal_by v relations front h ≡ None → same_row h g ≡ true
          → after_verb v (copies_after relations front g) ≤ COPIES
      verb Add r e =
          let parts = or_parts (nat_le COPIES (copies_after relations front h))
          (is_new relations front h && nat_le ROWS (rows_reached relations front h.relation))
          (limit_none (nat_le COPIES (copies_after relations front h)
          || (is_new relations front h && nat_le ROWS (rows_reached relations front h.relation))) r) in
          omega (
            arith,
            leb-false COPIES (copies_after relations front h) parts.0,
            after_same relations front h g e,
          )
      verb Delete r e = less (copies_after relations front g) old
        where
          less : (n : ℕ) → n ≤ COPIES → pred n ≤ COPIES
          less zero k = k
          less (suc n) k = omega (arith, k)

      by : (b : Bool) → same_row h g ≡ b
          → cond b (after_verb h.verb (copies_after relations front g)) (copies_after relations front g) ≤ COPIES
      by false e = old
      by true e = verb h.verb row_passes e

  room_step : (within : AreWithin relations texts front) (name : Bytes) → length (rows_of relations name) ≤ ROWS
      → rows_reached relations (front ++ h ∷ []) name ≤ ROWS
  room_step within name few =
      subst (λ (hs : List HeldLine). length (rows_of relations name) + length (filter counts hs) ≤ ROWS)
      (sym (first_step front h)) (by (list_any (λ (g : HeldLine). same_row g h) (first_lines front)) refl)
    where
      counts : HeldLine → Bool
      counts g = bytes_eq g.relation name && (copies_before relations g == 0)

      old : length (rows_of relations name) + length (filter counts (first_lines front)) ≤ ROWS
      old = within.room name few

      new : (v : Verb) → refusal_by v relations front h ≡ None → names_row_before front h ≡ false
          → (copies_before relations h == 0) ≡ true → rows_reached relations front h.relation < ROWS
      new Add r first none =
          let parts = or_parts (nat_le COPIES (copies_after relations front h))
          (is_new relations front h && nat_le ROWS (rows_reached relations front h.relation))
          (limit_none (nat_le COPIES (copies_after relations front h)
          || (is_new relations front h && nat_le ROWS (rows_reached relations front h.relation))) r) in
          leb-false ROWS (rows_reached relations front h.relation)
          (second_fails (is_new relations front h) (nat_le ROWS (rows_reached relations front h.relation))
          (ap₂ (λ (a b : Bool). a && not b) none first) parts.1)
      new Delete r first none = absurd (by_none (copies_after relations front h == 0)
          (ap (λ (n : ℕ). n == 0) (unnamed_stays relations front h first) ∙ none) r)
        where
          by_none : (b : Bool) → b ≡ true → cond b (Some Absent) None ≡ None → ⊥
          by_none true e k = absurd cc
          by_none false e k = false≢true e

      one : (b : Bool) → counts h ≡ b → names_row_before front h ≡ false
          → length (rows_of relations name) + length (filter counts (first_lines front)) + cond b 1 0 ≤ ROWS
      one false e first = omega (arith, old)
      one true e first =
          let both = and_parts (bytes_eq h.relation name) (copies_before relations h == 0) e in
          let same : h.relation ≡ name = (bytes_eq-decides h.relation name).0 both.0 in
          let below : rows_reached relations front name < ROWS =
          subst (λ (n : Bytes). rows_reached relations front n < ROWS) same (new h.verb row_passes first both.1) in
          omega (arith, below)

      last : (b : Bool) → counts h ≡ b → length (filter counts (h ∷ [])) ≡ cond b 1 0
      last true e = ap (λ (b : Bool). length (cond b (h ∷ []) [])) e
      last false e = ap (λ (b : Bool). length (cond b (h ∷ []) [])) e

      by : (b : Bool) → list_any (λ (g : HeldLine). same_row g h) (first_lines front) ≡ b
          → length (rows_of relations name)
          + length (filter counts (cond b (first_lines front) (first_lines front ++ h ∷ []))) ≤ ROWS
      by true e = old
      by false e =
          let first : names_row_before front h ≡ false =
          sym (any_first (λ (g : HeldLine). same_row g h)
          (λ g k s. by_row (λ (j : HeldLine). same_row j h) (λ j. refl) g k s) front) ∙ e in
          omega (
            arith,
            one (counts h) refl first,
            ap (λ (hs : List HeldLine). length hs) (filter-append counts (first_lines front) (h ∷ [])),
            length-append (filter counts (first_lines front)) (filter counts (h ∷ [])),
            last (counts h) refl,
          )

  known_step : length (texts_after texts (front ++ h ∷ [])) ≤ TEXTS
  known_step =
      let none : texts_refusal (texts_after texts front) h ≡ None =
      (both_none (row_refusal relations front h) (texts_refusal (texts_after texts front) h) passes).1 in
      omega (
        arith,
        ltb-false TEXTS (length (all_learned (texts_after texts front) (texts_added h)))
            (limit_none (nat_lt TEXTS (length (all_learned (texts_after texts front) (texts_added h)))) none),
        ap (λ (ts : List Bytes). length ts) (texts_step texts front h),
      )

  within_step : AreWithin relations texts front → AreWithin relations texts (front ++ h ∷ [])
  within_step within = record {
    copies = copies_step within;
    room = room_step within;
    known = λ few. known_step;
  }

within_on : (relations : List Relation) (texts : List Bytes) (front rest : List HeldLine)
    → AreWithin relations texts front → refusal_behind relations texts front rest ≡ None
    → AreWithin relations texts (front ++ rest)
within_on relations texts front [] within none =
    subst (λ (ls : List HeldLine). AreWithin relations texts ls) (sym (append-nil front)) within
within_on relations texts front (h ∷ rest) within none =
    let both = both_none (refused_at (length front) (line_refusal relations texts front h))
    (refusal_behind relations texts (front ++ h ∷ []) rest) none in
    subst (λ (ls : List HeldLine). AreWithin relations texts ls) (append_assoc front (h ∷ []) rest)
    (within_on relations texts (front ++ h ∷ []) rest
    (within_step relations texts front h
    (unrefused (length front) (line_refusal relations texts front h) both.0) within) both.1)

pub lines_within : (relations : List Relation) (texts : List Bytes) (lines : List HeldLine)
    → lines_refusal relations texts lines ≡ None → AreWithin relations texts lines
lines_within relations texts lines none =
    within_on relations texts [] lines (record {
      copies = λ h few. few;
      room = λ name few. omega (arith, few);
      known = λ few. few;
    }) none

-- ---- other rows of one relation

here_or : {A : Type 0} (f : List CountedRow → A) (rs : List Relation) (name : Bytes) (rows : List CountedRow)
    → f rows ≡ f (counted_of rs name) → f (counted_of (with_rows rs name rows) name) ≡ f (counted_of rs name)
here_or f rs name rows e =
    ap (λ (o : Option Relation). f (counted_in o)) (relation_here rs name rows) ∙ by (relation_of rs name) e
  where
    by : (o : Option Relation) → f rows ≡ f (counted_in o)
        → f (counted_in (option_map (λ (r : Relation). record r { rows = rows }) o)) ≡ f (counted_in o)
    by None k = refl
    by (Some r) k = k

pub here_holds : (P : List CountedRow → Type 0) (rs : List Relation) (name : Bytes) (rows : List CountedRow) → P rows
    → P []
    → P (counted_of (with_rows rs name rows) name)
here_holds P rs name rows h none =
    subst (λ (o : Option Relation). P (counted_in o)) (sym (relation_here rs name rows)) (by (relation_of rs name))
  where
    by : (o : Option Relation) → P (counted_in (option_map (λ (r : Relation). record r { rows = rows }) o))
    by None = none
    by (Some r) = h

-- ---- the relations as the rows of lines get their copies

module _ (st : Store) (lines : List HeldLine) where
  abbrev base : List Relation
  base = st.relations

  abbrev step : List Relation → HeldLine → List Relation
  step = with_copies_left base lines

  abbrev left : List Relation → HeldLine → List CountedRow
  left now g = with_so_many (counted_of now g.relation) g.row (copies_after base lines g)

  abbrev among_these : List Relation → Store
  among_these now = record st { relations = now }

  -- what depends on another row alone stays
  pub other_row : {A : Type 0} (f : List CountedRow → A) (h : HeldLine)
      → ((rows : List CountedRow) (row : Tuple) (n : ℕ) → tuple_eq row h.row ≡ false
      → f (with_so_many rows row n) ≡ f rows)
      → (now : List Relation) (g : HeldLine) → same_row g h ≡ false
      → f (counted_of (step now g) h.relation) ≡ f (counted_of now h.relation)
  other_row f h spares now g apart = by (bytes_eq h.relation g.relation) refl
    where
      differ : (b : Bool) → b ≡ true → (b && tuple_eq g.row h.row) ≡ false → tuple_eq g.row h.row ≡ false
      differ true e k = k
      differ false e k = absurd (false≢true e)

      by : (b : Bool) → bytes_eq h.relation g.relation ≡ b
          → f (counted_of (step now g) h.relation) ≡ f (counted_of now h.relation)
      by false e = ap f (counted_apart now g.relation (left now g) h.relation e)
      by true e =
          let same : h.relation ≡ g.relation = (bytes_eq-decides h.relation g.relation).0 e in
          let no : tuple_eq g.row h.row ≡ false =
          differ (bytes_eq g.relation h.relation) ((bytes_eq-decides g.relation h.relation).1 (sym same)) apart in
          ap (λ (name : Bytes). f (counted_of (step now g) name)) same
          ∙ here_or f now g.relation (left now g)
          (spares (counted_of now g.relation) g.row (copies_after base lines g) no)
          ∙ ap (λ (name : Bytes). f (counted_of now name)) (sym same)

  names_on : (now : List Relation) (gs : List HeldLine) → AreApart (map (λ (x : Relation). x.name) now)
      → AreApart (map (λ (x : Relation). x.name) (fold step now gs))
  names_on now [] h = h
  names_on now (g ∷ gs) h = names_on (step now g) gs (other_names (among_these now) g.relation (left now g) h)

  types_on : (now : List Relation) (gs : List HeldLine) → SameTypes base now → SameTypes base (fold step now gs)
  types_on now [] h = h
  types_on now (g ∷ gs) h = types_on (step now g) gs (λ n. types_with_rows now g.relation (left now g) n ∙ h n)

  count_on : (now : List Relation) (gs : List HeldLine) → length (fold step now gs) ≡ length now
  count_on now [] = refl
  count_on now (g ∷ gs) = count_on (step now g) gs ∙ other_count (among_these now) g.relation (left now g)

  pub lines_names : AreApart (map (λ (x : Relation). x.name) base)
      → AreApart (map (λ (x : Relation). x.name) (relations_after base lines))
  lines_names h = names_on base (first_lines lines) h

  pub lines_types : SameTypes base (relations_after base lines)
  lines_types = types_on base (first_lines lines) (λ n. refl)

  pub lines_count : length (relations_after base lines) ≡ length base
  lines_count = count_on base (first_lines lines)

  -- ---- sound relations

  abbrev is_coming : Bytes → HeldLine → Bool
  is_coming name g = bytes_eq g.relation name && (copies_before base g == 0)

  abbrev coming : List HeldLine → Bytes → ℕ
  coming gs name = length (filter (is_coming name) gs)

  -- a row that had copies is there
  abbrev IsReady : List Relation → HeldLine → Type 0
  IsReady now g = (copies_before base g == 0) ≡ false → has_row (rows_of now g.relation) g.row ≡ true

  -- What holds on the way, as these lines are left.
  record OnTheWay (now : List Relation) (gs : List HeldLine) : Type 0 where
    pub sound : All IsSoundRelation now
    pub types : SameTypes base now
    pub room : (name : Bytes) → length (rows_of now name) + coming gs name ≤ ROWS
    pub ready : All (IsReady now) gs

  -- what is asked of each line
  abbrev IsFitting : HeldLine → Type 0
  IsFitting g = (suit_refusal st g.relation g.row ≡ None) × (copies_after base lines g ≤ COPIES)

  module _ (now : List Relation) (g : HeldLine) (gs : List HeldLine) (way : OnTheWay now (g ∷ gs))
      (fitting : IsFitting g) where
    abbrev had : List CountedRow
    had = counted_of now g.relation

    here : IsReady now g
    here = All-head (IsReady now) g gs way.ready

    -- a row that isn't there had no copy
    none_before : has_row (plain_of had) g.row ≡ false → (copies_before base g == 0) ≡ true
    none_before absent = by (copies_before base g == 0) refl
      where
        by : (b : Bool) → (copies_before base g == 0) ≡ b → b ≡ true
        by true e = refl
        by false e = absurd (false≢true (sym absent ∙ here e))

    its_room : (b : Bool) → (copies_before base g == 0) ≡ b
        → length (plain_of had) + cond b 1 0 + coming gs g.relation ≤ ROWS
    its_room b e =
        let mine : bytes_eq g.relation g.relation ≡ true = (bytes_eq-decides g.relation g.relation).1 refl in
        let counts : is_coming g.relation g ≡ b =
        ap (λ (a : Bool). a && (copies_before base g == 0)) mine ∙ e in
        let whole : coming (g ∷ gs) g.relation ≡ cond b 1 0 + coming gs g.relation =
        ap (λ (a : Bool). length (cond a (g ∷ filter (is_coming g.relation) gs) (filter (is_coming g.relation) gs)))
        counts ∙ as_many b in
        omega (arith, way.room g.relation, whole)
      where
        as_many : (b : Bool)
            → length (cond b (g ∷ filter (is_coming g.relation) gs) (filter (is_coming g.relation) gs))
            ≡ cond b 1 0 + coming gs g.relation
        as_many true = omega arith
        as_many false = omega arith

    suits_left : (x : Relation) → relation_of now g.relation ≡ Some x
        → Suits (among_these now) g.relation had x had → Suits (among_these now) g.relation had x (left now g)
    suits_left x found s = by (copies_after base lines g) fitting.1 (has_row (plain_of had) g.row) refl
      where
        fits_now : fits (types_of (relation_of now g.relation)) g.row ≡ true
        fits_now =
            ap (λ (ts : List ColumnType). fits ts g.row) (types_found base now g.relation (way.types g.relation))
            ∙ suit_fits st g.relation g.row fitting.0

        by : (n : ℕ) → n ≤ COPIES → (b : Bool) → has_row (plain_of had) g.row ≡ b
            → Suits (among_these now) g.relation had x (with_so_many had g.row n)
        by zero few b e = suits_less (among_these now) g.relation g.row x found s
        by (suc n) few true e =
            subst (λ (b : Bool). Suits (among_these now) g.relation had x
            (cond b (with_copies had g.row (suc n)) (had ++ record { row = g.row; copies = suc n } ∷ []))) (sym e)
            (suits_copies (among_these now) g.relation g.row (suc n) (omega arith, few) x found s)
        by (suc n) few false e =
            subst (λ (b : Bool). Suits (among_these now) g.relation had x
            (cond b (with_copies had g.row (suc n)) (had ++ record { row = g.row; copies = suc n } ∷ []))) (sym e)
            (suits_last (among_these now) g.relation g.row (suc n) (omega arith, few) fits_now e
            (omega (arith, its_room true (none_before e))) x found s)

    -- there is one row more at most
    row_more : (b : Bool) → (copies_before base g == 0) ≡ b
        → length (plain_of (left now g)) ≤ length (plain_of had) + cond b 1 0
    row_more b z = by (copies_after base lines g) (has_row (plain_of had) g.row) refl
      where
        by : (n : ℕ) (c : Bool) → has_row (plain_of had) g.row ≡ c
            → length (plain_of (with_so_many had g.row n)) ≤ length (plain_of had) + cond b 1 0
        by zero c e =
            omega (
              arith,
              ap (λ (ts : List Tuple). length ts) (tuples_without had g.row ∙ without_dropped (plain_of had) g.row),
              less_dropped (λ t. tuple_eq t g.row) (plain_of had),
            )
        by (suc n) true e =
            omega (
              arith,
              ap (λ (c : Bool). length (plain_of
                  (cond c (with_copies had g.row (suc n)) (had ++ record { row = g.row; copies = suc n } ∷ [])))) e,
              ap (λ (ts : List Tuple). length ts) (tuples_with_copies had g.row (suc n)),
            )
        by (suc n) false e =
            omega (
              arith,
              ap (λ (c : Bool). length (plain_of
                  (cond c (with_copies had g.row (suc n)) (had ++ record { row = g.row; copies = suc n } ∷ [])))) e,
              ap (λ (ts : List Tuple). length ts)
                  (map-append (λ (c : CountedRow). c.row) had (record { row = g.row; copies = suc n } ∷ [])),
              length-append (plain_of had) (g.row ∷ []),
              one_if b (sym z ∙ none_before e),
            )
          where
            one_if : (c : Bool) → c ≡ true → 1 ≤ cond c 1 0
            one_if true f = omega arith
            one_if false f = absurd (false≢true f)

    room_left : (name : Bytes) → length (rows_of (step now g) name) + coming gs name ≤ ROWS
    room_left name = by (bytes_eq name g.relation) refl
      where
        more : (b : Bool) → coming gs name
            ≤ length (cond b (g ∷ filter (is_coming name) gs) (filter (is_coming name) gs))
        more true = omega arith
        more false = omega arith

        by : (b : Bool) → bytes_eq name g.relation ≡ b → length (rows_of (step now g) name) + coming gs name ≤ ROWS
        by false e =
            omega (
              arith,
              ap (λ (ts : List Tuple). length ts) (rows_apart now g.relation (left now g) name e),
              way.room name,
              more (is_coming name g),
            )
        by true e =
            let same : name ≡ g.relation = (bytes_eq-decides name g.relation).0 e in
            let z = copies_before base g == 0 in
            subst (λ (n : Bytes). length (rows_of (step now g) n) + coming gs n ≤ ROWS) (sym same)
            (omega (
              arith,
              here_holds (λ (cs : List CountedRow). length (plain_of cs) ≤ length (plain_of had) + cond z 1 0) now
                  g.relation (left now g) (row_more z refl) (omega arith),
              its_room z refl,
            ))

    way_on : All (λ h. same_row g h ≡ false) gs → OnTheWay (step now g) gs
    way_on others = record {
      sound = other_rows (among_these now) g.relation (left now g) (λ x found s. suits_left x found s) way.sound;
      types = λ n. types_with_rows now g.relation (left now g) n ∙ way.types n;
      room = room_left;
      ready = hold_each (IsReady (step now g)) gs (λ h c before.
          other_row (λ (rows : List CountedRow). has_row (plain_of rows) h.row) h
          (λ rows row n e. many_has_others rows row h.row n e) now g
          (All-contains (λ (k : HeldLine). same_row g k ≡ false) gs h others c)
          ∙ All-contains (IsReady now) gs h (All-tail (IsReady now) g gs way.ready) c before);
    }

  sound_on : (now : List Relation) (gs : List HeldLine) → AreOfOtherRows gs → All IsFitting gs → OnTheWay now gs
      → All IsSoundRelation (fold step now gs)
  sound_on now [] others fitting way = way.sound
  sound_on now (g ∷ gs) others fitting way =
      sound_on (step now g) gs (pairs_tail (λ (a b : HeldLine). same_row a b ≡ false) g gs others)
      (All-tail IsFitting g gs fitting)
      (way_on now g gs way (All-head IsFitting g gs fitting)
      (pairs_head (λ (a b : HeldLine). same_row a b ≡ false) g gs others))

  -- a sound relation's rows have copies within the limit
  module _ (sound : All IsSoundRelation base) where
    counts : (name : Bytes) → All (λ (c : CountedRow). IsCopyCount c.copies) (counted_of base name)
    counts name = counted_sound base name (relation_of base name) refl sound

    few_before : (g : HeldLine) → copies_before base g ≤ COPIES
    few_before g = by (has_row (rows_of base g.relation) g.row) refl
      where
        by : (b : Bool) → has_row (rows_of base g.relation) g.row ≡ b → copies_before base g ≤ COPIES
        by true e = (copies_hold IsCopyCount (counted_of base g.relation) g.row (counts g.relation) e).1
        by false e = omega (arith, no_copies (counted_of base g.relation) g.row e)

    few_rows : (name : Bytes) → length (rows_of base name) ≤ ROWS
    few_rows name = by (relation_of base name) refl
      where
        by : (o : Option Relation) → relation_of base name ≡ o → length (plain_of (counted_in o)) ≤ ROWS
        by None e = omega arith
        by (Some x) e =
            (all_found IsSoundRelation (λ (r : Relation). bytes_eq r.name name) base x sound e).few

    pub lines_rows : (texts : List Bytes) → lines_refusal base texts lines ≡ None → SuitAll st lines
        → All IsSoundRelation (relations_after base lines)
    lines_rows texts none suit =
        let within = lines_within base texts lines none in
        sound_on base (first_lines lines) (others_first lines)
        (all_first IsFitting lines (All-weaker (λ (h : HeldLine). suit_refusal st h.relation h.row ≡ None) IsFitting
        (λ h k. (k, within.copies h (few_before h))) lines suit))
        (record {
          sound = sound;
          types = λ n. refl;
          room = λ name. within.room name (few_rows name);
          ready = hold_each (IsReady base) (first_lines lines) (λ h c before.
              there h (has_row (rows_of base h.relation) h.row) refl before);
        })
      where
        there : (h : HeldLine) (b : Bool) → has_row (rows_of base h.relation) h.row ≡ b
            → (copies_before base h == 0) ≡ false → b ≡ true
        there h true e before = refl
        there h false e before =
            absurd (false≢true (sym before
            ∙ eq-eqb (copies_before base h) 0 (no_copies (counted_of base h.relation) h.row e)))

  -- ---- where no row comes or goes

  -- a row that is there has a copy
  abbrev pub IsCounted : HeldLine → Type 0
  IsCounted g = has_row (rows_of base g.relation) g.row ≡ true → 1 ≤ copies_before base g

  -- no row of a line comes, and none goes
  abbrev pub IsResting : HeldLine → Type 0
  IsResting g = (line_comes base lines g ≡ false) × (line_goes base lines g ≡ false)

  rows_rest_here : (now : List Relation) (g : HeldLine) → IsCounted g → IsResting g
      → rows_of now g.relation ≡ rows_of base g.relation → plain_of (left now g) ≡ rows_of now g.relation
  rows_rest_here now g counted rest same =
      by (copies_after base lines g) refl (has_row (rows_of base g.relation) g.row) refl
    where
      had : List CountedRow
      had = counted_of now g.relation

      now_has : (b : Bool) → has_row (rows_of base g.relation) g.row ≡ b → has_row (plain_of had) g.row ≡ b
      now_has b e = ap (λ (ts : List Tuple). has_row ts g.row) same ∙ e

      by : (n : ℕ) → copies_after base lines g ≡ n → (b : Bool) → has_row (rows_of base g.relation) g.row ≡ b
          → plain_of (with_so_many had g.row n) ≡ plain_of had
      by zero k true e =
          let goes : line_goes base lines g ≡ true = ap₂ (λ (a b : Bool). a && b)
          (lt-ltb 0 (copies_before base g) (omega (arith, counted e))) (eq-eqb (copies_after base lines g) 0 k) in
          absurd (false≢true (sym rest.1 ∙ goes))
      by zero k false e = ap (λ (cs : List CountedRow). plain_of cs) (without_absent had g.row (now_has false e))
      by (suc n) k true e =
          ap (λ (b : Bool). plain_of
          (cond b (with_copies had g.row (suc n)) (had ++ record { row = g.row; copies = suc n } ∷ [])))
          (now_has true e)
          ∙ tuples_with_copies had g.row (suc n)
      by (suc n) k false e =
          let comes : line_comes base lines g ≡ true = ap₂ (λ (a b : Bool). a && b)
          (eq-eqb (copies_before base g) 0 (no_copies (counted_of base g.relation) g.row e))
          (lt-ltb 0 (copies_after base lines g) (omega (arith, k))) in
          absurd (false≢true (sym rest.0 ∙ comes))

  rest_step : (n : Bytes) (now : List Relation) (g : HeldLine) → IsCounted g
      → (bytes_eq g.relation n ≡ true → IsResting g) → rows_of now n ≡ rows_of base n
      → rows_of (step now g) n ≡ rows_of now n
  rest_step n now g counted rest same = by (bytes_eq n g.relation) refl
    where
      by : (b : Bool) → bytes_eq n g.relation ≡ b → rows_of (step now g) n ≡ rows_of now n
      by false e = rows_apart now g.relation (left now g) n e
      by true e =
          let is : n ≡ g.relation = (bytes_eq-decides n g.relation).0 e in
          rows_stay now g.relation (left now g)
          (rows_rest_here now g counted (rest ((bytes_eq-decides g.relation n).1 (sym is)))
          (subst (λ (m : Bytes). rows_of now m ≡ rows_of base m) is same)) n

  rest_on : (n : Bytes) (now : List Relation) (gs : List HeldLine) → All IsCounted gs
      → All (λ g. bytes_eq g.relation n ≡ true → IsResting g) gs → rows_of now n ≡ rows_of base n
      → rows_of (fold step now gs) n ≡ rows_of base n
  rest_on n now [] counted rest same = same
  rest_on n now (g ∷ gs) counted rest same =
      rest_on n (step now g) gs (All-tail IsCounted g gs counted)
      (All-tail (λ (k : HeldLine). bytes_eq k.relation n ≡ true → IsResting k) g gs rest)
      (rest_step n now g (All-head IsCounted g gs counted)
      (All-head (λ (k : HeldLine). bytes_eq k.relation n ≡ true → IsResting k) g gs rest) same ∙ same)

  -- A relation of which no row comes or goes has the rows that it had,
  pub rows_rest : HaveCopies base lines → (n : Bytes) → has_changed base lines n ≡ false
      → rows_of (relations_after base lines) n ≡ rows_of base n
  rows_rest counted n none =
      rest_on n base (first_lines lines) (all_first IsCounted lines counted)
      (all_first (λ (g : HeldLine). bytes_eq g.relation n ≡ true → IsResting g) lines
      (All-weaker (λ (g : HeldLine). changes g ≡ false) (λ (g : HeldLine). bytes_eq g.relation n ≡ true → IsResting g)
      (λ g e is. or_parts (line_comes base lines g) (line_goes base lines g)
      (second_fails (bytes_eq g.relation n) (line_comes base lines g || line_goes base lines g) is e))
      lines (none_any changes lines none))) refl
    where
      changes : HeldLine → Bool
      changes g = bytes_eq g.relation n && (line_comes base lines g || line_goes base lines g)

  -- and each does if none comes or goes at all.
  pub rows_unchanged : HaveCopies base lines → rows_changed base lines ≡ 0 → (n : Bytes)
      → rows_of (relations_after base lines) n ≡ rows_of base n
  rows_unchanged counted none n =
      rest_on n base (first_lines lines) (all_first IsCounted lines counted)
      (resting (first_lines lines)
      (omega (arith, none)) (omega (arith, none))) refl
    where
      resting : (gs : List HeldLine) → length (filter (line_comes base lines) gs) ≡ 0
          → length (filter (line_goes base lines) gs) ≡ 0
          → All (λ g. bytes_eq g.relation n ≡ true → IsResting g) gs
      resting [] c w = All-nil (λ (g : HeldLine). bytes_eq g.relation n ≡ true → IsResting g)
      resting (g ∷ gs) c w = by (line_comes base lines g) refl (line_goes base lines g) refl c w
          (λ x y. resting gs x y)
        where
          by : (a : Bool) → line_comes base lines g ≡ a → (b : Bool) → line_goes base lines g ≡ b
              → length (cond a (g ∷ filter (line_comes base lines) gs) (filter (line_comes base lines) gs)) ≡ 0
              → length (cond b (g ∷ filter (line_goes base lines) gs) (filter (line_goes base lines) gs)) ≡ 0
              → (length (filter (line_comes base lines) gs) ≡ 0 → length (filter (line_goes base lines) gs) ≡ 0
              → All (λ k. bytes_eq k.relation n ≡ true → IsResting k) gs)
              → All (λ k. bytes_eq k.relation n ≡ true → IsResting k) (g ∷ gs)
          by true e b f x y more = absurd (omega (arith, x))
          by false e true f x y more = absurd (omega (arith, y))
          by false e false f x y more =
              All-cons (λ (k : HeldLine). bytes_eq k.relation n ≡ true → IsResting k) g gs (λ is. (e, f)) (more x y)

-- of the relations that lines name alone rows come or go
pub changed_named : (relations : List Relation) (lines : List HeldLine) (n : Bytes)
    → has_changed relations lines n ≡ true → Contains (map (λ (h : HeldLine). h.relation) lines) n
changed_named relations lines n h = among_names lines h
  where
    changes : HeldLine → Bool
    changes g = line_comes relations lines g || line_goes relations lines g

    among_names : (hs : List HeldLine) → list_any (λ g. bytes_eq g.relation n && changes g) hs ≡ true
        → Contains (map (λ (g : HeldLine). g.relation) hs) n
    among_names [] e = absurd (false≢true e)
    among_names (g ∷ gs) e = by (bytes_eq g.relation n) refl e (λ k. among_names gs k)
      where
        names : List Bytes
        names = map (λ (k : HeldLine). k.relation) gs

        by : (b : Bool) → bytes_eq g.relation n ≡ b
            → ((b && changes g) || list_any (λ k. bytes_eq k.relation n && changes k) gs) ≡ true
            → (list_any (λ k. bytes_eq k.relation n && changes k) gs ≡ true → Contains names n)
            → Contains (g.relation ∷ names) n
        by true f k more = first_there g.relation names n ((bytes_eq-decides g.relation n).0 f)
        by false f k more = later_there g.relation names n (more k)
