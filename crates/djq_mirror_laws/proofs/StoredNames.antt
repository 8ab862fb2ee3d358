-- What commands make of the store has names and values that lines can say.
use Rattle.std.specs.Prelude.{ℕ, zero, suc, ◌+◌, ◌-◌, ◌*◌, ◌^◌, ◌<◌, List, [], ◌∷◌, ◌==◌, ◌||◌, ◌≡◌, ◌≤◌}
use Rattle.std.specs.Prelude.{◌++◌, ◌⊎◌, ◌&&◌, Bool, true, false, not, cond, nat_le, nat_lt, length, filter, fold}
use Rattle.std.specs.Prelude.{Option}
use Rattle.std.specs.Prelude.{None, Some, Result, Ok, Err, map, All, Contains, ⊤}
use Rattle.std.specs.List.{list_any}
use Rattle.std.specs.Option.{option_or, option_map}
use Rattle.std.proofs.Common.{refl, sym, ap, ◌∙◌, subst, inl, inr, arith}
use Rattle.std.proofs.lemmas.Bool.{eq-eqb, leb-false, ltb-false, not-false}
use Rattle.std.proofs.lemmas.List.Elements.{All-nil, All-cons, All-head, All-tail, All-push, All-contains, All-weaker}
use Rattle.std.proofs.lemmas.List.Sorted.{All-permutation}
use Rattle.std.proofs.lemmas.List.{length-map, length-append}
use Rattle.std.proofs.lemmas.Nat.{mul-le}
use Rattle.djq_model.specs.declared.value.Value.{Value}
use Rattle.djq_model.specs.declared.relation.ColumnType.{ColumnType}
use Rattle.djq_model.specs.declared.relation.Relation.{Relation}
use Rattle.djq_model.specs.declared.relation.CountedRow.{CountedRow}
use Rattle.djq_model.specs.declared.query.Query.{Query}
use Rattle.djq_model.specs.declared.query.Atom.{Atom}
use Rattle.djq_model.specs.declared.query.Term.{Term}
use Rattle.djq_model.specs.declared.query.Term.TheVariants.{Variable, Hole, Constant}
use Rattle.djq_model.specs.declared.value.Value.TheVariants.{Int, Text}
use Rattle.djq_model.specs.Data.{Bytes, Tuple, bytes_eq, tuple_eq, drop_first, relation_of, tuples_in, plain_of}
use Rattle.djq_model.specs.Data.{counted_in, counted_of, rows_of, has_row, with_row, with_copies, without_copies}
use Rattle.djq_model.specs.Equality.{bytes_eq-decides}
use Rattle.djq_model.specs.Answer.{Assignment, StandsFor, StandForAll, Satisfies, IsAnswer}
use Rattle.djq_model.specs.Listed.{Listed, a_query, a_union, listed_name, AnswersOf, listed_of}
use Rattle.djq_model.specs.Known.{texts_in}
use Rattle.djq_model.proofs.Copies.{tuples_with_row, tuples_with_copies, tuples_without, tuples_moved, copies_hold}
use Rattle.djq_value.specs.Literal.{IsName}
use Rattle.djq_protocol.specs.declared.limits.TheConstants.{LAST_SEQ, COPIES, MEMBERS}
use Rattle.djq_protocol.specs.declared.limits.TheConstants.{HEAD_VARIABLES}
use Rattle.djq_protocol.specs.declared.rest.QueryOutcome.{QueryOutcome}
use Rattle.djq_protocol.specs.declared.rest.QueryOutcome.TheVariants.{Registered, Cyclic, NotConnex}
use Rattle.djq_protocol.specs.declared.answer.Refusal.{Refusal}
use Rattle.djq_protocol.specs.declared.answer.AddOutcome.{AddOutcome}
use Rattle.djq_protocol.specs.declared.answer.AddOutcome.TheVariants.{First, More}
use Rattle.djq_protocol.specs.declared.answer.DeleteOutcome.{DeleteOutcome}
use Rattle.djq_protocol.specs.declared.answer.DeleteOutcome.TheVariants.{Last, Left, Absent}
use Rattle.djq_protocol.specs.declared.held.DoneRefusal.{DoneRefusal}
use Rattle.djq_protocol.specs.declared.held.DoneRefusal.TheVariants.{OtherNumber, Line, LastChange}
use Rattle.djq_protocol.specs.declared.answer.Sign.{Sign}
use Rattle.djq_protocol.specs.declared.answer.Sign.TheVariants.{Came, Went}
use Rattle.djq_protocol.specs.Conditions.{OutOfMemoryWhere}
use Rattle.djq_protocol.specs.QueryFault.{is_too_large}
use Rattle.djq_protocol.specs.Variables.{constants_of, is_variable, stands_in}
use Rattle.djq_mirror.specs.Replies.{Reply, answer, changed, counted, is_cell, are_cells, IsNumber, IsPrinted}
use Rattle.djq_store_spec.specs.Store.{Store}
use Rattle.djq_store_spec.specs.Relations.{RefusedByTexts, MakesRelation, with_rows, rel_refusal}
use Rattle.djq_store_spec.specs.Registering.{RefusedLate, RegistersAs, RegistersQuery, DropsQuery, query_refusal}
use Rattle.djq_store_spec.specs.Registering.{drop_refusal, answer_steps, most_steps, width_of, atoms_of}
use Rattle.djq_store_spec.specs.Rows.{AddsRow, AddsAs, DeletesRow, DeletesAs, with_copies_of, copies_of}
use Rattle.djq_store_spec.specs.Rows.{add_refusal, delete_refusal}
use Rattle.djq_store_spec.specs.Union.{union_refusal, AreUnder, RegistersUnion}
use Rattle.djq_store_spec.specs.Held.{HeldLine}
use Rattle.djq_store_spec.specs.Lines.{same_row, with_naming, first_lines, line_comes, line_goes, copies_after}
use Rattle.djq_store_spec.specs.Lines.{with_so_many, with_copies_left, relations_after}
use Rattle.djq_store_spec.specs.Judging.{lines_refusal}
use Rattle.djq_store_spec.specs.Done.{rows_changed, is_other, refused_if, seq_refusal, done_refusal}
use Rattle.djq_store_spec.specs.Transaction.{DoesAll}
use Rattle.djq_store_spec.specs.Delta.{Change, HasChanged}
use Rattle.djq_answer_laws.specs.Finite.{IsBound}
use Rattle.djq_answer_laws.proofs.Lists.{nothing_there, first_or_later, first_there, later_there, hold_each, some_one}
use Rattle.djq_answer_laws.proofs.Choices.{none_any}
use Rattle.djq_machine.specs.Step.{SameRelations}
use Rattle.djq_run_laws.specs.Form.{LearnsTexts}
use Rattle.djq_run_laws.specs.Sound.{IsCopyCount, IsSoundStore}
use Rattle.djq_run_laws.proofs.Forms.{done_of, none_holds, stays_learned, late_learned, refused_learned, all_fail}
use Rattle.djq_run_laws.proofs.Forms.{second_fails, within_limits, query_conditions, union_conditions}
use Rattle.djq_run_laws.proofs.Lists.{all_changed, all_found, all_dropped, without_dropped, mapped_from}
use Rattle.djq_run_laws.proofs.RegisteredQueries.{under_names, under_registered}
use Rattle.djq_run_laws.proofs.RowCommands.{counted_sound, add_conditions, delete_conditions}
use Rattle.djq_mirror_laws.specs.Sayable.{IsSayableValue, IsSayableRow, IsSayableRelation, IsSayableQuery, IsAskable}
use Rattle.djq_mirror_laws.specs.Sayable.{IsSayableListed, IsSayableHeld, IsSayableStore, IsSayableText}
use Rattle.djq_mirror_laws.proofs.KnownTexts.{all_learned_said, row_texts, refused_said, late_said, constants_said}
use Rattle.djq_mirror_laws.proofs.KnownTexts.{texts_after_said, refused_texts}
use Rattle.djq_mirror_laws.specs.Lines.{IsShort}
use Rattle.djq_mirror_laws.specs.Told.{delta_replies}

-- ---- What commands make of the store has names, and values within their limits.

-- ---- answers

cell_there : (P : Value → Type 0) (b : Assignment) (ts : List Term) (vs : Tuple) (x : Bytes) → StandForAll b ts vs
    → Contains ts (Variable x) → All P vs → P (b x)
cell_there P b [] vs x h k all = absurd (nothing_there (Variable x) k)
cell_there P b (t ∷ ts) [] x h k all = absurd h
cell_there P b (t ∷ ts) (v ∷ vs) x h k all =
    by (first_or_later t ts (Variable x) k) (λ c. cell_there P b ts vs x h.1 c (All-tail P v vs all))
  where
    by : (t ≡ Variable x) ⊎ Contains ts (Variable x) → (Contains ts (Variable x) → P (b x)) → P (b x)
    by (inl e) more = subst P (sym (subst (λ (u : Term). StandsFor b u v) e h.0)) (All-head P v vs all)
    by (inr c) more = more c

pub rows_sayable : (rs : List Relation) (name : Bytes) → All IsSayableRelation rs → All IsSayableRow (rows_of rs name)
rows_sayable rs name h = by (relation_of rs name) refl
  where
    by : (o : Option Relation) → relation_of rs name ≡ o → All IsSayableRow (plain_of (counted_in o))
    by None e = All-nil IsSayableRow
    by (Some x) e = (all_found IsSayableRelation (λ (r : Relation). bytes_eq r.name name) rs x h e).rows

query_answer_sayable : (rs : List Relation) → All IsSayableRelation rs → (q : Query) → IsSayableListed (a_query q)
    → (t : Tuple) → IsAnswer rs q t → IsSayableRow t
query_answer_sayable rs h q k t a =
    subst IsSayableRow (sym a.on_head)
    (hold_each IsSayableValue (map a.assignment q.head) (λ v c.
    let x = mapped_from a.assignment q.head v c in
    let m = k.1.bound x.0 x.1 in
    let s = All-contains (Satisfies rs a.assignment) q.atoms m.0 a.satisfies m.1 in
    subst IsSayableValue x.2
    (cell_there IsSayableValue a.assignment (m.0).terms s.row x.0 s.stands m.2
    (All-contains IsSayableRow (rows_of rs (m.0).relation) s.row (rows_sayable rs (m.0).relation h) s.is_there))))

pub answer_sayable : (rs : List Relation) → All IsSayableRelation rs → (q : Listed) → IsSayableListed q → (t : Tuple)
    → AnswersOf rs q t → IsSayableRow t
answer_sayable rs h (a_query q) k t a = query_answer_sayable rs h q k t a
answer_sayable rs h (a_union name qs) k t a =
    let o = some_one (λ (q : Query). IsAnswer rs q t) qs a in
    query_answer_sayable rs h o.0 (All-contains (λ (q : Query). IsSayableListed (a_query q)) qs o.0 k.1 o.1) t o.2

-- ---- stores

pub learned_sayable : (old new : Store) → LearnsTexts old new → All IsSayableText new.texts → IsSayableStore old
    → IsSayableStore new
learned_sayable old new h texts s =
    subst IsSayableStore (sym h.store) (record {
      relations = s.relations;
      texts = subst (λ (st : Store). All IsSayableText st.texts) h.store texts;
      queries = s.queries;
      seq = s.seq;
    })

pub rel_sayable : (old : Store) (name : Bytes) (types : List ColumnType) (r : Result ⊤ Refusal) (new : Store)
    → MakesRelation old name types r new → IsName name → IsSayableStore old → IsSayableStore new
rel_sayable old name types (Err r) new h named s = subst IsSayableStore (sym h.stays) s
rel_sayable old name types (Ok u) new h named s =
    let made : Relation = record { name = name; types = types; rows = [] } in
    subst IsSayableStore
    (sym (done_of (rel_refusal old name types) u (λ _. new ≡ record old { relations = old.relations ++ made ∷ [] })
    (OutOfMemoryWhere ⊤) h.answer))
    (record {
      relations = All-push IsSayableRelation old.relations made s.relations
          (record { name = named; rows = All-nil IsSayableRow });
      texts = s.texts;
      queries = s.queries;
      seq = s.seq;
    })

-- other rows in one relation
other_rows : (rs : List Relation) (name : Bytes) (rows : List CountedRow) → All IsSayableRelation rs
    → All IsSayableRow (plain_of rows) → All IsSayableRelation (with_rows rs name rows)
other_rows rs name rows h all =
    all_changed IsSayableRelation (λ (x : Relation). bytes_eq x.name name)
    (λ (x : Relation). record x { rows = rows }) rs h (λ x found k. record { name = k.name; rows = all })

other_copies : (rs : List Relation) (name : Bytes) (row : Tuple) (n : ℕ) → All IsSayableRelation rs
    → All IsSayableRelation (with_copies_of rs name row n)
other_copies rs name row n h =
    other_rows rs name (with_copies (counted_of rs name) row n) h
    (subst (λ (ts : List Tuple). All IsSayableRow ts) (sym (tuples_with_copies (counted_of rs name) row n))
    (rows_sayable rs name h))

pub add_sayable : (old : Store) (name : Bytes) (row : Tuple) (r : Result AddOutcome Refusal) (new : Store)
    → AddsRow old name row r new → IsSayableRow row → IsSayableStore old → IsSayableStore new
add_sayable old name row (Ok First) new h said s =
    let d = done_of (add_refusal old name row) First (AddsAs old name row new) _ h.answer in
    let none = none_holds (add_refusal old name row) First (AddsAs old name row new) _ h.answer in
    let fails = all_fail (add_conditions old name row) none in
    let below = leb-false LAST_SEQ old.seq
    (second_fails (not (has_row (rows_of old.relations name) row)) (nat_le LAST_SEQ old.seq) (ap not d.0)
    fails.1.1.1.1.1.0) in
    let before = counted_of old.relations name in
    subst IsSayableStore (sym d.2) (record {
      relations = other_rows old.relations name (with_row before row) s.relations
          (subst (λ (ts : List Tuple). All IsSayableRow ts) (sym (tuples_with_row before row))
          (All-push IsSayableRow (plain_of before) row (rows_sayable old.relations name s.relations) said));
      texts = all_learned_said old.texts (texts_in row) (row_texts row said) s.texts;
      queries = s.queries;
      seq = omega (arith, below);
    })
add_sayable old name row (Ok (More copies)) new h said s =
    let d = done_of (add_refusal old name row) (More copies) (AddsAs old name row new) _ h.answer in
    subst IsSayableStore (sym d.2) (record {
      relations = other_copies old.relations name row copies s.relations;
      texts = s.texts;
      queries = s.queries;
      seq = s.seq;
    })
add_sayable old name row (Err r) new h said s =
    learned_sayable old new
    (refused_learned (add_refusal old name row) r (AddsAs old name row new)
    (λ t. (has_row (rows_of old.relations name) row ≡ false) × RefusedByTexts old (texts_in row) new t) old new h.answer
    h.stays (λ late. late_learned old (texts_in row) new r late.1))
    (refused_said (add_refusal old name row) r (AddsAs old name row new)
    (λ t. (has_row (rows_of old.relations name) row ≡ false) × RefusedByTexts old (texts_in row) new t) old new h.answer
    h.stays (λ late. late_said old (texts_in row) new r late.1 (row_texts row said) s.texts) s.texts) s

pub del_sayable : (old : Store) (name : Bytes) (row : Tuple) (r : Result DeleteOutcome Refusal) (new : Store)
    → DeletesRow old name row r new → IsSayableStore old → IsSayableStore new
del_sayable old name row (Ok Last) new h s =
    let d = done_of (delete_refusal old name row) Last (DeletesAs old name row new) (OutOfMemoryWhere ⊥) h.answer in
    let none = none_holds (delete_refusal old name row) Last (DeletesAs old name row new) (OutOfMemoryWhere ⊥) h.answer
    in
    let fails = all_fail (delete_conditions old name row) none in
    let below = leb-false LAST_SEQ old.seq
    (second_fails (copies_of old name row == 1) (nat_le LAST_SEQ old.seq) (eq-eqb (copies_of old name row) 1 d.1)
    fails.1.1.1.0) in
    let before = counted_of old.relations name in
    let is : plain_of (without_copies before row) ≡ drop_first (λ t. tuple_eq t row) (plain_of before) =
    tuples_without before row ∙ without_dropped (plain_of before) row in
    subst IsSayableStore (sym d.2) (record {
      relations = other_rows old.relations name (without_copies before row) s.relations
          (subst (λ (ts : List Tuple). All IsSayableRow ts) (sym is)
          (all_dropped IsSayableRow (λ t. tuple_eq t row) (plain_of before)
          (rows_sayable old.relations name s.relations)));
      texts = s.texts;
      queries = s.queries;
      seq = omega (arith, below);
    })
del_sayable old name row (Ok (Left copies)) new h s =
    let d = done_of (delete_refusal old name row) (Left copies) (DeletesAs old name row new) (OutOfMemoryWhere ⊥)
    h.answer in
    subst IsSayableStore (sym d.3) (record {
      relations = other_copies old.relations name row copies s.relations;
      texts = s.texts;
      queries = s.queries;
      seq = s.seq;
    })
del_sayable old name row (Ok Absent) new h s =
    let d = done_of (delete_refusal old name row) Absent (DeletesAs old name row new) (OutOfMemoryWhere ⊥) h.answer in
    subst IsSayableStore (sym d.1) s
del_sayable old name row (Err r) new h s = subst IsSayableStore (sym h.stays) s

-- ---- lines that a batch holds

-- what the first lines of rows are, all lines are
first_lines_said : (firsts lines : List HeldLine) → All IsSayableHeld firsts → All IsSayableHeld lines
    → All IsSayableHeld (fold with_naming firsts lines)
first_lines_said firsts [] before said = before
first_lines_said firsts (h ∷ hs) before said =
    first_lines_said (with_naming firsts h) hs (by (list_any (λ g. same_row g h) firsts))
    (All-tail IsSayableHeld h hs said)
  where
    by : (b : Bool) → All IsSayableHeld (cond b firsts (firsts ++ h ∷ []))
    by true = before
    by false = All-push IsSayableHeld firsts h before (All-head IsSayableHeld h hs said)

-- a row with so many copies among rows
pushed_plain : (rows : List CountedRow) (c : CountedRow) → plain_of (rows ++ c ∷ []) ≡ plain_of rows ++ c.row ∷ []
pushed_plain [] c = refl
pushed_plain (r ∷ rows) c = ap (λ (ts : List Tuple). r.row ∷ ts) (pushed_plain rows c)

without_sayable : (rows : List CountedRow) (row : Tuple) → All IsSayableRow (plain_of rows)
    → All IsSayableRow (plain_of (without_copies rows row))
without_sayable rows row all =
    subst (λ (ts : List Tuple). All IsSayableRow ts)
    (sym (tuples_without rows row ∙ without_dropped (plain_of rows) row))
    (all_dropped IsSayableRow (λ t. tuple_eq t row) (plain_of rows) all)

so_many_sayable : (rows : List CountedRow) (row : Tuple) (n : ℕ) → All IsSayableRow (plain_of rows)
    → IsSayableRow row
    → All IsSayableRow (plain_of (with_so_many rows row n))
so_many_sayable rows row zero all said = without_sayable rows row all
so_many_sayable rows row (suc n) all said = by (has_row (plain_of rows) row)
  where
    more : CountedRow
    more = record { row = row; copies = suc n }

    by : (b : Bool) → All IsSayableRow (plain_of (cond b (with_copies rows row (suc n)) (rows ++ more ∷ [])))
    by true = subst (λ (ts : List Tuple). All IsSayableRow ts) (sym (tuples_with_copies rows row (suc n))) all
    by false =
        subst (λ (ts : List Tuple). All IsSayableRow ts) (sym (pushed_plain rows more))
        (All-push IsSayableRow (plain_of rows) row all said)

left_sayable : (relations : List Relation) (lines : List HeldLine) (now : List Relation) (firsts : List HeldLine)
    → All IsSayableHeld firsts → All IsSayableRelation now
    → All IsSayableRelation (fold (with_copies_left relations lines) now firsts)
left_sayable relations lines now [] said all = all
left_sayable relations lines now (h ∷ hs) said all =
    let n = copies_after relations lines h in
    left_sayable relations lines (with_copies_left relations lines now h) hs (All-tail IsSayableHeld h hs said)
    (other_rows now h.relation (with_so_many (counted_of now h.relation) h.row n) all
    (so_many_sayable (counted_of now h.relation) h.row n (rows_sayable now h.relation all)
    (All-head IsSayableHeld h hs said).row))

after_sayable : (relations : List Relation) (lines : List HeldLine) → All IsSayableHeld lines
    → All IsSayableRelation relations
    → All IsSayableRelation (relations_after relations lines)
after_sayable relations lines said all =
    left_sayable relations lines relations (first_lines lines)
    (first_lines_said [] lines (All-nil IsSayableHeld) said) all

-- a further change may be counted, if rows come or go
none_after : {A : Type 0} (o p : Option A) → option_or o p ≡ None → p ≡ None
none_after None p e = e
none_after (Some a) p e = absurd cc

refused_if_none : (b : Bool) (r : DoneRefusal) → refused_if b r ≡ None → b ≡ false
refused_if_none true r e = absurd cc
refused_if_none false r e = refl

below_last_seq : (relations : List Relation) (texts : List Bytes) (seq : ℕ) (lines : List HeldLine) (given : Option ℕ)
    → done_refusal relations texts seq lines given ≡ None → nat_lt 0 (rows_changed relations lines) ≡ true
    → seq < LAST_SEQ
below_last_seq relations texts seq lines given none some =
    let change = nat_lt 0 (rows_changed relations lines) in
    let line = option_map (λ r. Line r) (lines_refusal relations texts lines) in
    let behind = none_after (refused_if (is_other given (length lines)) OtherNumber)
    (option_or line (seq_refusal relations seq lines)) none in
    let last = none_after line (seq_refusal relations seq lines) behind in
    leb-false LAST_SEQ seq
    (second_fails change (nat_le LAST_SEQ seq) some (refused_if_none (change && nat_le LAST_SEQ seq) LastChange last))

pub done_sayable : (old : Store) (lines : List HeldLine) (given : Option ℕ) (r : Result ℕ DoneRefusal) (new : Store)
    → DoesAll old lines given r new → All IsSayableHeld lines → IsSayableStore old → IsSayableStore new
done_sayable old lines given (Ok n) new h said s =
    subst IsSayableStore (sym h.does.1) (record {
      relations = after_sayable old.relations lines said s.relations;
      texts = texts_after_said old.texts lines said s.texts;
      queries = s.queries;
      seq = by (nat_lt 0 (rows_changed old.relations lines)) refl;
    })
  where
    by : (b : Bool) → nat_lt 0 (rows_changed old.relations lines) ≡ b → cond b (old.seq + 1) old.seq ≤ LAST_SEQ
    by true e =
        let below = below_last_seq old.relations old.texts old.seq lines given h.answer e in omega (arith, below)
    by false e = s.seq
done_sayable old lines given (Err r) new h said s =
    subst IsSayableStore (sym h.does.1) (record {
      relations = s.relations;
      texts = refused_texts old.relations old.texts lines new.texts r h.does.0 said s.texts;
      queries = s.queries;
      seq = s.seq;
    })

-- no more rows come, and no more go, than lines are held
filtered_few : {A : Type 0} (p : A → Bool) (xs : List A) → length (filter p xs) ≤ length xs
filtered_few p [] = omega arith
filtered_few p (x ∷ xs) = by (p x) (filtered_few p xs)
  where
    by : (b : Bool) → length (filter p xs) ≤ length xs
        → length (cond b (x ∷ filter p xs) (filter p xs)) ≤ suc (length xs)
    by true k = omega (arith, k)
    by false k = omega (arith, k)

named_few : (firsts lines : List HeldLine) → length (fold with_naming firsts lines) ≤ length firsts + length lines
named_few firsts [] = omega arith
named_few firsts (h ∷ hs) =
    let more = by (list_any (λ g. same_row g h) firsts) in
    let rest = named_few (with_naming firsts h) hs in
    omega (arith, more, rest)
  where
    by : (b : Bool) → length (cond b firsts (firsts ++ h ∷ [])) ≤ length firsts + 1
    by true = omega arith
    by false = omega (arith, length-append firsts (h ∷ []))

pub changed_few : (relations : List Relation) (lines : List HeldLine)
    → rows_changed relations lines ≤ length lines + length lines
changed_few relations lines =
    let came = filtered_few (line_comes relations lines) (first_lines lines) in
    let went = filtered_few (line_goes relations lines) (first_lines lines) in
    let first = named_few [] lines in
    omega (arith, came, went, first)

-- ---- unions

-- registered queries are such, whatever their names
members_sayable : (old : Store) (members : List Bytes) (qs : List Query) → IsSayableStore old
    → AreUnder old.queries members qs → All (λ (q : Query). IsSayableListed (a_query q)) qs
members_sayable old members qs s under =
    All-weaker (λ (q : Query). listed_of old.queries q.name ≡ Some (a_query q))
    (λ (q : Query). IsSayableListed (a_query q))
    (λ q is. all_found IsSayableListed (λ (l : Listed). bytes_eq (listed_name l) q.name) old.queries (a_query q)
    s.queries is)
    qs (under_registered old.queries members qs under)

width_small : (qs : List Query) → All (λ (q : Query). IsSayableListed (a_query q)) qs → width_of qs ≤ HEAD_VARIABLES
width_small [] all = omega arith
width_small (q ∷ qs) all = (All-head (λ (p : Query). IsSayableListed (a_query p)) q qs all).1.limits.head

atoms_small : (qs : List Query) → All (λ (q : Query). IsSayableListed (a_query q)) qs → atoms_of qs ≤ 32 * length qs
atoms_small [] all = omega arith
atoms_small (q ∷ qs) all =
    let first = (All-head (λ (p : Query). IsSayableListed (a_query p)) q qs all).1.limits.atoms in
    let rest = atoms_small qs (All-tail (λ (p : Query). IsSayableListed (a_query p)) q qs all) in
    omega (arith, first, rest)

-- each variable of the head of a query that isn't refused stands in its body
some_pass : {A : Type 0} (p : A → Bool) (xs : List A) → list_any p xs ≡ true → (x : A) × Contains xs x × (p x ≡ true)
some_pass p [] e = absurd cc
some_pass {A = A} p (x ∷ xs) e = by (p x) refl e (λ f. some_pass p xs f)
  where
    by : (b : Bool) → p x ≡ b → (b || list_any p xs) ≡ true
        → (list_any p xs ≡ true → (y : A) × Contains xs y × (p y ≡ true)) → (y : A) × Contains (x ∷ xs) y × (p y ≡ true)
    by true k f more = (x, first_there x xs x refl, k)
    by false k f more = let r = more f in (r.0, later_there x xs r.0 r.1, r.2)

variable_is : (x : Bytes) (t : Term) → is_variable x t ≡ true → t ≡ Variable x
variable_is x (Variable y) e = ap (λ z. Variable z) ((bytes_eq-decides y x).0 e)
variable_is x Hole e = absurd cc
variable_is x (Constant v) e = absurd cc

bound_where : (q : Query) → list_any (λ x. not (stands_in q.atoms x)) q.head ≡ false → IsBound q
bound_where q e x c =
    let stands = not-false (stands_in q.atoms x)
    (All-contains (λ (y : Bytes). not (stands_in q.atoms y) ≡ false) q.head x
    (none_any (λ y. not (stands_in q.atoms y)) q.head e) c) in
    let a = some_pass (λ (m : Atom). list_any (is_variable x) m.terms) q.atoms stands in
    let t = some_pass (is_variable x) (a.0).terms a.2 in
    (a.0, a.1, subst (λ (u : Term). Contains (a.0).terms u) (variable_is x t.0 t.2) t.1)

askable_where : (q : Query) → list_any (λ x. not (stands_in q.atoms x)) q.head ≡ false → is_too_large q ≡ false
    → IsAskable q
askable_where q unbound large = record { bound = bound_where q unbound; limits = within_limits q large }

-- a head has few variables, where its query is registered
pub query_few : (old : Store) (q : Query) (most : ℕ) (new : Store) → RegistersQuery old q (Ok (Registered most)) new
    → length q.head ≤ HEAD_VARIABLES
query_few old q most new h =
    let none = none_holds (query_refusal old q) (Registered most) (RegistersAs old q new) (RefusedLate old q new)
    h.answer in
    let fails = all_fail (query_conditions old q) none in
    (within_limits q fails.1.1.1.1.1.1.1.1.1.0).head

pub query_sayable : (old : Store) (q : Query) (r : Result QueryOutcome Refusal) (new : Store)
    → RegistersQuery old q r new → IsSayableQuery q → IsSayableStore old → IsSayableStore new
query_sayable old q (Ok (Cyclic rest)) new h said s =
    let d = done_of (query_refusal old q) (Cyclic rest) (RegistersAs old q new) (RefusedLate old q new) h.answer in
    subst IsSayableStore (sym d.1) s
query_sayable old q (Ok (NotConnex rest)) new h said s =
    let d = done_of (query_refusal old q) (NotConnex rest) (RegistersAs old q new) (RefusedLate old q new) h.answer in
    subst IsSayableStore (sym d.1) s
query_sayable old q (Ok (Registered most)) new h said s =
    let none = none_holds (query_refusal old q) (Registered most) (RegistersAs old q new) (RefusedLate old q new)
    h.answer in
    let d = done_of (query_refusal old q) (Registered most) (RegistersAs old q new) (RefusedLate old q new) h.answer in
    let fails = all_fail (query_conditions old q) none in
    subst IsSayableStore (sym d.3) (record {
      relations = s.relations;
      texts = all_learned_said old.texts (texts_in (constants_of q)) (constants_said q said) s.texts;
      queries = All-push IsSayableListed old.queries (a_query q) s.queries
          (said, askable_where q fails.1.1.1.1.1.1.1.1.0 fails.1.1.1.1.1.1.1.1.1.0);
      seq = s.seq;
    })
query_sayable old q (Err r) new h said s =
    learned_sayable old new
    (refused_learned (query_refusal old q) r (RegistersAs old q new) (RefusedLate old q new) old new h.answer
    h.stays (λ late. by late))
    (refused_said (query_refusal old q) r (RegistersAs old q new) (RefusedLate old q new) old new h.answer h.stays
    (λ late. known late) s.texts) s
  where
    by : RefusedLate old q new r → LearnsTexts old new
    by (inl k) = late_learned old (texts_in (constants_of q)) new r k.1
    by (inr k) = stays_learned old new k.1

    known : RefusedLate old q new r → All IsSayableText new.texts
    known (inl k) = late_said old (texts_in (constants_of q)) new r k.1 (constants_said q said) s.texts
    known (inr k) = subst (λ (st : Store). All IsSayableText st.texts) (sym k.1) s.texts

-- a union of registered queries
pub union_sayable : (old : Store) (name : Bytes) (members : List Bytes) (r : Result ℕ Refusal) (new : Store)
    → RegistersUnion old name members r new → IsName name → IsSayableStore old → IsSayableStore new
union_sayable old name members (Err r) new h named s = subst IsSayableStore (sym h.stays) s
union_sayable old name members (Ok most) new h named s =
    let D = λ (most : ℕ). (qs : List Query) × AreUnder old.queries members qs × (most ≡ answer_steps (a_union name qs))
    × (new ≡ record old { queries = old.queries ++ a_union name qs ∷ [] }) in
    let d = done_of (union_refusal old name members) most D (OutOfMemoryWhere ⊤) h.answer in
    subst IsSayableStore (sym d.3) (record {
      relations = s.relations;
      texts = s.texts;
      queries = All-push IsSayableListed old.queries (a_union name d.0) s.queries
          (named, members_sayable old members d.0 s d.1);
      seq = s.seq;
    })

-- D of it is a number
pub union_small : (old : Store) (name : Bytes) (members : List Bytes) (r : Result ℕ Refusal) (new : Store)
    → RegistersUnion old name members r new → IsSayableStore old → (most : ℕ) → r ≡ Ok most → most < 2 ^ 64
union_small old name members r new h s most e =
    let k = subst (λ (z : Result ℕ Refusal). RegistersUnion old name members z new) e h in
    let D = λ (most : ℕ). (qs : List Query) × AreUnder old.queries members qs × (most ≡ answer_steps (a_union name qs))
    × (new ≡ record old { queries = old.queries ++ a_union name qs ∷ [] }) in
    let d = done_of (union_refusal old name members) most D (OutOfMemoryWhere ⊤) k.answer in
    let none = none_holds (union_refusal old name members) most D (OutOfMemoryWhere ⊤) k.answer in
    let fails = all_fail (union_conditions old name members) none in
    let few = ltb-false MEMBERS (length members) fails.1.1.1.0 in
    let names = under_names old.queries members d.0 d.1 in
    let long : length d.0 ≡ length members = sym (length-map d.0 (λ (q : Query). q.name)) ∙ ap length names in
    let all = members_sayable old members d.0 s d.1 in
    let wide = width_small d.0 all in
    let atoms = atoms_small d.0 all in
    let first : length d.0 * most_steps (width_of d.0) ≤ 8 * 33 =
    mul-le (length d.0) (most_steps (width_of d.0)) 8 33 (omega (arith, few, long)) (omega (arith, wide)) in
    let second : (length d.0 - 1) * atoms_of d.0 ≤ 8 * 256 =
    mul-le (length d.0 - 1) (atoms_of d.0) 8 256 (omega (arith, few, long)) (omega (arith, atoms, few, long)) in
    let is = d.2 in
    omega (arith, is, first, second)

pub drop_sayable : (old : Store) (used : Bool) (name : Bytes) (r : Result ⊤ Refusal) (new : Store)
    → DropsQuery old used name r new → IsSayableStore old → IsSayableStore new
drop_sayable old used name (Err r) new h s = subst IsSayableStore (sym h.stays) s
drop_sayable old used name (Ok u) new h s =
    let less = drop_first (λ (q : Listed). bytes_eq (listed_name q) name) old.queries in
    subst IsSayableStore
    (sym (done_of (drop_refusal old used name) u (λ _. new ≡ record old { queries = less }) (OutOfMemoryWhere ⊥)
    h.answer))
    (record {
      relations = s.relations;
      texts = s.texts;
      queries = all_dropped IsSayableListed (λ (q : Listed). bytes_eq (listed_name q) name) old.queries s.queries;
      seq = s.seq;
    })

-- rows in another order
moved_sayable : (rs moved : List Relation) → SameRelations rs moved → All IsSayableRelation rs
    → All IsSayableRelation moved
moved_sayable [] [] h s = s
moved_sayable (r ∷ rs) (m ∷ ms) h s =
    let k = All-head IsSayableRelation r rs s in
    All-cons IsSayableRelation m ms (record {
      name = subst IsName (sym h.0) k.name;
      rows = All-permutation IsSayableRow (tuples_in r) (tuples_in m) (tuples_moved r.rows m.rows h.2) k.rows;
    }) (moved_sayable rs ms h.3 (All-tail IsSayableRelation r rs s))
moved_sayable [] (m ∷ ms) h s = absurd h
moved_sayable (r ∷ rs) [] h s = absurd h

pub moved_store_sayable : (old : Store) (relations : List Relation) → SameRelations old.relations relations
    → IsSayableStore old → IsSayableStore (record old { relations = relations })
moved_store_sayable old relations h s = record {
  relations = moved_sayable old.relations relations h s.relations;
  texts = s.texts;
  queries = s.queries;
  seq = s.seq;
}

-- ---- What is printed of a state whose names and values lines can say is so as the forms of replies say.

-- A reply is printed, and short.
abbrev pub IsFine : Reply → Type 0
IsFine r = IsPrinted r × IsShort r

pub number_small : (n : ℕ) → n ≤ LAST_SEQ → IsNumber n
number_small n h = omega (arith, h)

pub one_fine : (r : Reply) → IsFine r → All IsFine (r ∷ [])
one_fine r h = All-cons IsFine r [] h (All-nil IsFine)

-- ---- answers

cell_fine : (v : Value) → IsSayableValue v → is_cell v ≡ true
cell_fine (Int i) h = rw h.0 refl
cell_fine (Text t) h = rw h.0 h.1

pub cells_fine : (t : Tuple) → IsSayableRow t → are_cells t ≡ true
cells_fine [] h = refl
cells_fine (v ∷ t) h =
    let first = cell_fine v (All-head IsSayableValue v t h) in
    let rest = cells_fine t (All-tail IsSayableValue v t h) in
    rw first rest

-- an answer of what is registered is printed, and has few cells
query_answer_fine : (rs : List Relation) → All IsSayableRelation rs → (q : Query) → IsSayableListed (a_query q)
    → (t : Tuple) → IsAnswer rs q t → IsFine (answer t)
query_answer_fine rs h q k t a =
    let few = k.1.limits.head in
    let same = ap length a.on_head ∙ length-map q.head a.assignment in
    (cells_fine t (answer_sayable rs h (a_query q) k t a), omega (arith, few, same))

pub answer_fine : (rs : List Relation) → All IsSayableRelation rs → (q : Listed) → IsSayableListed q → (t : Tuple)
    → AnswersOf rs q t → IsFine (answer t)
answer_fine rs h (a_query q) k t a = query_answer_fine rs h q k t a
answer_fine rs h (a_union name qs) k t a =
    let o = some_one (λ (q : Query). IsAnswer rs q t) qs a in
    query_answer_fine rs h o.0 (All-contains (λ (q : Query). IsSayableListed (a_query q)) qs o.0 k.1 o.1) t o.2

pub answers_fine : (rs : List Relation) → All IsSayableRelation rs → (q : Listed) → IsSayableListed q
    → (ts : List Tuple)
    → All (AnswersOf rs q) ts → All IsFine (map (λ t. answer t) ts)
answers_fine rs h q k [] a = All-nil IsFine
answers_fine rs h q k (t ∷ ts) a =
    All-cons IsFine (answer t) (map (λ u. answer u) ts) (answer_fine rs h q k t (All-head (AnswersOf rs q) t ts a))
    (answers_fine rs h q k ts (All-tail (AnswersOf rs q) t ts a))

-- ---- deltas

name_fine : (q : Listed) → IsSayableListed q → IsPrinted (counted (listed_name q) 0)
name_fine (a_query q) k = (k.0.name, omega arith)
name_fine (a_union name qs) k = (k.0, omega arith)

pub delta_fine : (before after : List Relation) → All IsSayableRelation before → All IsSayableRelation after
    → (q : Listed)
    → IsSayableListed q → (n : ℕ) → IsNumber n → (changes : List Change)
    → All (λ c. HasChanged (AnswersOf before q) (AnswersOf after q) c.sign c.answer) changes
    → All IsFine (delta_replies (listed_name q) (record { number = n; changes = changes }))
delta_fine before after b a q k n small [] h =
    All-cons IsFine (counted (listed_name q) n) [] (((name_fine q k).0, small), tt) (All-nil IsFine)
delta_fine before after b a q k n small (c ∷ changes) h =
    let Has = λ (d : Change). HasChanged (AnswersOf before q) (AnswersOf after q) d.sign d.answer in
    let one = by c.sign (All-head Has c changes h) in
    All-cons IsFine (changed c.sign (listed_name q) c.answer)
    (delta_replies (listed_name q) (record { number = n; changes = changes }))
    (((name_fine q k).0, one.0), one.1)
    (delta_fine before after b a q k n small changes (All-tail Has c changes h))
  where
    by : (s : Sign) → HasChanged (AnswersOf before q) (AnswersOf after q) s c.answer → IsFine (answer c.answer)
    by Came l = answer_fine after a q k c.answer l.0
    by Went l = answer_fine before b q k c.answer l.0

-- ---- copies

pub added_copies : (old : Store) (name : Bytes) (row : Tuple) (copies : ℕ) (new : Store)
    → AddsRow old name row (Ok (More copies)) new → IsNumber copies
added_copies old name row copies new h =
    let d = done_of (add_refusal old name row) (More copies) (AddsAs old name row new) _ h.answer in
    let none = none_holds (add_refusal old name row) (More copies) (AddsAs old name row new) _ h.answer in
    let fails = all_fail (add_conditions old name row) none in
    let below = leb-false COPIES (copies_of old name row) fails.1.1.1.0 in
    let is = d.1 in
    omega (arith, below, is)

pub left_copies : (old : Store) → IsSoundStore old → (name : Bytes) (row : Tuple) (copies : ℕ) (new : Store)
    → DeletesRow old name row (Ok (Left copies)) new → IsNumber copies
left_copies old sound name row copies new h =
    let d = done_of (delete_refusal old name row) (Left copies) (DeletesAs old name row new) (OutOfMemoryWhere ⊥)
    h.answer in
    let k = copies_hold IsCopyCount (counted_of old.relations name) row
    (counted_sound old.relations name (relation_of old.relations name) refl sound.rows) d.0 in
    let most = k.1 in
    let is = d.1 in
    omega (arith, most, is)
