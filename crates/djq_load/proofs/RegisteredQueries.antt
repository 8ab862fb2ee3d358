-- What a step leaves of it that no query but the load's is registered.
use Rattle.std.specs.Prelude.{ℕ, suc, List, [], ◌∷◌, ◌++◌, ◌≡◌, ◌==◌, ◌≤◌, ◌<◌, ◌⊎◌, ◌&&◌, Bool, true, false, cond, not}
use Rattle.std.specs.Prelude.{nat_le, Option, None, Some, is_none, MatchOption, Result, Ok, Err, All, length, ⊤}
use Rattle.std.proofs.Common.{refl, sym, ap, ◌∙◌, subst, inl, inr, length-append, arith}
use Rattle.std.proofs.lemmas.Bool.{leb-false}
use Rattle.std.proofs.lemmas.List.{length-map}
use Rattle.std.proofs.lemmas.List.Elements.{All-cons, All-head, All-tail, All-push}
use Rattle.std.proofs.lemmas.List.Sorted.{length_permutation}
use Rattle.djq_model.specs.declared.relation.ColumnType.{ColumnType}
use Rattle.djq_model.specs.declared.relation.Relation.{Relation}
use Rattle.djq_model.specs.declared.relation.CountedRow.{CountedRow}
use Rattle.djq_model.specs.declared.query.Query.{Query}
use Rattle.djq_model.specs.Data.{Bytes, Tuple, bytes_eq, tuple_eq, relation_of, rows_of, counted_in, counted_of}
use Rattle.djq_model.specs.Data.{has_row, change_first, drop_first, with_row, with_copies, without_copies}
use Rattle.djq_model.specs.Listed.{Listed, a_query, listed_name}
use Rattle.djq_model.specs.Typed.{fits}
use Rattle.djq_model.specs.Known.{texts_in}
use Rattle.djq_protocol.specs.declared.answer.EndCause.{EndCause}
use Rattle.djq_protocol.specs.declared.answer.Refusal.{Refusal}
use Rattle.djq_protocol.specs.declared.answer.Refusal.TheVariants.{NoRelation, Arity, WrongType, Limit}
use Rattle.djq_protocol.specs.declared.answer.AddOutcome.{AddOutcome}
use Rattle.djq_protocol.specs.declared.answer.AddOutcome.TheVariants.{First, More}
use Rattle.djq_protocol.specs.declared.answer.DeleteOutcome.{DeleteOutcome}
use Rattle.djq_protocol.specs.declared.answer.DeleteOutcome.TheVariants.{Last, Left, Absent}
use Rattle.djq_protocol.specs.declared.rest.QueryOutcome.{QueryOutcome}
use Rattle.djq_protocol.specs.declared.rest.QueryOutcome.TheVariants.{Registered, Cyclic, NotConnex}
use Rattle.djq_protocol.specs.declared.limits.TheConstants.{ROWS, COPIES, LAST_SEQ}
use Rattle.djq_protocol.specs.declared.command.Command.{Command}
use Rattle.djq_protocol.specs.declared.held.Verb.{Verb}
use Rattle.djq_protocol.specs.declared.held.Verb.TheVariants.{Add as Adds, Delete as Deletes}
use Rattle.djq_protocol.specs.declared.command.Command.TheVariants.{Rel, Add, Del, Query as Register, Union, Drop, Open}
use Rattle.djq_protocol.specs.declared.command.Command.TheVariants.{Next, Close, Has, Watch, Unwatch, Explain, Shape}
use Rattle.djq_protocol.specs.declared.command.Command.TheVariants.{Batch, Done, Abandon, Quit, Stop}
use Rattle.djq_protocol.specs.Columns.{types_of}
use Rattle.djq_protocol.specs.Conditions.{first_refusal, OutOfMemoryWhere}
use Rattle.djq_protocol.specs.Grammar.{says_command, reading_of}
use Rattle.djq_protocol.specs.Variables.{constants_of}
use Rattle.djq_store_spec.specs.Store.{Store}
use Rattle.djq_store_spec.specs.Relations.{with_rows, MakesRelation, RefusedByTexts, rel_refusal}
use Rattle.djq_store_spec.specs.Rows.{copies_of, with_copies_of, AddsRow, AddsAs, DeletesRow, DeletesAs, add_refusal}
use Rattle.djq_store_spec.specs.Rows.{delete_refusal}
use Rattle.djq_store_spec.specs.Registering.{RegistersQuery, DropsQuery, RefusedLate, RegistersAs, query_refusal}
use Rattle.djq_store_spec.specs.Registering.{drop_refusal}
use Rattle.djq_answer_laws.proofs.Lists.{some_there}
use Rattle.djq_machine.specs.State.{State, Session, session_of, with_session}
use Rattle.djq_machine.specs.Effect.{Effect}
use Rattle.djq_store_spec.specs.Held.{HeldTransaction, holding}
use Rattle.djq_machine.specs.Command.{AddStep, DeleteStep, BecomesWhere, CommandStep, HoldStep, QueryStep}
use Rattle.djq_machine.specs.Command.{QueryCutStep, with_batch}
use Rattle.djq_machine.specs.LineStep.{LineOutcome, long, blank, slow, no_room, run, FrontStep, behind_line}
use Rattle.djq_machine.specs.Step.{Event, opened, fed, stepped, took, ended, closed, FedStep, TookStep, EndedStep, Acts}
use Rattle.djq_machine.specs.Step.{SameRelations, with_relations, Step}
use Rattle.djq_run_laws.specs.Form.{Form, asking, storing, turning, changing, ending, form_of, LearnsTexts, DoesTurn}
use Rattle.djq_run_laws.specs.Form.{is_turned, is_refused, FormDoes, Turn}
use Rattle.djq_run_laws.proofs.Lists.{all_changed, all_dropped, less_dropped}
use Rattle.djq_run_laws.proofs.Forms.{done_of, none_holds, refused_learned, late_learned, stays_learned, turned_one}
use Rattle.djq_run_laws.proofs.Forms.{command_does, Reads, turned_down, carried_out, line_reads}
use Rattle.djq_run_laws.proofs.Deltas.{change_store, queued_store, replied_store}
use Rattle.djq_run_laws.proofs.Events.{fed_store}
use Rattle.djq_load.specs.Joins.{join, RelationIsSmall, IsJoin, Joins}

-- Another store.
same_joins : (old new : Store) → new ≡ old → Joins old → Joins new
same_joins old new e j = subst Joins (sym e) j

learned_joins : (old new : Store) → LearnsTexts old new → Joins old → Joins new
learned_joins old new h j = subst Joins (sym h.store) (record { rows = j.rows; queries = j.queries })

-- `add` and `del`
fifth_fails : (a b c d e : Bool) (r t u v w : Refusal) (o : Option Refusal)
    → cond a (Some r) (cond b (Some t) (cond c (Some u) (cond d (Some v) (cond e (Some w) o)))) ≡ None → e ≡ false
fifth_fails false false false false false r t u v w o h = refl
fifth_fails true b c d e r t u v w o h = absurd cc
fifth_fails false true c d e r t u v w o h = absurd cc
fifth_fails false false true d e r t u v w o h = absurd cc
fifth_fails false false false true e r t u v w o h = absurd cc
fifth_fails false false false false true r t u v w o h = absurd cc

-- a row that isn't refused has its place
has_place : (old : Store) (name : Bytes) (row : Tuple) → add_refusal old name row ≡ None
    → has_row (rows_of old.relations name) row ≡ false → length (counted_of old.relations name) < ROWS
has_place old name row none absent =
    let types = types_of (relation_of old.relations name) in
    let rows = rows_of old.relations name in
    let fails : (not (has_row rows row) && nat_le ROWS (length rows)) ≡ false =
    fifth_fails (is_none (relation_of old.relations name)) (not (length row == length types)) (not (fits types row))
    (nat_le COPIES (copies_of old name row)) (not (has_row rows row) && nat_le ROWS (length rows))
    NoRelation Arity WrongType Limit Limit (first_refusal ((not (has_row rows row) && nat_le LAST_SEQ old.seq, Limit)
    ∷ []))
    none in
    let below : length rows < ROWS =
    leb-false ROWS (length rows) (ap (λ (b : Bool). not b && nat_le ROWS (length rows)) (sym absent) ∙ fails) in
    omega (arith, below, length-map (counted_of old.relations name) (λ (c : CountedRow). c.row))

-- other rows of one relation
rows_joins : (old : Store) (name : Bytes) (rows : List CountedRow)
    → (length (counted_of old.relations name) ≤ ROWS → length rows ≤ ROWS) → All RelationIsSmall old.relations
    → All RelationIsSmall (with_rows old.relations name rows)
rows_joins old name rows within all =
    all_changed RelationIsSmall (λ (x : Relation). bytes_eq x.name name) (λ (x : Relation). record x { rows = rows })
    old.relations all
    (λ x found k. within (subst (λ (o : Option Relation). length (counted_in o) ≤ ROWS) (sym found) k))

-- another number of copies of a row
as_many : (p : CountedRow → Bool) (f : CountedRow → CountedRow) (rows : List CountedRow)
    → length (change_first p f rows) ≡ length rows
as_many p f [] = refl
as_many p f (c ∷ rows) = by (p c) (as_many p f rows)
  where
    by : (b : Bool) → length (change_first p f rows) ≡ length rows
        → length (cond b (f c ∷ rows) (c ∷ change_first p f rows)) ≡ length (c ∷ rows)
    by true h = refl
    by false h = ap suc h

copies_join : (old new : Store) (name : Bytes) (row : Tuple) (n : ℕ)
    → new ≡ record old { relations = with_copies_of old.relations name row n } → Joins old → Joins new
copies_join old new name row n e j =
    let rows = counted_of old.relations name in
    let same = as_many (λ (c : CountedRow). tuple_eq c.row row) (λ (c : CountedRow). record c { copies = n }) rows in
    subst Joins (sym e) (record {
      rows = rows_joins old name (with_copies rows row n) (λ k. omega (arith, k, same)) j.rows;
      queries = j.queries;
    })

add_joins : (old : Store) (name : Bytes) (row : Tuple) (r : Result AddOutcome Refusal) (new : Store)
    → AddsRow old name row r new → Joins old → Joins new
add_joins old name row (Ok First) new h j =
    let d = done_of (add_refusal old name row) First (AddsAs old name row new) _ h.answer in
    let none = none_holds (add_refusal old name row) First (AddsAs old name row new) _ h.answer in
    let rows = counted_of old.relations name in
    let more = length-append rows (record { row = row; copies = 1 } ∷ []) in
    subst Joins (sym d.2) (record {
      rows = rows_joins old name (with_row rows row) (λ k. omega (arith, has_place old name row none d.0, more)) j.rows;
      queries = j.queries;
    })
add_joins old name row (Ok (More copies)) new h j =
    copies_join old new name row copies
    (done_of (add_refusal old name row) (More copies) (AddsAs old name row new) _ h.answer).2 j
add_joins old name row (Err r) new h j =
    learned_joins old new
    (refused_learned (add_refusal old name row) r (AddsAs old name row new)
    (λ t. (has_row (rows_of old.relations name) row ≡ false) × RefusedByTexts old (texts_in row) new t)
    old new h.answer h.stays (λ late. late_learned old (texts_in row) new r late.1)) j

delete_joins : (old : Store) (name : Bytes) (row : Tuple) (r : Result DeleteOutcome Refusal) (new : Store)
    → DeletesRow old name row r new → Joins old → Joins new
delete_joins old name row (Ok Last) new h j =
    let d = done_of (delete_refusal old name row) Last (DeletesAs old name row new) (OutOfMemoryWhere ⊥) h.answer in
    let rows = counted_of old.relations name in
    let less = less_dropped (λ (c : CountedRow). tuple_eq c.row row) rows in
    subst Joins (sym d.2) (record {
      rows = rows_joins old name (without_copies rows row) (λ k. omega (arith, k, less)) j.rows;
      queries = j.queries;
    })
delete_joins old name row (Ok (Left copies)) new h j =
    copies_join old new name row copies
    (done_of (delete_refusal old name row) (Left copies) (DeletesAs old name row new) (OutOfMemoryWhere ⊥) h.answer).3 j
delete_joins old name row (Ok Absent) new h j =
    same_joins old new
    (done_of (delete_refusal old name row) Absent (DeletesAs old name row new) (OutOfMemoryWhere ⊥) h.answer).1 j
delete_joins old name row (Err r) new h j = same_joins old new h.stays j

-- `rel`, `query` and `drop`
rel_joins : (old : Store) (name : Bytes) (types : List ColumnType) (r : Result ⊤ Refusal) (new : Store)
    → MakesRelation old name types r new → Joins old → Joins new
rel_joins old name types (Ok u) new h j =
    let made : Relation = record { name = name; types = types; rows = [] } in
    subst Joins (sym (done_of (rel_refusal old name types) u
    (λ _. new ≡ record old { relations = old.relations ++ made ∷ [] }) (OutOfMemoryWhere ⊤) h.answer))
    (record { rows = All-push RelationIsSmall old.relations made j.rows (omega arith); queries = j.queries })
rel_joins old name types (Err r) new h j = same_joins old new h.stays j

query_joins : (old : Store) (q : Query) (r : Result QueryOutcome Refusal) (new : Store) → q ≡ join
    → RegistersQuery old q r new → Joins old → Joins new
query_joins old q (Ok (Registered most)) new is h j =
    let d = done_of (query_refusal old q) (Registered most) (RegistersAs old q new) (RefusedLate old q new) h.answer in
    subst Joins (sym d.3)
    (record {
      rows = j.rows;
      queries = All-push IsJoin old.queries (a_query q) j.queries
          (ap (λ (p : Query). a_query p) is);
    })
query_joins old q (Ok (Cyclic rest)) new is h j =
    same_joins old new (done_of (query_refusal old q) (Cyclic rest) (RegistersAs old q new) (RefusedLate old q new)
    h.answer).1 j
query_joins old q (Ok (NotConnex rest)) new is h j =
    same_joins old new (done_of (query_refusal old q) (NotConnex rest) (RegistersAs old q new) (RefusedLate old q new)
    h.answer).1 j
query_joins old q (Err r) new is h j =
    learned_joins old new
    (refused_learned (query_refusal old q) r (RegistersAs old q new) (RefusedLate old q new) old new h.answer h.stays
    (λ late. by late)) j
  where
    by : RefusedLate old q new r → LearnsTexts old new
    by (inl k) = late_learned old (texts_in (constants_of q)) new r k.1
    by (inr k) = stays_learned old new k.1

drop_joins : (old : Store) (used : Bool) (name : Bytes) (r : Result ⊤ Refusal) (new : Store)
    → DropsQuery old used name r new → Joins old → Joins new
drop_joins old used name (Ok u) new h j =
    let D = λ (_ : ⊤). new ≡ record old { queries = drop_first (λ q. bytes_eq (listed_name q) name) old.queries } in
    subst Joins (sym (done_of (drop_refusal old used name) u D (OutOfMemoryWhere ⊥) h.answer))
    (record {
      rows = j.rows;
      queries = all_dropped IsJoin (λ (q : Listed). bytes_eq (listed_name q) name) old.queries
          j.queries;
    })
drop_joins old used name (Err r) new h j = same_joins old new h.stays j

turn_same : (old : State) (s : ℕ) (x : Session) (t : Turn) (new : State) → DoesTurn old s x t new → new.store
    ≡ old.store
turn_same old s x t new (is_turned h) = ap (λ (st : State). st.store) (turned_one old s x t new h).state
turn_same old s x t new (is_refused r) = replied_store s old new r

is_apart : Form → Bool
is_apart asking = true
is_apart storing = false
is_apart (turning t) = true
is_apart (changing c) = false
is_apart ending = true

form_same : (f : Form) (old : State) (s : ℕ) (x : Session) (e : Effect) (new : State) → is_apart f ≡ true
    → FormDoes f old s x e new → new.store ≡ old.store
unfolding is_apart
form_same asking old s x e new apart h = replied_store s old new h.1
form_same storing old s x e new apart h = absurd cc
form_same (turning t) old s x e new apart h = turn_same old s x t new h.1
form_same (changing c) old s x e new apart h = absurd cc
form_same ending old s x e new apart h = ap (λ (st : State). st.store) h.1.state

-- A command registers no query but the load's and no union, and is no `done`.
abbrev pub IsHarmless : Command → Type 0
IsHarmless (Register q) = q ≡ join
IsHarmless (Union name members) = ⊥
IsHarmless (Done given) = ⊥
IsHarmless c = Unit {0}

store_joins : (old new : State) (store : Store) → new ≡ record old { store = store } → Joins store → Joins new.store
store_joins old new store e j = subst (λ (st : State). Joins st.store) (sym e) j

asked_joins : (old : State) (s : ℕ) (q : Query) (e : Effect) (new : State) → q ≡ join
    → QueryStep old s q e new ⊎ QueryCutStep old s q e new → Joins old.store → Joins new.store
asked_joins old s q e new is (inl h) j = store_joins old new h.store h.state
    (query_joins old.store q h.result h.store is h.done j)
asked_joins old s q e new is (inr h) j = subst (λ (st : State). Joins st.store) (sym h.ends.1)
    (query_joins old.store q h.result h.store is h.done j)

-- a line that is held
held_joins : (old : State) (s : ℕ) (held : HeldTransaction) (l : Bytes) (verb : Verb) (name : Bytes) (row : Tuple)
    (e : Effect) (new : State) → HoldStep old s held l verb name row e new → Joins old.store → Joins new.store
held_joins old s held l verb name row e new h j = same_joins old.store new.store (held_same h.result h.state) j
  where
    held_same : (r : Result ⊤ Refusal) → BecomesWhere old s (with_batch (holding held verb name row l)) new r
        → new.store ≡ old.store
    held_same (Ok u) k = ap (λ (st : State). st.store) k
    held_same (Err r) k = ap (λ (st : State). st.store) k

-- `add` and `del`, if a batch is open or none is
add_command_joins : (old : State) (s : ℕ) (batch : Option HeldTransaction) (l name : Bytes) (row : Tuple)
    (e : Effect) (new : State)
    → MatchOption batch (AddStep old s name row e new) (λ held. HoldStep old s held l Adds name row e new)
    → Joins old.store → Joins new.store
add_command_joins old s None l name row e new h j =
    same_joins h.store new.store (change_store old s _ h.store _ e new h.change)
    (add_joins old.store name row h.result h.store h.done j)
add_command_joins old s (Some held) l name row e new h j = held_joins old s held l Adds name row e new h j

delete_command_joins : (old : State) (s : ℕ) (batch : Option HeldTransaction) (l name : Bytes) (row : Tuple)
    (e : Effect) (new : State)
    → MatchOption batch (DeleteStep old s name row e new) (λ held. HoldStep old s held l Deletes name row e new)
    → Joins old.store → Joins new.store
delete_command_joins old s None l name row e new h j =
    same_joins h.store new.store (change_store old s _ h.store _ e new h.change)
    (delete_joins old.store name row h.result h.store h.done j)
delete_command_joins old s (Some held) l name row e new h j = held_joins old s held l Deletes name row e new h j

-- a command that isn't of the store
apart_joins : (old : State) (s : ℕ) (x : Session) (l : Bytes) (c : Command) (e : Effect) (new : State)
    → reading_of l ≡ says_command c → is_apart (form_of x.batch l c) ≡ true → CommandStep old s x l c e new
    → Joins old.store → Joins new.store
apart_joins old s x l c e new says apart h j =
    same_joins old.store new.store
    (form_same (form_of x.batch l c) old s x e new apart (command_does old s x l c e new says h)) j

command_joins : (old : State) (s : ℕ) (x : Session) (l : Bytes) (c : Command) (e : Effect) (new : State)
    → reading_of l ≡ says_command c → IsHarmless c → CommandStep old s x l c e new → Joins old.store → Joins new.store
unfolding is_apart
command_joins old s x l (Rel name types) e new says fine h j =
    store_joins old new h.store h.state (rel_joins old.store name types h.result h.store h.done j)
command_joins old s x l (Register q) e new says fine h j = asked_joins old s q e new fine h j
command_joins old s x l (Union name members) e new says fine h j = absurd fine
command_joins old s x l (Drop q) e new says fine h j =
    store_joins old new h.store h.state (drop_joins old.store _ q h.result h.store h.done j)
command_joins old s x l (Add name row) e new says fine h j = add_command_joins old s x.batch l name row e new h j
command_joins old s x l (Del name row) e new says fine h j = delete_command_joins old s x.batch l name row e new h j
command_joins old s x l (Open c q) e new says fine h j = apart_joins old s x l (Open c q) e new says refl h j
command_joins old s x l (Next c n) e new says fine h j = apart_joins old s x l (Next c n) e new says refl h j
command_joins old s x l (Close c) e new says fine h j = apart_joins old s x l (Close c) e new says refl h j
command_joins old s x l (Has q row) e new says fine h j = apart_joins old s x l (Has q row) e new says refl h j
command_joins old s x l (Watch q) e new says fine h j = apart_joins old s x l (Watch q) e new says refl h j
command_joins old s x l (Unwatch q) e new says fine h j = apart_joins old s x l (Unwatch q) e new says refl h j
command_joins old s x l (Explain q) e new says fine h j = apart_joins old s x l (Explain q) e new says refl h j
command_joins old s x l (Shape q) e new says fine h j = apart_joins old s x l (Shape q) e new says refl h j
command_joins old s x l Batch e new says fine h j = apart_joins old s x l Batch e new says refl h j
command_joins old s x l (Done given) e new says fine h j = absurd fine
command_joins old s x l Abandon e new says fine h j = apart_joins old s x l Abandon e new says refl h j
command_joins old s x l Quit e new says fine h j = apart_joins old s x l Quit e new says refl h j
command_joins old s x l Stop e new says fine h j = apart_joins old s x l Stop e new says refl h j

-- A line.
abbrev pub LeavesJoin : Bytes → Type 0
LeavesJoin l = (c : Command) → reading_of l ≡ says_command c → IsHarmless c

read_joins : (old : State) (s : ℕ) (x : Session) (l : Bytes) (e : Effect) (new : State) → LeavesJoin l
    → Reads old s x l (reading_of l) e new → Joins old.store → Joins new.store
read_joins old s x l e new fine (turned_down why may h) j =
    same_joins old.store new.store (ap (λ (st : State). st.store) h.1) j
read_joins old s x l e new fine (carried_out c is h) j = command_joins old s x l c e new is (fine c is) h j

abbrev pub IsFine : Event → Type 0
IsFine (stepped s (run l)) = LeavesJoin l
IsFine _ = Unit {0}

front_joins : (old : State) (s : ℕ) (x : Session) (outcome : LineOutcome) (e : Effect) (new : State)
    → IsFine (stepped s outcome) → FrontStep old s x outcome e new
    → Joins old.store → Joins new.store
front_joins old s x long e new fine h j = same_joins old.store new.store (ap (λ (st : State). st.store) h.1.1) j
front_joins old s x (blank l) e new fine h j = same_joins old.store new.store (ap (λ (st : State). st.store) h.1.then.1)
    j
front_joins old s x (slow l) e new fine h j = same_joins old.store new.store (ap (λ (st : State). st.store) h.2.then.1)
    j
front_joins old s x (no_room l) e new fine h j = same_joins old.store new.store
    (ap (λ (st : State). st.store) h.2.then.1) j
front_joins old s x (run l) e new fine h j =
    let st = with_session old s (behind_line h.2.rest) in
    let y = behind_line h.2.rest x in
    read_joins st s y l e new fine (line_reads st s y l (reading_of l) e new h.2.then) j

-- An event.
opened_same : (old mid more : State) (P : Type 0) → more.store ≡ old.store → (P × (mid ≡ more)) ⊎ (mid ≡ old)
    → mid.store ≡ old.store
opened_same old mid more P same (inl h) = ap (λ (st : State). st.store) h.1 ∙ same
opened_same old mid more P same (inr h) = ap (λ (st : State). st.store) h

input_same : (old mid gone : State) (P Q R : Type 0) (c : Option EndCause) → gone.store ≡ old.store
    → MatchOption c (P × Q × (mid ≡ gone)) (λ _. R × (mid ≡ old)) → mid.store ≡ old.store
input_same old mid gone P Q R None same h = ap (λ (st : State). st.store) h.2 ∙ same
input_same old mid gone P Q R (Some c) same h = ap (λ (st : State). st.store) h.1

acts_joins : (old : State) (event : Event) (e : Effect) (mid : State) → IsFine event → Acts old event e mid
    → Joins old.store → Joins mid.store
acts_joins old (opened s) e mid fine h j = same_joins old.store mid.store (opened_same old mid _ _ refl h.2) j
acts_joins old (fed s bytes) e mid fine h j =
    let f = some_there (session_of old s) (λ x. FedStep old s bytes x e mid) h in
    same_joins old.store mid.store (fed_store old s bytes e mid (f.0).cause f.2) j
acts_joins old (stepped s outcome) e mid fine h j =
    let f = some_there (session_of old s) (λ x. (x.cause ≡ None) × FrontStep old s x outcome e mid) h in
    front_joins old s f.0 outcome e mid fine f.2.1 j
acts_joins old (took s bytes) e mid fine h j =
    let f = some_there (session_of old s) (λ x. TookStep old s bytes x e mid) h in
    same_joins old.store mid.store (ap (λ (st : State). st.store) f.2.1.2) j
acts_joins old (ended s) e mid fine h j =
    let f = some_there (session_of old s) (λ x. EndedStep old s x e mid) h in
    same_joins old.store mid.store (input_same old mid _ _ _ _ (f.0).cause refl f.2) j
acts_joins old (closed s bytes) e mid fine h j = same_joins old.store mid.store (ap (λ (st : State). st.store) h.2) j

-- The rows in another order.
moved_within : (rs ms : List Relation) → SameRelations rs ms → All RelationIsSmall rs → All RelationIsSmall ms
moved_within [] [] h k = k
moved_within (r ∷ rs) (m ∷ ms) h k =
    let here = All-head RelationIsSmall r rs k in
    let same = length_permutation r.rows m.rows h.2 in
    All-cons RelationIsSmall m ms (omega (arith, here, same)) (moved_within rs ms h.3 (All-tail RelationIsSmall r rs k))
moved_within [] (m ∷ ms) h k = absurd h
moved_within (r ∷ rs) [] h k = absurd h

pub step_joins : (old : State) (event : Event) (e : Effect) (new : State) → IsFine event → Step old event e new
    → Joins old.store → Joins new.store
step_joins old event e new fine h j =
    let mid = h.mid in
    let acted = acts_joins old event e mid fine h.acts j in
    same_joins (with_relations mid h.relations).store new.store
    (ap (λ (st : State). st.store) h.queued ∙ queued_store (with_relations mid h.relations) e.queued)
    (record { rows = moved_within mid.store.relations h.relations h.reordered acted.rows; queries = acted.queries })
