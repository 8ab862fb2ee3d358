-- The rows that batches hold suit their relations, whatever a step does.
use Rattle.std.proofs.Common.{ℕ, ◌≡◌, ◌+◌, ◌++◌, ◌⊎◌, Bool, true, false, not, List, [], ◌∷◌, length, map}
use Rattle.std.proofs.Common.{find, cond, Option, None, Some, option_map, Result, Ok, Err, refl, sym, ap, ◌∙◌, subst}
use Rattle.std.proofs.Common.{inl, inr, eqb}
use Rattle.std.specs.Prelude.{⊤, fold, IsSome, IsSomeAnd, MatchOption, is_none, is_some, ◌==◌}
use Rattle.std.specs.List.{list_any}
use Rattle.std.proofs.lemmas.List.Elements.{All-append, All-cons, All-nil}
use Rattle.djq_model.specs.declared.relation.ColumnType.{ColumnType}
use Rattle.djq_model.specs.declared.relation.CountedRow.{CountedRow}
use Rattle.djq_model.specs.declared.relation.Relation.{Relation}
use Rattle.djq_model.specs.declared.query.Query.{Query}
use Rattle.djq_model.specs.Data.{Bytes, Tuple, bytes_eq, change_first, drop_first, relation_of, counted_of, has_row}
use Rattle.djq_model.specs.Data.{rows_of}
use Rattle.djq_model.specs.Known.{texts_in}
use Rattle.djq_model.specs.Listed.{Listed, a_query, a_union, listed_name, listed_of}
use Rattle.djq_model.specs.Typed.{fits}
use Rattle.djq_protocol.specs.declared.answer.EndCause.{EndCause}
use Rattle.djq_protocol.specs.declared.answer.EndCause.TheVariants.{Quit as SaidQuit, Stop as SaidStop, Long, Slow}
use Rattle.djq_protocol.specs.declared.answer.EndCause.TheVariants.{Memory}
use Rattle.djq_protocol.specs.declared.answer.Refusal.{Refusal}
use Rattle.djq_protocol.specs.declared.answer.Refusal.TheVariants.{NoRelation, NoQuery, NoCursor, Arity, WrongType}
use Rattle.djq_protocol.specs.declared.answer.Refusal.TheVariants.{Limit, NoMemory}
use Rattle.djq_protocol.specs.declared.answer.AddOutcome.{AddOutcome}
use Rattle.djq_protocol.specs.declared.answer.AddOutcome.TheVariants.{First, More}
use Rattle.djq_protocol.specs.declared.answer.DeleteOutcome.{DeleteOutcome}
use Rattle.djq_protocol.specs.declared.answer.DeleteOutcome.TheVariants.{Last, Left, Absent}
use Rattle.djq_protocol.specs.declared.command.Command.{Command}
use Rattle.djq_protocol.specs.declared.command.Command.TheVariants.{Rel, Add, Del, Query as Register, Union, Drop, Open}
use Rattle.djq_protocol.specs.declared.command.Command.TheVariants.{Next, Close, Has, Watch, Unwatch, Explain, Shape}
use Rattle.djq_protocol.specs.declared.command.Command.TheVariants.{Batch, Done, Abandon, Quit, Stop}
use Rattle.djq_protocol.specs.declared.rest.QueryOutcome.{QueryOutcome}
use Rattle.djq_protocol.specs.declared.rest.QueryOutcome.TheVariants.{Registered, Cyclic, NotConnex}
use Rattle.djq_protocol.specs.declared.held.Verb.{Verb}
use Rattle.djq_protocol.specs.declared.held.Verb.TheVariants.{Add as Adds, Delete as Deletes}
use Rattle.djq_protocol.specs.declared.held.DoneRefusal.{DoneRefusal}
use Rattle.djq_protocol.specs.Columns.{types_of}
use Rattle.djq_protocol.specs.Conditions.{first_refusal, Answers, OutOfMemoryWhere}
use Rattle.djq_protocol.specs.Grammar.{Reading, outside, past_limit, says_command, reading_of}
use Rattle.djq_protocol.specs.Reply.{end_memory}
use Rattle.djq_protocol.specs.Variables.{constants_of}
use Rattle.djq_store_spec.specs.Store.{Store, Position, open_at, stale}
use Rattle.djq_store_spec.specs.Changes.{RowsChange, RowsOutcome, tried}
use Rattle.djq_store_spec.specs.DeltaCost.{Delta}
use Rattle.djq_store_spec.specs.Union.{union_refusal, AreUnder, RegistersUnion}
use Rattle.djq_store_spec.specs.Registering.{answer_steps, query_refusal, drop_refusal, RegistersAs, RefusedLate}
use Rattle.djq_store_spec.specs.Registering.{RegistersQuery, DropsQuery}
use Rattle.djq_store_spec.specs.Relations.{with_rows, rel_refusal, MakesRelation, RefusedByTexts}
use Rattle.djq_store_spec.specs.Rows.{add_refusal, delete_refusal, AddsAs, AddsRow}
use Rattle.djq_store_spec.specs.Rows.{DeletesAs, DeletesRow}
use Rattle.djq_store_spec.specs.Held.{HeldLine, HeldTransaction, nothing_held, holding, has_room}
use Rattle.djq_store_spec.specs.Lines.{with_copies_left, with_so_many, copies_after, first_lines}
use Rattle.djq_store_spec.specs.Transaction.{suit_refusal, hold_refusal, SuitAll, DoesAll}
use Rattle.djq_machine.specs.State.{Cursor, Session, State, session_of, with_session, cursor_of, ended_by, state_ids}
use Rattle.djq_machine.specs.Outdating.{outdated_sessions, changed}
use Rattle.djq_machine.specs.Effect.{Effect, queue, queue_all, RefusedStep}
use Rattle.djq_machine.specs.Walk.{Walk}
use Rattle.djq_machine.specs.Watch.{Telling, says_more, ends_more, watcher_of, TellsWatcher, TellsSession, TellsDelta}
use Rattle.djq_machine.specs.Watch.{RepliesLast, ChangeStep}
use Rattle.djq_machine.specs.Command.{uses, AddStep, DeleteStep, NextStepAt, CloseStep, OpensTo}
use Rattle.djq_machine.specs.Command.{with_cursor, BecomesWhere}
use Rattle.djq_machine.specs.Command.{with_watch, without_watch, TellsLines, explain_lines, union_lines, ExplainStepOf}
use Rattle.djq_machine.specs.Command.{with_batch, without_batch, HoldStep, DoneStep, is_misplaced, CommandStep}
use Rattle.djq_machine.specs.LineStep.{LineOutcome, long, blank, slow, no_room, run, behind_line, FrontStep, ReadStep}
use Rattle.djq_machine.specs.Step.{SameRelations, Step, stepped, with_relations}
use Rattle.djq_commands.specs.Sound.{BatchSuits, BatchesSuit}
use Rattle.djq_commands.proofs.ReadLines.{CarriedOut}

-- ---- relations stay, with their types

-- the types of the relation of a name, where there is one
abbrev pub columns : List Relation → Bytes → Option (List ColumnType)
columns rs name = option_map (λ (r : Relation). r.types) (relation_of rs name)

-- Relations that are there stay, with their types.
abbrev pub KeepTypes : List Relation → List Relation → Type 0
KeepTypes old new = (name : Bytes) → IsSome (relation_of old name) → columns new name ≡ columns old name

pub types_stay : (rs : List Relation) → KeepTypes rs rs
types_stay rs name there = refl

pub types_are : (old new : List Relation) → new ≡ old → KeepTypes old new
types_are old new e name there = ap (λ (rs : List Relation). columns rs name) e

-- a relation whose types are found is there
there_by : (o p : Option Relation) → option_map (λ (r : Relation). r.types) p ≡ option_map (λ (r : Relation). r.types) o
    → IsSome o → IsSome p
there_by None p e h = absurd (cc (h))
there_by (Some r) None e h = absurd (cc (e))
there_by (Some r) (Some q) e h = refl

pub types_stay_on : (old mid new : List Relation) → KeepTypes old mid → KeepTypes mid new → KeepTypes old new
types_stay_on old mid new f g name there = g name
    (there_by (relation_of old name) (relation_of mid name) (f name there) there) ∙ f name there

-- with a relation behind them
types_behind : (rs : List Relation) (r : Relation) → KeepTypes rs (rs ++ r ∷ [])
types_behind [] r name there = absurd (cc (there))
types_behind (q ∷ rs) r name there = by (bytes_eq q.name name) (λ h. types_behind rs r name h) there
  where
    by : (b : Bool) → (IsSome (relation_of rs name) → columns (rs ++ r ∷ []) name ≡ columns rs name)
        → IsSome (cond b (Some q) (relation_of rs name))
        → option_map (λ (x : Relation). x.types) (cond b (Some q) (relation_of (rs ++ r ∷ []) name))
        ≡ option_map (λ (x : Relation). x.types) (cond b (Some q) (relation_of rs name))
    by true more h = refl
    by false more h = more h

-- with other rows in one
pub types_with_rows : (rs : List Relation) (name : Bytes) (rows : List CountedRow)
    → KeepTypes rs (with_rows rs name rows)
types_with_rows rs name rows n there = all rs
  where
    all : (qs : List Relation) → columns (with_rows qs name rows) n ≡ columns qs n
    all [] = refl
    all (q ∷ qs) = by (bytes_eq q.name name) (bytes_eq q.name n) (all qs)
      where
        by : (b c : Bool) → columns (with_rows qs name rows) n ≡ columns qs n
            → option_map (λ (x : Relation). x.types)
            (find (λ (x : Relation). bytes_eq x.name n)
            (cond b (record q { rows = rows } ∷ qs) (q ∷ with_rows qs name rows)))
            ≡ option_map (λ (x : Relation). x.types) (find (λ (x : Relation). bytes_eq x.name n) (q ∷ qs))
        by true c more = refl_of (bytes_eq q.name n)
          where
            refl_of : (d : Bool) → option_map (λ (x : Relation). x.types)
                (cond d (Some (record q { rows = rows })) (relation_of qs n))
                ≡ option_map (λ (x : Relation). x.types) (cond d (Some q) (relation_of qs n))
            refl_of true = refl
            refl_of false = refl
        by false c more = rest (bytes_eq q.name n)
          where
            rest : (d : Bool) → option_map (λ (x : Relation). x.types)
                (cond d (Some q) (relation_of (with_rows qs name rows) n))
                ≡ option_map (λ (x : Relation). x.types) (cond d (Some q) (relation_of qs n))
            rest true = refl
            rest false = more

-- with their rows in another order
pub types_reordered : (rs qs : List Relation) → SameRelations rs qs → KeepTypes rs qs
types_reordered [] [] h name there = refl
types_reordered (r ∷ rs) (q ∷ qs) h name there =
    by (bytes_eq r.name name) (bytes_eq q.name name) (ap (λ (n : Bytes). bytes_eq n name) h.0)
    (λ t. types_reordered rs qs h.3 name t) there
  where
    by : (b c : Bool) → c ≡ b → (IsSome (relation_of rs name) → columns qs name ≡ columns rs name)
        → IsSome (cond b (Some r) (relation_of rs name))
        → option_map (λ (x : Relation). x.types) (cond c (Some q) (relation_of qs name))
        ≡ option_map (λ (x : Relation). x.types) (cond b (Some r) (relation_of rs name))
    by true true e more t = ap (λ (ts : List ColumnType). Some ts) h.1
    by false false e more t = more t
    by true false e more t = absurd (cc (e))
    by false true e more t = absurd (cc (e))
types_reordered [] (q ∷ qs) h name there = absurd h
types_reordered (r ∷ rs) [] h name there = absurd h

-- ---- so a row that suits its relation still does

-- why a row doesn't suit a relation, if one is there
abbrev suit_by : Option Relation → Tuple → Option Refusal
suit_by o row = first_refusal ((is_none o, NoRelation) ∷ (not (length row == length (types_of o)), Arity) ∷
    (not (fits (types_of o) row), WrongType) ∷ [])

suits_by : (o p : Option Relation) (row : Tuple)
    → (IsSome o → option_map (λ (r : Relation). r.types) p ≡ option_map (λ (r : Relation). r.types) o)
    → suit_by o row ≡ None → suit_by p row ≡ None
suits_by None p row f h = absurd (cc (h))
suits_by (Some r) None row f h = absurd (cc (f refl))
suits_by (Some r) (Some q) row f h =
    let same : q.types ≡ r.types = cc (f refl) in
    subst (λ (ts : List ColumnType). first_refusal
    ((not (length row == length ts), Arity) ∷ (not (fits ts row), WrongType) ∷ []) ≡ None) (sym same) h

pub suits_still : (old new : Store) (name : Bytes) (row : Tuple) → KeepTypes old.relations new.relations
    → suit_refusal old name row ≡ None → suit_refusal new name row ≡ None
suits_still old new name row keep h = suits_by (relation_of old.relations name) (relation_of new.relations name) row
    (keep name) h

pub suit_all_still : (old new : Store) (held : List HeldLine) → KeepTypes old.relations new.relations → SuitAll old held
    → SuitAll new held
suit_all_still old new held keep h k d lt = suits_still old new _ _ keep (h k d lt)

-- ---- what each command does to a store

behind_types : (old new : Store) (r : Relation) → new.relations ≡ old.relations ++ r ∷ []
    → KeepTypes old.relations new.relations
behind_types old new r e = subst (λ (rs : List Relation). KeepTypes old.relations rs) (sym e)
    (types_behind old.relations r)

rows_types : (old new : Store) (name : Bytes) (rows : List CountedRow) → new.relations
    ≡ with_rows old.relations name rows → KeepTypes old.relations new.relations
rows_types old new name rows e = subst (λ (rs : List Relation). KeepTypes old.relations rs) (sym e)
    (types_with_rows old.relations name rows)

same_types : (old new : Store) → new.relations ≡ old.relations → KeepTypes old.relations new.relations
same_types old new e = types_are old.relations new.relations e

relations_of : (old new : Store) → new ≡ old → new.relations ≡ old.relations
relations_of old new e = ap (λ (s : Store). s.relations) e

pub rel_keeps : (old new : Store) (name : Bytes) (types : List ColumnType) (r : Result ⊤ Refusal)
    → MakesRelation old name types r new → KeepTypes old.relations new.relations
rel_keeps old new name types (Err e) h = same_types old new (relations_of old new h.stays)
rel_keeps old new name types (Ok d) h = by (rel_refusal old name types) h.answer
  where
    by : (o : Option Refusal)
        → Answers o (Ok d) (λ (x : ⊤). new
        ≡ record old { relations = old.relations ++ record { name = name; types = types; rows = [] } ∷ [] })
        (OutOfMemoryWhere ⊤)
        → KeepTypes old.relations new.relations
    by (Some e) a = absurd a
    by None a = behind_types old new (record { name = name; types = types; rows = [] })
        (ap (λ (s : Store). s.relations) a)

texts_keep : (old new : Store) (texts : List Bytes) (r : Refusal) → RefusedByTexts old texts new r → new.relations
    ≡ old.relations
texts_keep old new texts Limit h = ap (λ (s : Store). s.relations) h.1
texts_keep old new texts NoMemory h = ap (λ (s : Store). s.relations) h.2
texts_keep old new texts _ h = absurd h

pub add_keeps : (old new : Store) (name : Bytes) (row : Tuple) (r : Result AddOutcome Refusal)
    → AddsRow old name row r new → KeepTypes old.relations new.relations
add_keeps old new name row r h = by (add_refusal old name row) refl r h.answer
  where
    by : (o : Option Refusal) → add_refusal old name row ≡ o → (q : Result AddOutcome Refusal)
        → Answers o q (AddsAs old name row new)
        (λ e. (has_row (rows_of old.relations name) row ≡ false) × RefusedByTexts old (texts_in row) new e)
        → KeepTypes old.relations new.relations
    by (Some e) f q a = same_types old new (relations_of old new (h.stays (ap (λ (o : Option Refusal). is_some o) f)))
    by None f (Ok First) a = rows_types old new name _ (ap (λ (s : Store). s.relations) a.2)
    by None f (Ok (More n)) a = rows_types old new name _ (ap (λ (s : Store). s.relations) a.2)
    by None f (Err e) a = same_types old new (texts_keep old new (texts_in row) e a.1)

pub delete_keeps : (old new : Store) (name : Bytes) (row : Tuple) (r : Result DeleteOutcome Refusal)
    → DeletesRow old name row r new → KeepTypes old.relations new.relations
delete_keeps old new name row (Err e) h = same_types old new (relations_of old new h.stays)
delete_keeps old new name row (Ok d) h = by (delete_refusal old name row) d h.answer
  where
    by : (o : Option Refusal) (q : DeleteOutcome) → Answers o (Ok q) (DeletesAs old name row new) (OutOfMemoryWhere ⊥)
        → KeepTypes old.relations new.relations
    by (Some e) q a = absurd a
    by None Last a = rows_types old new name _ (ap (λ (s : Store). s.relations) a.2)
    by None (Left n) a = rows_types old new name _ (ap (λ (s : Store). s.relations) a.3)
    by None Absent a = same_types old new (relations_of old new a.1)

pub query_keeps : (old new : Store) (q : Query) (r : Result QueryOutcome Refusal) → RegistersQuery old q r new
    → KeepTypes old.relations new.relations
query_keeps old new q r h = by (query_refusal old q) refl r h.answer
  where
    late : (e : Refusal) → RefusedLate old q new e → KeepTypes old.relations new.relations
    late e (inl l) = same_types old new (texts_keep old new (texts_in (constants_of q)) e l.1)
    late e (inr l) = same_types old new (relations_of old new l.1)

    by : (o : Option Refusal) → query_refusal old q ≡ o → (p : Result QueryOutcome Refusal)
        → Answers o p (RegistersAs old q new) (RefusedLate old q new) → KeepTypes old.relations new.relations
    by (Some e) f p a = same_types old new (relations_of old new (h.stays (ap (λ (o : Option Refusal). is_some o) f)))
    by None f (Ok (Registered n)) a = same_types old new (ap (λ (s : Store). s.relations) a.3)
    by None f (Ok (Cyclic rest)) a = same_types old new (relations_of old new a.1)
    by None f (Ok (NotConnex rest)) a = same_types old new (relations_of old new a.1)
    by None f (Err e) a = late e a

pub union_keeps : (old new : Store) (name : Bytes) (members : List Bytes) (r : Result ℕ Refusal)
    → RegistersUnion old name members r new → KeepTypes old.relations new.relations
union_keeps old new name members (Err e) h = same_types old new (relations_of old new h.stays)
union_keeps old new name members (Ok most) h = by (union_refusal old name members) h.answer
  where
    by : (o : Option Refusal)
        → Answers o (Ok most) (λ (m : ℕ). (qs : List Query) × AreUnder old.queries members qs
        × (m ≡ answer_steps (a_union name qs))
        × (new ≡ record old { queries = old.queries ++ a_union name qs ∷ [] })) (OutOfMemoryWhere ⊤)
        → KeepTypes old.relations new.relations
    by (Some e) a = absurd a
    by None a = same_types old new (ap (λ (s : Store). s.relations) a.3)

pub drop_keeps : (old new : Store) (used : Bool) (name : Bytes) (r : Result ⊤ Refusal) → DropsQuery old used name r new
    → KeepTypes old.relations new.relations
drop_keeps old new used name (Err e) h = same_types old new (relations_of old new h.stays)
drop_keeps old new used name (Ok d) h = by (drop_refusal old used name) h.answer
  where
    by : (o : Option Refusal)
        → Answers o (Ok d) (λ (x : ⊤). new
        ≡ record old { queries = drop_first (λ (q : Listed). bytes_eq (listed_name q) name) old.queries })
        (OutOfMemoryWhere ⊥)
        → KeepTypes old.relations new.relations
    by (Some e) a = absurd a
    by None a = same_types old new (ap (λ (s : Store). s.relations) a)

-- with the copies that held lines leave
left_keep : (base : List Relation) (lines : List HeldLine) (now : List Relation) (hs : List HeldLine)
    → KeepTypes now (fold (with_copies_left base lines) now hs)
left_keep base lines now [] = types_stay now
left_keep base lines now (h ∷ hs) =
    let next = with_copies_left base lines now h in
    types_stay_on now next (fold (with_copies_left base lines) next hs)
    (types_with_rows now h.relation (with_so_many (counted_of now h.relation) h.row (copies_after base lines h)))
    (left_keep base lines next hs)

pub done_keeps : (old new : Store) (lines : List HeldLine) (given : Option ℕ) (r : Result ℕ DoneRefusal)
    → DoesAll old lines given r new → KeepTypes old.relations new.relations
done_keeps old new lines given (Ok n) h =
    subst (λ (rs : List Relation). KeepTypes old.relations rs) (sym (ap (λ (s : Store). s.relations) h.does.1))
    (left_keep old.relations lines old.relations (first_lines lines))
done_keeps old new lines given (Err e) h = same_types old new (ap (λ (s : Store). s.relations) h.does.1)

-- ---- what sessions hold

-- what all of them hold
abbrev pub batches : List Session → List (Option HeldTransaction)
batches xs = map (λ (x : Session). x.batch) xs

pub batch_still : (old new : Store) (b : Option HeldTransaction) → KeepTypes old.relations new.relations
    → BatchSuits old b → BatchSuits new b
batch_still old new None keep h = tt
batch_still old new (Some held) keep h = suit_all_still old new held.lines keep h

pub batches_still : (old new : Store) (bs : List (Option HeldTransaction)) → KeepTypes old.relations new.relations
    → BatchesSuit old bs → BatchesSuit new bs
batches_still old new [] keep h = tt
batches_still old new (b ∷ bs) keep h = (batch_still old new b keep h.0, batches_still old new bs keep h.1)

-- one of them is another
session_suits : (st : Store) (xs : List Session) (s : ℕ) (f : Session → Session)
    → ((x : Session) → BatchSuits st x.batch → BatchSuits st (f x).batch) → BatchesSuit st (batches xs)
    → BatchesSuit st (batches (change_first (λ (x : Session). eqb x.id s) f xs))
session_suits st [] s f still h = tt
session_suits st (x ∷ xs) s f still h = by (eqb x.id s) (session_suits st xs s f still h.1)
  where
    by : (b : Bool) → BatchesSuit st (batches (change_first (λ (y : Session). eqb y.id s) f xs))
        → BatchesSuit st (batches (cond b (f x ∷ xs) (x ∷ change_first (λ (y : Session). eqb y.id s) f xs)))
    by true more = (still x h.0, h.1)
    by false more = (h.0, more)

-- the one of an id is among them
own_suits : (st : Store) (xs : List Session) (s : ℕ) (P : Session → Type 0) → BatchesSuit st (batches xs)
    → IsSomeAnd (find (λ (x : Session). eqb x.id s) xs) P → (x : Session) × BatchSuits st x.batch × P x
own_suits st [] s P h f = absurd f
own_suits st (x ∷ xs) s P h f = by (eqb x.id s) (λ g. own_suits st xs s P h.1 g) f
  where
    by : (b : Bool) → (IsSomeAnd (find (λ (y : Session). eqb y.id s) xs) P → (y : Session) × BatchSuits st y.batch
        × P y)
        → IsSomeAnd (cond b (Some x) (find (λ (y : Session). eqb y.id s) xs)) P → (y : Session) × BatchSuits st y.batch
        × P y
    by true more g = (x, h.0, g)
    by false more g = more g

-- A state goes on to another: its relations stay, with their types, and batches suit where they did.
pub record GoesOn (old new : State) : Type 0 where
  pub types : KeepTypes (old.store).relations (new.store).relations
  pub suits : BatchesSuit old.store (batches old.sessions) → BatchesSuit new.store (batches new.sessions)

goes_same : (old new : State) → new ≡ old → GoesOn old new
goes_same old new e = subst (λ (st : State). GoesOn old st) (sym e)
    (record { types = types_stay (old.store).relations; suits = λ h. h })

goes_then : (old mid new : State) → GoesOn old mid → GoesOn mid new → GoesOn old new
goes_then old mid new f g = record {
  types = types_stay_on (old.store).relations (mid.store).relations (new.store).relations f.types g.types;
  suits = λ h. g.suits (f.suits h);
}

goes_to : (old mid new : State) → new ≡ mid → GoesOn old mid → GoesOn old new
goes_to old mid new e g = subst (λ (st : State). GoesOn old st) (sym e) g

goes_session : (old : State) (s : ℕ) (f : Session → Session)
    → ((x : Session) → BatchSuits old.store x.batch → BatchSuits old.store (f x).batch)
    → GoesOn old (with_session old s f)
goes_session old s f still = record
    { types = types_stay (old.store).relations; suits = λ h. session_suits old.store old.sessions s f still h }

goes_store : (old : State) (store : Store) → KeepTypes (old.store).relations store.relations
    → GoesOn old (record old { store = store })
goes_store old store keep = record
    { types = keep; suits = λ h. batches_still old.store store (batches old.sessions) keep h }

goes_queued : (st : State) (ps : List (ℕ × Bytes)) → GoesOn st (queue_all st ps)
goes_queued st [] = goes_same st st refl
goes_queued st (p ∷ ps) = goes_then st (queue st p) (queue_all (queue st p) ps)
    (goes_session st p.0 (λ x. record x { pending = x.pending ++ p.1 }) (λ x h. h)) (goes_queued (queue st p) ps)

-- ---- a change of rows

outdated_batches : (queries : List Listed) (f : Listed → Option Bytes) (n : ℕ) (xs : List Session)
    → batches (outdated_sessions queries f n xs) ≡ batches xs
outdated_batches queries f n [] = refl
outdated_batches queries f n (x ∷ xs) = ap (λ (bs : List (Option HeldTransaction)). x.batch ∷ bs)
    (outdated_batches queries f n xs)

goes_changed : (old : State) (o : Option RowsChange) (store : Store) → KeepTypes (old.store).relations store.relations
    → GoesOn old (changed old o store)
goes_changed old None store keep = goes_store old store keep
goes_changed old (Some change) store keep = record {
  types = keep;
  suits = λ h. subst (BatchesSuit store)
      (sym (outdated_batches (old.store).queries change.outdater store.seq old.sessions))
      (batches_still old.store store (batches old.sessions) keep h);
}

goes_ended : (old : State) (s : ℕ) (c : EndCause) → GoesOn old (with_session old s (ended_by c))
goes_ended old s c = goes_session old s (ended_by c) (λ x h. tt)

told_one : (d : Delta) (n : ℕ) (m : Telling) (s : ℕ) (new : Telling) → TellsSession d n m s new
    → GoesOn m.state new.state
told_one d n m s new h = by (watcher_of m (listed_name d.query) s) h
  where
    by : (o : Option Session) → MatchOption o (new ≡ m) (λ x. TellsWatcher d n s x.pending m new)
        → GoesOn m.state new.state
    by None e = goes_same m.state new.state (ap (λ (t : Telling). t.state) e)
    by (Some x) (inl e) = goes_to m.state (with_session m.state s (ended_by Slow)) new.state
        (ap (λ (t : Telling). t.state) e.1) (goes_ended m.state s Slow)
    by (Some x) (inr (inl e)) = goes_same m.state new.state (ap (λ (t : Telling). t.state) e.1)
    by (Some x) (inr (inr (few, told, rest, parts, e))) = goes_to m.state (with_session m.state s (ended_by Memory))
        new.state (ap (λ (t : Telling). t.state) e) (goes_ended m.state s Memory)

told_all : (d : Delta) (n : ℕ) (ids : List ℕ) (m new : Telling) → Walk (TellsSession d n) m ids new
    → GoesOn m.state new.state
told_all d n [] m new w = goes_same m.state new.state (ap (λ (t : Telling). t.state) w)
told_all d n (s ∷ ids) m new w = goes_then m.state (w.0).state new.state (told_one d n m s w.0 w.1)
    (told_all d n ids w.0 new w.2)

told_deltas : (n : ℕ) (ds : List Delta) (m new : Telling) → Walk (TellsDelta n) m ds new → GoesOn m.state new.state
told_deltas n [] m new w = goes_same m.state new.state (ap (λ (t : Telling). t.state) w)
told_deltas n (d ∷ ds) m new w = goes_then m.state (w.0).state new.state (told_all d n (state_ids m.state) m w.0 w.1)
    (told_deltas n ds w.0 new w.2)

replied_last : (s : ℕ) (reply : Bytes) (m new : Telling) → RepliesLast s reply m new → GoesOn m.state new.state
replied_last s reply m new h = by (session_of m.state s) h
  where
    on : (x : Session) (o : Option EndCause)
        → MatchOption o ((new ≡ says_more s reply m) ⊎
        ((list_any (λ part. eqb part.0 s) m.queued ≡ true) × (new ≡ ends_more s end_memory Memory m))) (λ c. new ≡ m)
        → GoesOn m.state new.state
    on x None (inl e) = goes_same m.state new.state (ap (λ (t : Telling). t.state) e)
    on x None (inr e) = goes_to m.state (with_session m.state s (ended_by Memory)) new.state
        (ap (λ (t : Telling). t.state) e.1) (goes_ended m.state s Memory)
    on x (Some c) e = goes_same m.state new.state (ap (λ (t : Telling). t.state) e)

    by : (o : Option Session)
        → IsSomeAnd o (λ x. MatchOption x.cause
        ((new ≡ says_more s reply m) ⊎
        ((list_any (λ part. eqb part.0 s) m.queued ≡ true) × (new ≡ ends_more s end_memory Memory m)))
        (λ c. new ≡ m))
        → GoesOn m.state new.state
    by None e = absurd e
    by (Some x) e = on x x.cause e

change_goes : (old : State) (s : ℕ) (outcome : RowsOutcome) (store : Store) (reply : Bytes) (e : Effect) (new : State)
    → KeepTypes (old.store).relations store.relations
    → ChangeStep old s outcome store reply e new → GoesOn old new
change_goes old s outcome store reply e new keep h =
    let told = goes_then old (changed old (tried outcome) store) (h.told).state
    (goes_changed old (tried outcome) store keep) (told_deltas store.seq _ _ h.told h.tells) in
    goes_to old (h.last).state new h.state
    (goes_then old (h.told).state (h.last).state told (replied_last s reply h.told h.last h.replies))

-- ---- a command

becomes_goes : {A : Type 0} (old : State) (s : ℕ) (f : Session → Session) (new : State) (r : Result A Refusal)
    → ((x : Session) → BatchSuits old.store x.batch → BatchSuits old.store (f x).batch)
    → BecomesWhere old s f new r → GoesOn old new
becomes_goes old s f new (Ok a) still h = goes_to old (with_session old s f) new h (goes_session old s f still)
becomes_goes old s f new (Err e) still h = goes_same old new h

-- the row of a line that is held suits
pub holds : (st : Store) (held : HeldTransaction) (l : Bytes) (verb : Verb) (name : Bytes) (row : Tuple)
    (r : Result ⊤ Refusal) → Answers (hold_refusal st held l name row) r (λ (x : ⊤). ⊤) (OutOfMemoryWhere ⊤)
    → BatchSuits st (Some held) → (d : ⊤) → r ≡ Ok d → BatchSuits st (Some (holding held verb name row l))
holds st held l verb name row (Err e) a own d is = absurd (cc (is))
holds st held l verb name row (Ok x) a own d is = by (is_none (relation_of st.relations name))
    (not (length row == length types)) (not (fits types row)) (not (has_room held (length l))) refl refl refl a
  where
    types : List ColumnType
    types = types_of (relation_of st.relations name)

    by : (b c d e : Bool) → is_none (relation_of st.relations name) ≡ b
        → not (length row == length (types_of (relation_of st.relations name))) ≡ c
        → not (fits (types_of (relation_of st.relations name)) row) ≡ d
        → Answers (first_refusal ((b, NoRelation) ∷ (c, Arity) ∷ (d, WrongType) ∷ (e, Limit) ∷ [])) (Ok x)
        (λ (x : ⊤). ⊤)
        (OutOfMemoryWhere ⊤)
        → BatchSuits st (Some (holding held verb name row l))
    by true c d e f g i k = absurd k
    by false true d e f g i k = absurd k
    by false false true e f g i k = absurd k
    by false false false true f g i k = absurd k
    by false false false false f g i k =
        let new : HeldLine = record { verb = verb; relation = name; row = row } in
        let suits : suit_refusal st name row ≡ None = rw (f, g, i) refl in
        All-append (λ (h : HeldLine). suit_refusal st h.relation h.row ≡ None) held.lines (new ∷ []) own
        (All-cons (λ (h : HeldLine). suit_refusal st h.relation h.row ≡ None) new [] suits
        (All-nil (λ (h : HeldLine). suit_refusal st h.relation h.row ≡ None)))

hold_goes : (old : State) (s : ℕ) (held : HeldTransaction) (l : Bytes) (verb : Verb) (name : Bytes) (row : Tuple)
    (e : Effect) (new : State) → BatchSuits old.store (Some held) → HoldStep old s held l verb name row e new
    → GoesOn old new
hold_goes old s held l verb name row e new own h = by h.result h.answer h.state
  where
    by : (r : Result ⊤ Refusal)
        → Answers (hold_refusal old.store held l name row) r (λ (x : ⊤). ⊤) (OutOfMemoryWhere ⊤)
        → BecomesWhere old s (with_batch (holding held verb name row l)) new r → GoesOn old new
    by (Ok d) a b = becomes_goes old s (with_batch (holding held verb name row l)) new (Ok d)
        (λ x k. holds old.store held l verb name row (Ok d) a own d refl) b
    by (Err r) a b = goes_same old new b

pub none_held : (st : Store) → BatchSuits st (Some nothing_held)
none_held st = All-nil (λ (h : HeldLine). suit_refusal st h.relation h.row ≡ None)

refused_goes : (old : State) (s : ℕ) (r : Refusal) (e : Effect) (new : State) → RefusedStep old s r e new
    → GoesOn old new
refused_goes old s r e new h = goes_same old new h.1

next_goes : (old : State) (s : ℕ) (c : Bytes) (q : Listed) (count : ℕ) (p : Position) (e : Effect) (new : State)
    → NextStepAt old s c q count p e new → GoesOn old new
next_goes old s c q count (open_at given ended) e new (inl h) = goes_to old (with_session old s _) new h.state
    (goes_session old s _ (λ x b. b))
next_goes old s c q count (open_at given ended) e new (inr h) = goes_to old (with_session old s (ended_by Memory)) new
    h.state (goes_ended old s Memory)
next_goes old s c q count (stale relation n) e new h = goes_same old new h.1

read_goes : (old : State) (s : ℕ) (c : Bytes) (count : ℕ) (o : Option Cursor) (e : Effect) (new : State)
    → MatchOption o (RefusedStep old s NoCursor e new)
    (λ k. IsSomeAnd (listed_of old.store.queries k.query) (λ q. NextStepAt old s c q count k.position e new))
    → GoesOn old new
read_goes old s c count None e new h = refused_goes old s NoCursor e new h
read_goes old s c count (Some k) e new h = by (listed_of old.store.queries k.query) h
  where
    by : (o : Option Listed) → IsSomeAnd o (λ q. NextStepAt old s c q count k.position e new) → GoesOn old new
    by None g = absurd g
    by (Some q) g = next_goes old s c q count k.position e new g

close_goes : (old : State) (s : ℕ) (c : Bytes) (o : Option Cursor) (e : Effect) (new : State)
    → MatchOption o (RefusedStep old s NoCursor e new) (λ k. CloseStep old s c e new) → GoesOn old new
close_goes old s c None e new h = refused_goes old s NoCursor e new h
close_goes old s c (Some k) e new h = goes_to old (with_session old s _) new h.1 (goes_session old s _ (λ x b. b))

lines_go : (old : State) (s : ℕ) (lines : List Bytes) (e : Effect) (new : State) → TellsLines old s lines e new
    → GoesOn old new
lines_go old s lines e new (inl k) = goes_same old new k.1
lines_go old s lines e new (inr (told, lacking, rest, parts, ends)) = goes_to old (with_session old s (ended_by Memory))
    new ends.1 (goes_ended old s Memory)

explain_goes : (old : State) (s : ℕ) (o : Option Listed) (e : Effect) (new : State)
    → MatchOption o (RefusedStep old s NoQuery e new) (λ k. ExplainStepOf old s k e new) → GoesOn old new
explain_goes old s None e new h = refused_goes old s NoQuery e new h
explain_goes old s (Some (a_query q)) e new h = lines_go old s (explain_lines q h.tree) e new h.tells
explain_goes old s (Some (a_union name qs)) e new h = lines_go old s (union_lines qs) e new h

opens_goes : (old : State) (s : ℕ) (c q : Bytes) (new : State) (r : Result ⊤ Refusal) → OpensTo old s c q new r
    → GoesOn old new
opens_goes old s c q new (Ok d) h = goes_to old (with_session old s (with_cursor c q)) new h
    (goes_session old s (with_cursor c q) (λ x b. b))
opens_goes old s c q new (Err e) h = goes_same old new h

command_goes : (old : State) (s : ℕ) (x : Session) (l : Bytes) (c : Command) (e : Effect) (new : State)
    → BatchSuits old.store x.batch → CommandStep old s x l c e new → GoesOn old new
command_goes old s x l (Rel name types) e new own h =
    goes_to old (record old { store = h.store }) new h.state
    (goes_store old h.store (rel_keeps old.store h.store name types h.result h.done))
command_goes old s x l (Add name row) e new own h = by x.batch own h
  where
    by : (o : Option HeldTransaction) → BatchSuits old.store o
        → MatchOption o (AddStep old s name row e new) (λ held. HoldStep old s held l Adds name row e new)
        → GoesOn old new
    by None b k = change_goes old s _ k.store _ e new (add_keeps old.store k.store name row k.result k.done) k.change
    by (Some held) b k = hold_goes old s held l Adds name row e new b k
command_goes old s x l (Del name row) e new own h = by x.batch own h
  where
    by : (o : Option HeldTransaction) → BatchSuits old.store o
        → MatchOption o (DeleteStep old s name row e new) (λ held. HoldStep old s held l Deletes name row e new)
        → GoesOn old new
    by None b k = change_goes old s _ k.store _ e new (delete_keeps old.store k.store name row k.result k.done) k.change
    by (Some held) b k = hold_goes old s held l Deletes name row e new b k
command_goes old s x l (Register q) e new own (inl h) = goes_to old (record old { store = h.store }) new h.state
    (goes_store old h.store (query_keeps old.store h.store q h.result h.done))
command_goes old s x l (Register q) e new own (inr h) =
    let mid : State = record old { store = h.store } in
    goes_to old (with_session mid s (ended_by Memory)) new h.ends.1
    (goes_then old mid (with_session mid s (ended_by Memory))
    (goes_store old h.store (query_keeps old.store h.store q h.result h.done)) (goes_ended mid s Memory))
command_goes old s x l (Union u members) e new own h =
    goes_to old (record old { store = h.store }) new h.state
    (goes_store old h.store (union_keeps old.store h.store u members h.result h.done))
command_goes old s x l (Drop q) e new own h =
    goes_to old (record old { store = h.store }) new h.state
    (goes_store old h.store (drop_keeps old.store h.store (list_any (uses q) old.sessions) q h.result h.done))
command_goes old s x l (Open c q) e new own h = opens_goes old s c q new h.result h.state
command_goes old s x l (Next c count) e new own h = read_goes old s c count (cursor_of x.cursors c) e new h
command_goes old s x l (Close c) e new own h = close_goes old s c (cursor_of x.cursors c) e new h
command_goes old s x l (Has q row) e new own h = goes_same old new h.state
command_goes old s x l (Watch q) e new own h = becomes_goes old s (with_watch q) new h.result (λ y b. b) h.state
command_goes old s x l (Unwatch q) e new own h = becomes_goes old s (without_watch q) new h.result (λ y b. b) h.state
command_goes old s x l (Explain q) e new own h = explain_goes old s (listed_of (old.store).queries q) e new h
command_goes old s x l (Shape q) e new own h = goes_same old new h.state
command_goes old s x l Batch e new own h =
    becomes_goes old s (with_batch nothing_held) new h.result (λ y b. none_held old.store) h.state
command_goes old s x l (Done given) e new own h = by x.batch h
  where
    by : (o : Option HeldTransaction) → MatchOption o ⊥ (λ held. DoneStep old s held given e new) → GoesOn old new
    by None k = absurd k
    by (Some held) k =
        let mid = with_session old s without_batch in
        goes_then old mid new (goes_session old s without_batch (λ y b. tt))
        (change_goes mid s _ k.store _ e new (done_keeps old.store k.store held.lines given k.result k.done) k.change)
command_goes old s x l Abandon e new own h = goes_to old (with_session old s without_batch) new h.1
    (goes_session old s without_batch (λ y b. tt))
command_goes old s x l Quit e new own h = goes_to old (with_session old s (ended_by SaidQuit)) new h.1
    (goes_ended old s SaidQuit)
command_goes old s x l Stop e new own h =
    let mid : State = record old { stopped = true } in
    goes_to old (with_session mid s (ended_by SaidStop)) new h.1
    (goes_then old mid (with_session mid s (ended_by SaidStop))
    (record { types = types_stay (old.store).relations; suits = λ b. b }) (goes_ended mid s SaidStop))

-- ---- a step

line_goes : (old : State) (s : ℕ) (x : Session) (l : Bytes) (r : Reading) (e : Effect) (new : State)
    → BatchSuits old.store x.batch → ReadStep old s x l r e new → GoesOn old new
line_goes old s x l outside e new own h = goes_same old new h.1
line_goes old s x l (past_limit c) e new own h = goes_same old new h.1
line_goes old s x l (says_command c) e new own h = by (is_misplaced x.batch c) h
  where
    by : (b : Bool) → CarriedOut old s x l c e new b → GoesOn old new
    by true k = goes_same old new k.1
    by false (true, k) = command_goes old s x l c e new own k
    by false (false, k) = goes_same old new k.1.1

front_goes : (old : State) (s : ℕ) (x : Session) (o : LineOutcome) (e : Effect) (new : State)
    → BatchSuits old.store x.batch → FrontStep old s x o e new → GoesOn old new
front_goes old s x long e new own h = goes_to old (with_session old s (ended_by Long)) new h.1.1 (goes_ended old s Long)
front_goes old s x (blank l) e new own h =
    let t = h.1 in goes_to old (with_session old s (behind_line t.rest)) new t.then.1
    (goes_session old s (behind_line t.rest) (λ y b. b))
front_goes old s x (slow l) e new own h =
    let t = h.2 in
    let mid = with_session old s (behind_line t.rest) in
    goes_then old mid new (goes_session old s (behind_line t.rest) (λ y b. b))
    (goes_to mid (with_session mid s (ended_by Slow)) new t.then.1 (goes_ended mid s Slow))
front_goes old s x (no_room l) e new own h =
    let t = h.2 in
    let mid = with_session old s (behind_line t.rest) in
    goes_then old mid new (goes_session old s (behind_line t.rest) (λ y b. b))
    (goes_to mid (with_session mid s (ended_by Memory)) new t.then.1 (goes_ended mid s Memory))
front_goes old s x (run l) e new own h =
    let t = h.2 in
    let mid = with_session old s (behind_line t.rest) in
    goes_then old mid new (goes_session old s (behind_line t.rest) (λ y b. b))
    (line_goes mid s (behind_line t.rest x) l (reading_of l) e new own t.then)

-- Where a session's line is run, all go on.
pub step_goes : (old : State) (s : ℕ) (o : LineOutcome) (e : Effect) (new : State)
    → BatchesSuit old.store (batches old.sessions) → Step old (stepped s o) e new → GoesOn old new
step_goes old s o e new suited h =
    let own = own_suits old.store old.sessions s (λ x. (x.cause ≡ None) × FrontStep old s x o e h.mid) suited h.acts in
    let front = front_goes old s own.0 o e h.mid own.1 own.2.1 in
    let moved = with_relations h.mid h.relations in
    let reordered = goes_store (h.mid) (record (h.mid).store { relations = h.relations })
    (types_reordered ((h.mid).store).relations h.relations h.reordered) in
    goes_to old (queue_all moved e.queued) new h.queued
    (goes_then old moved (queue_all moved e.queued) (goes_then old h.mid moved front reordered)
    (goes_queued moved e.queued))
