-- What is stored along a run, and what lines load, lines have said.
use Rattle.std.specs.Prelude.{ℕ, zero, suc, find, List, [], ◌∷◌, ◌==◌, ◌&&◌, ◌≡◌, ◌<◌, ◌≤◌, ◌++◌, ◌⊎◌, Bool, true}
use Rattle.std.specs.Prelude.{false, not, cond, length, Option, None, Some, IfSome, MatchOption, option_map, Result, Ok}
use Rattle.std.specs.Prelude.{Err, map, All, ⊤}
use Rattle.std.specs.List.{list_any}
use Rattle.std.proofs.Common.{refl, sym, ap, ◌∙◌, subst, inl, inr, arith}
use Rattle.std.proofs.lemmas.List.Elements.{All-nil, All-cons, All-head, All-tail, All-push, All-filter, All-append}
use Rattle.std.proofs.lemmas.List.Elements.{All-weaker}
use Rattle.djq_model.specs.declared.relation.Relation.{Relation}
use Rattle.djq_model.specs.Data.{Bytes, Tuple, bytes_eq}
use Rattle.djq_model.specs.Listed.{Listed, listed_name, AnswersOf, listed_of}
use Rattle.djq_value.specs.Literal.{IsName}
use Rattle.djq_protocol.specs.declared.limits.TheConstants.{SESSIONS, LAST_SEQ}
use Rattle.djq_protocol.specs.declared.answer.EndCause.{EndCause}
use Rattle.djq_protocol.specs.declared.answer.EndCause.TheVariants.{Input, Memory}
use Rattle.djq_protocol.specs.declared.answer.Refusal.{Refusal}
use Rattle.djq_protocol.specs.declared.answer.Refusal.TheVariants.{NoMemory}
use Rattle.djq_protocol.specs.declared.answer.AddOutcome.{AddOutcome}
use Rattle.djq_protocol.specs.declared.answer.AddOutcome.TheVariants.{First, More}
use Rattle.djq_protocol.specs.declared.answer.DeleteOutcome.{DeleteOutcome}
use Rattle.djq_protocol.specs.declared.answer.DeleteOutcome.TheVariants.{Last, Left, Absent}
use Rattle.djq_protocol.specs.declared.command.Command.{Command}
use Rattle.djq_protocol.specs.declared.command.Command.TheVariants.{Rel, Add, Del, Query as Register, Union, Drop, Open}
use Rattle.djq_protocol.specs.declared.command.Command.TheVariants.{Next, Close, Has, Watch, Unwatch, Explain, Shape}
use Rattle.djq_protocol.specs.declared.command.Command.TheVariants.{Batch, Done, Abandon, Quit, Stop}
use Rattle.djq_protocol.specs.declared.held.DoneRefusal.{DoneRefusal}
use Rattle.djq_protocol.specs.declared.held.Verb.{Verb}
use Rattle.djq_protocol.specs.declared.held.Verb.TheVariants.{Add as Adds, Delete as Deletes}
use Rattle.djq_protocol.specs.Grammar.{says_command, reading_of, Reading, outside, past_limit}
use Rattle.djq_protocol.specs.Reply.{end_memory, done_word}
use Rattle.djq_store_spec.specs.Store.{Store, Position, open_at, stale}
use Rattle.djq_store_spec.specs.Stale.{outdated, outdater_of, by_relation, listed_reads}
use Rattle.djq_store_spec.specs.Changes.{RowsChange, RowsOutcome, tried, row_in, row_out, add_outcome, delete_outcome}
use Rattle.djq_store_spec.specs.Held.{HeldLine, HeldTransaction, nothing_held, holding}
use Rattle.djq_store_spec.specs.Done.{has_changed}
use Rattle.djq_store_spec.specs.Transaction.{first_read, lines_outcome}
use Rattle.djq_answer_laws.proofs.Lists.{some_there}
use Rattle.djq_machine.specs.declared.machine.Loaded.{Loaded}
use Rattle.djq_machine.specs.declared.machine.Loaded.TheVariants.{Ran as ran}
use Rattle.djq_machine.specs.State.{State, Session, Cursor, fresh, session_of, with_session, with_position, ended_by}
use Rattle.djq_machine.specs.State.{opening}
use Rattle.djq_machine.specs.Outdating.{outdated_cursor, changed}
use Rattle.djq_machine.specs.Watch.{is_watching, Telling, ChangeStep}
use Rattle.djq_machine.specs.Effect.{Effect, nothing, EndsWith, queue, queue_all}
use Rattle.djq_machine.specs.Command.{uses, with_cursor, with_watch, without_watch, with_batch, without_batch, AddStep}
use Rattle.djq_machine.specs.Command.{DeleteStep, HoldStep, DoneStep, CommandStep}
use Rattle.djq_machine.specs.LineStep.{LineOutcome, long, blank, slow, no_room, run, ReadStep, FrontStep, behind_line}
use Rattle.djq_machine.specs.Step.{Event, opened, fed, stepped, took, ended, closed, FedStep, TookStep, EndedStep, Acts}
use Rattle.djq_machine.specs.Step.{with_relations, Step}
use Rattle.djq_machine.specs.Run.{Did}
use Rattle.djq_machine.specs.Loading.{Loading, loading, StoreLoads, CommandLoads, HoldsLoaded, ReadingLoads, LoadStep}
use Rattle.djq_machine.proofs.Relations.{walk_keeps}
use Rattle.djq_run_laws.specs.Sound.{IsStart}
use Rattle.djq_run_laws.specs.Form.{Turn, opens_cursor, moves_cursor, closes_cursor, starts_watching, stops_watching}
use Rattle.djq_run_laws.specs.Form.{opens_batch, holds_line, closes_batch, Replied, is_whole, is_cut, without_cursor}
use Rattle.djq_run_laws.specs.Form.{SessionTurned, DoesTurn, is_turned, is_refused}
use Rattle.djq_run_laws.proofs.Forms.{line_held, command_does, Reads, turned_down, carried_out, line_reads}
use Rattle.djq_run_laws.proofs.Lists.{session_changed, all_changed, all_found, all_dropped, all_mapped, change_keeps}
use Rattle.djq_mirror_laws.specs.Sayable.{IsSayableRow, IsSayableRelation, IsSayableListed, IsSayableStore}
use Rattle.djq_mirror_laws.specs.Sayable.{IsSayableText}
use Rattle.djq_mirror_laws.specs.Sayable.{IsSayablePosition, IsSayableCursor, IsSayableHeld, IsSayableSession}
use Rattle.djq_mirror_laws.specs.Sayable.{IsSayableState, RunsKeepSayable, OpeningIsSayable, StatesAreSayable}
use Rattle.djq_mirror_laws.specs.Loaded.{LoadedAreSayable}
use Rattle.djq_mirror_laws.proofs.ReadCommands.{IsSayableCommand, read_sayable}
use Rattle.djq_mirror_laws.proofs.StoredNames.{answer_sayable, rel_sayable, add_sayable, del_sayable, done_sayable}
use Rattle.djq_mirror_laws.proofs.StoredNames.{query_sayable, union_sayable, drop_sayable, moved_store_sayable}

-- ---- What is kept along a run, lines have said.

-- ---- sessions

ended_session : (cause : EndCause) (x : Session) → IsSayableSession (ended_by cause x)
ended_session cause x = record { cursors = All-nil IsSayableCursor; watches = All-nil IsName; batch = tt }

same_kept : (old new : State) → new ≡ old → IsSayableState old → IsSayableState new
same_kept old new e k = subst IsSayableState (sym e) k

session_kept : (old new : State) (s : ℕ) (f : Session → Session) → new ≡ with_session old s f
    → ((x : Session) → IsSayableSession x → IsSayableSession (f x)) → IsSayableState old → IsSayableState new
session_kept old new s f after keeps k =
    subst IsSayableState (sym after) (record {
      store = k.store;
      sessions = all_changed IsSayableSession (λ (x : Session). x.id == s) f old.sessions k.sessions
          (λ x found g. keeps x g);
    })

ends_kept : (old : State) (s : ℕ) (cause : EndCause) (new : State) → new ≡ with_session old s (ended_by cause)
    → IsSayableState old → IsSayableState new
ends_kept old s cause new after k = session_kept old new s (ended_by cause) after (λ x g. ended_session cause x) k

-- the lines that a batch holds, if one is open
abbrev HoldsSayable : Option HeldTransaction → Type 0
HoldsSayable o = IfSome o (λ held. All IsSayableHeld held.lines)

-- a change of one that leaves what is said of it
others_stay : (old new : State) (s : ℕ) (f : Session → Session) → ((x : Session) → (f x).cursors ≡ x.cursors)
    → ((x : Session) → (f x).watches ≡ x.watches) → ((x : Session) → (f x).batch ≡ x.batch) → new ≡ with_session old s f
    → IsSayableState old → IsSayableState new
others_stay old new s f cursors watches batch after k =
    session_kept old new s f after (λ x g. record {
      cursors = subst (λ (cs : List Cursor). All IsSayableCursor cs) (sym (cursors x)) g.cursors;
      watches = subst (λ (ws : List Bytes). All IsName ws) (sym (watches x)) g.watches;
      batch = subst HoldsSayable (sym (batch x)) g.batch;
    }) k

store_kept : (old : State) (store : Store) (new : State) → new ≡ record old { store = store } → IsSayableStore store
    → IsSayableState old → IsSayableState new
store_kept old store new after said k =
    subst IsSayableState (sym after) (record { store = said; sessions = k.sessions })

replied_kept : (s : ℕ) (mid new : State) → Replied s mid new → IsSayableState mid → IsSayableState new
replied_kept s mid new (is_whole after) k = same_kept mid new after k
replied_kept s mid new (is_cut after) k = ends_kept mid s Memory new after k

-- ---- cursors that become stale

abbrev IsNamed : Option Bytes → Type 0
IsNamed None = Unit {0}
IsNamed (Some r) = IsName r

-- a change that outdates cursors by the names of relations
abbrev Names : RowsChange → Type 0
Names change = (qs : List Listed) (q : Bytes) → IsNamed (outdater_of qs change.outdater q)

relation_named : (name : Bytes) → IsName name → (qs : List Listed) (q : Bytes)
    → IsNamed (outdater_of qs (by_relation name) q)
relation_named name named qs q = by (listed_of qs q) refl
  where
    read : (b : Bool) → IsNamed (cond b (Some name) None)
    read true = named
    read false = tt

    by : (o : Option Listed) → listed_of qs q ≡ o → IsNamed (outdater_of qs (by_relation name) q)
    by None e = rw e tt
    by (Some p) e = rw e (read (listed_reads p name))

abbrev NamesTried : Option RowsChange → Type 0
NamesTried None = Unit {0}
NamesTried (Some change) = Names change

add_named : (change : RowsChange) → Names change → (r : Result AddOutcome Refusal)
    → NamesTried (tried (add_outcome change r))
add_named change n (Ok First) = n
add_named change n (Ok (More copies)) = tt
add_named change n (Err NoMemory) = n
add_named change n (Err r) = tt

del_named : (change : RowsChange) → Names change → (r : Result DeleteOutcome Refusal)
    → NamesTried (tried (delete_outcome change r))
del_named change n (Ok Last) = n
del_named change n (Ok (Left copies)) = tt
del_named change n (Ok Absent) = tt
del_named change n (Err r) = tt

found_named : (p : Bytes → Bool) (ns : List Bytes) → All IsName ns → IsNamed (find p ns)
found_named p [] h = tt
found_named p (n ∷ ns) h = by (p n) (found_named p ns (All-tail IsName n ns h))
  where
    by : (b : Bool) → IsNamed (find p ns) → IsNamed (cond b (Some n) (find p ns))
    by true k = All-head IsName n ns h
    by false k = k

relations_named : (lines : List HeldLine) → All IsSayableHeld lines
    → All IsName (map (λ (h : HeldLine). h.relation) lines)
relations_named [] h = All-nil IsName
relations_named (k ∷ ks) h =
    All-cons IsName k.relation (map (λ (r : HeldLine). r.relation) ks) (All-head IsSayableHeld k ks h).relation
    (relations_named ks (All-tail IsSayableHeld k ks h))

first_named : (lines : List HeldLine) → All IsSayableHeld lines → (test : Bytes → Bool) (qs : List Listed) (q : Bytes)
    → IsNamed (outdater_of qs (first_read lines test) q)
first_named lines said test qs q = by (listed_of qs q) refl
  where
    by : (o : Option Listed) → listed_of qs q ≡ o → IsNamed (outdater_of qs (first_read lines test) q)
    by None e = rw e tt
    by (Some p) e = rw e (found_named (λ n. test n && listed_reads p n) (map (λ (h : HeldLine). h.relation) lines)
        (relations_named lines said))

outcome_named : (relations : List Relation) (lines : List HeldLine) → All IsSayableHeld lines
    → (r : Result ℕ DoneRefusal)
    → NamesTried (tried (lines_outcome relations lines r))
outcome_named relations lines said (Ok zero) = tt
outcome_named relations lines said (Ok (suc n)) = λ qs q. first_named lines said (has_changed relations lines) qs q
outcome_named relations lines said (Err r) = by (done_word r) refl
  where
    by : (w : Refusal) → done_word r ≡ w → NamesTried (tried (lines_outcome relations lines (Err r)))
    by NoMemory e = rw e (λ qs q. first_named lines said (λ name. true) qs q)
    by w e = rw e tt

position_outdated : (o : Option Bytes) (n : ℕ) (p : Position) → IsNamed o → n ≤ LAST_SEQ → IsSayablePosition p
    → IsSayablePosition (outdated o n p)
position_outdated None n p named few h = h
position_outdated (Some relation) n (open_at given finished) named few h = (named, few)
position_outdated (Some relation) n (stale r m) named few h = h

changed_kept : (old : State) (o : Option RowsChange) (store : Store) → NamesTried o → IsSayableStore store
    → IsSayableState old → IsSayableState (changed old o store)
changed_kept old None store named said k = record { store = said; sessions = k.sessions }
changed_kept old (Some change) store named said k =
    let qs = old.store.queries in record {
      store = said;
      sessions = all_mapped IsSayableSession IsSayableSession
          (λ (x : Session). record x { cursors = map (outdated_cursor qs change.outdater store.seq) x.cursors })
          (λ x g. record {
            cursors = all_mapped IsSayableCursor IsSayableCursor (outdated_cursor qs change.outdater store.seq)
                (λ c h. record {
                  name = h.name;
                  query = h.query;
                  position = position_outdated (outdater_of qs change.outdater c.query) store.seq c.position
                      (named qs c.query) said.seq h.position;
                }) x.cursors g.cursors;
            watches = g.watches;
            batch = g.batch;
          }) old.sessions k.sessions;
    }

change_kept : (old : State) (s : ℕ) (outcome : RowsOutcome) (store : Store) (reply : Bytes) (e : Effect) (new : State)
    → ChangeStep old s outcome store reply e new → IsSayableState (changed old (tried outcome) store)
    → IsSayableState new
change_kept old s outcome store reply e new h k =
    subst IsSayableState (sym h.state)
    (change_keeps (λ (m : Telling). IsSayableState m.state) (λ m t text there g. g)
    (λ m t text cause may there g. ends_kept m.state t cause (with_session m.state t (ended_by cause)) refl g)
    old s outcome store reply e new h k)

-- ---- what a turn makes of a session

watch_said : (q : Bytes) (ws : List Bytes) (b : Bool) → IsName q → All IsName ws → All IsName (cond b ws (ws ++ q ∷ []))
watch_said q ws true named h = h
watch_said q ws false named h = All-push IsName ws q h named

abbrev IsSayableTurn : Turn → Type 0
IsSayableTurn (opens_cursor c q) = IsName c × IsName q
IsSayableTurn (moves_cursor c) = Unit {0}
IsSayableTurn (closes_cursor c) = Unit {0}
IsSayableTurn (starts_watching q) = IsName q
IsSayableTurn (stops_watching q) = Unit {0}
IsSayableTurn opens_batch = Unit {0}
IsSayableTurn (holds_line l verb name row) = IsName name × IsSayableRow row
IsSayableTurn closes_batch = Unit {0}

turned_kept : (old : State) (s : ℕ) (x : Session) (t : Turn) (new : State) → session_of old s ≡ Some x
    → IsSayableTurn t → SessionTurned old s x t new → IsSayableState old → IsSayableState new
turned_kept old s x (opens_cursor c q) new found said h k =
    session_kept old new s (with_cursor c q) h.2 (λ y g. record {
      cursors = All-push IsSayableCursor y.cursors (record { name = c; query = q; position = open_at [] false })
          g.cursors
          (record { name = said.0; query = said.1; position = All-nil IsSayableRow });
      watches = g.watches;
      batch = g.batch;
    }) k
turned_kept old s x (moves_cursor c) new found said h k =
    let position = open_at (h.given ++ h.told) h.end in
    let session = all_found IsSayableSession (λ (y : Session). y.id == s) old.sessions x k.sessions found in
    let cursor = all_found IsSayableCursor (λ (z : Cursor). bytes_eq z.name c) x.cursors h.cursor session.cursors h.is
    in
    let given : All IsSayableRow h.given = subst IsSayablePosition h.stands cursor.position in
    let query = all_found IsSayableListed (λ (p : Listed). bytes_eq (listed_name p) (h.cursor).query) old.store.queries
    h.query k.store.queries h.over in
    let told : All IsSayableRow h.told =
    All-weaker (AnswersOf old.store.relations h.query) IsSayableRow
    (λ t a. answer_sayable old.store.relations k.store.relations h.query query t a) h.told h.tells.answers in
    session_kept old new s (λ y. record y { cursors = with_position y.cursors c position }) h.state (λ y g. record {
      cursors = all_changed IsSayableCursor (λ (z : Cursor). bytes_eq z.name c)
          (λ (z : Cursor). record z { position = position }) y.cursors g.cursors
          (λ z at was. record {
            name = was.name;
            query = was.query;
            position = All-append IsSayableRow h.given h.told given told;
          });
      watches = g.watches;
      batch = g.batch;
    }) k
turned_kept old s x (closes_cursor c) new found said h k =
    session_kept old new s (without_cursor c) h (λ y g. record {
      cursors = all_dropped IsSayableCursor (λ (d : Cursor). bytes_eq d.name c) y.cursors g.cursors;
      watches = g.watches;
      batch = g.batch;
    }) k
turned_kept old s x (starts_watching q) new found said h k =
    session_kept old new s (with_watch q) h.1 (λ y g. record {
      cursors = g.cursors;
      watches = watch_said q y.watches (is_watching q y) said g.watches;
      batch = g.batch;
    }) k
turned_kept old s x (stops_watching q) new found said h k =
    session_kept old new s (without_watch q) h (λ y g. record {
      cursors = g.cursors;
      watches = all_dropped IsName (λ w. bytes_eq w q) y.watches g.watches;
      batch = g.batch;
    }) k
turned_kept old s x opens_batch new found said h k =
    session_kept old new s (with_batch nothing_held) h
    (λ y g. record { cursors = g.cursors; watches = g.watches; batch = All-nil IsSayableHeld }) k
turned_kept old s x (holds_line l verb name row) new found said h k =
    let more : HeldLine = record { verb = verb; relation = name; row = row } in
    let session = all_found IsSayableSession (λ (y : Session). y.id == s) old.sessions x k.sessions found in
    let held : All IsSayableHeld (h.held).lines = subst HoldsSayable h.is session.batch in
    session_kept old new s (with_batch (holding h.held verb name row l)) h.state
    (λ y g. record {
      cursors = g.cursors;
      watches = g.watches;
      batch = All-push IsSayableHeld (h.held).lines more held (record { relation = said.0; row = said.1 });
    }) k
turned_kept old s x closes_batch new found said h k =
    session_kept old new s without_batch h (λ y g. record { cursors = g.cursors; watches = g.watches; batch = tt }) k

turn_kept : (old : State) (s : ℕ) (x : Session) (t : Turn) (new : State) → session_of old s ≡ Some x
    → IsSayableTurn t → DoesTurn old s x t new → IsSayableState old → IsSayableState new
turn_kept old s x t new found said (is_turned h) k = turned_kept old s x t new found said h k
turn_kept old s x t new found said (is_refused r) k = replied_kept s old new r k

-- ---- commands

-- `add`, `del` and `done`, by the session's batch
add_kept : (old : State) (s : ℕ) (x : Session) (l name : Bytes) (row : Tuple) (e : Effect) (new : State)
    (batch : Option HeldTransaction) → x.batch ≡ batch
    → MatchOption batch (AddStep old s name row e new) (λ held. HoldStep old s held l Adds name row e new)
    → IsName name × IsSayableRow row → IsSayableState old → session_of old s ≡ Some x → IsSayableState new
add_kept old s x l name row e new None is h said k found =
    let change = row_in old.store.relations name row in
    let outcome = add_outcome change h.result in
    change_kept old s outcome h.store _ e new h.change
    (changed_kept old (tried outcome) h.store
    (add_named change (λ qs q. relation_named name said.0 qs q) h.result)
    (add_sayable old.store name row h.result h.store h.done said.1 k.store) k)
add_kept old s x l name row e new (Some held) is h said k found =
    turn_kept old s x (holds_line l Adds name row) new found said
    (line_held old s x held l Adds name row e new is h).1 k

delete_kept : (old : State) (s : ℕ) (x : Session) (l name : Bytes) (row : Tuple) (e : Effect) (new : State)
    (batch : Option HeldTransaction) → x.batch ≡ batch
    → MatchOption batch (DeleteStep old s name row e new) (λ held. HoldStep old s held l Deletes name row e new)
    → IsName name × IsSayableRow row → IsSayableState old → session_of old s ≡ Some x → IsSayableState new
delete_kept old s x l name row e new None is h said k found =
    let change = row_out old.store.relations name row in
    let outcome = delete_outcome change h.result in
    change_kept old s outcome h.store _ e new h.change
    (changed_kept old (tried outcome) h.store
    (del_named change (λ qs q. relation_named name said.0 qs q) h.result)
    (del_sayable old.store name row h.result h.store h.done k.store) k)
delete_kept old s x l name row e new (Some held) is h said k found =
    turn_kept old s x (holds_line l Deletes name row) new found said
    (line_held old s x held l Deletes name row e new is h).1 k

done_kept : (old : State) (s : ℕ) (x : Session) (given : Option ℕ) (e : Effect) (new : State)
    (batch : Option HeldTransaction)
    → x.batch ≡ batch → MatchOption batch ⊥ (λ held. DoneStep old s held given e new) → IsSayableState old
    → session_of old s ≡ Some x → IsSayableState new
done_kept old s x given e new None is h k found = absurd h
done_kept old s x given e new (Some held) is h k found =
    let session = all_found IsSayableSession (λ (y : Session). y.id == s) old.sessions x k.sessions found in
    let said : All IsSayableHeld held.lines = subst HoldsSayable is session.batch in
    let begun = with_session old s without_batch in
    let outcome = lines_outcome old.store.relations held.lines h.result in
    change_kept begun s outcome h.store _ e new h.change
    (changed_kept begun (tried outcome) h.store (outcome_named old.store.relations held.lines said h.result)
    (done_sayable old.store held.lines given h.result h.store h.done said k.store)
    (session_kept old begun s without_batch refl
    (λ y g. record { cursors = g.cursors; watches = g.watches; batch = tt }) k))

command_kept : (old : State) (s : ℕ) (x : Session) (l : Bytes) (c : Command) (e : Effect) (new : State)
    → reading_of l ≡ says_command c → CommandStep old s x l c e new → IsSayableCommand c → IsSayableState old
    → session_of old s ≡ Some x
    → IsSayableState new
command_kept old s x l (Rel name types) e new is h said k found =
    store_kept old h.store new h.state (rel_sayable old.store name types h.result h.store h.done said k.store) k
command_kept old s x l (Register q) e new is (inl h) said k found =
    store_kept old h.store new h.state (query_sayable old.store q h.result h.store h.done said k.store) k
command_kept old s x l (Register q) e new is (inr h) said k found =
    ends_kept (record old { store = h.store }) s Memory new h.ends.1
    (store_kept old h.store (record old { store = h.store }) refl
    (query_sayable old.store q h.result h.store h.done said k.store) k)
command_kept old s x l (Union name members) e new is h said k found =
    store_kept old h.store new h.state (union_sayable old.store name members h.result h.store h.done said.0 k.store) k
command_kept old s x l (Drop q) e new is h said k found =
    store_kept old h.store new h.state
    (drop_sayable old.store (list_any (uses q) old.sessions) q h.result h.store h.done k.store) k
command_kept old s x l (Add name row) e new is h said k found =
    add_kept old s x l name row e new x.batch refl h said k found
command_kept old s x l (Del name row) e new is h said k found =
    delete_kept old s x l name row e new x.batch refl h said k found
command_kept old s x l (Open c q) e new is h said k found =
    turn_kept old s x (opens_cursor c q) new found said (command_does old s x l (Open c q) e new is h).1 k
command_kept old s x l (Next c count) e new is h said k found =
    turn_kept old s x (moves_cursor c) new found tt (command_does old s x l (Next c count) e new is h).1 k
command_kept old s x l (Close c) e new is h said k found =
    turn_kept old s x (closes_cursor c) new found tt (command_does old s x l (Close c) e new is h).1 k
command_kept old s x l (Watch q) e new is h said k found =
    turn_kept old s x (starts_watching q) new found said (command_does old s x l (Watch q) e new is h).1 k
command_kept old s x l (Unwatch q) e new is h said k found =
    turn_kept old s x (stops_watching q) new found tt (command_does old s x l (Unwatch q) e new is h).1 k
command_kept old s x l (Has q row) e new is h said k found =
    replied_kept s old new (command_does old s x l (Has q row) e new is h).1 k
command_kept old s x l (Explain q) e new is h said k found =
    replied_kept s old new (command_does old s x l (Explain q) e new is h).1 k
command_kept old s x l (Shape q) e new is h said k found =
    replied_kept s old new (command_does old s x l (Shape q) e new is h).1 k
command_kept old s x l Batch e new is h said k found =
    turn_kept old s x opens_batch new found tt (command_does old s x l Batch e new is h).1 k
command_kept old s x l (Done given) e new is h said k found = done_kept old s x given e new x.batch refl h k found
command_kept old s x l Abandon e new is h said k found =
    turn_kept old s x closes_batch new found tt (command_does old s x l Abandon e new is h).1 k
command_kept old s x l Quit e new is h said k found = ends_kept old s _ new h.1 k
command_kept old s x l Stop e new is h said k found =
    ends_kept (record old { stopped = true }) s _ new h.1
    (record { store = k.store; sessions = k.sessions })

-- ---- the front of a session's bytes

read_kept : (old : State) (s : ℕ) (x : Session) (l : Bytes) (e : Effect) (new : State) → session_of old s ≡ Some x
    → ReadStep old s x l (reading_of l) e new → IsSayableState old → IsSayableState new
read_kept old s x l e new found h k = by (line_reads old s x l (reading_of l) e new h)
  where
    by : Reads old s x l (reading_of l) e new → IsSayableState new
    by (turned_down why because d) = same_kept old new d.1 k
    by (carried_out c is d) = command_kept old s x l c e new is d (read_sayable l c is) k found

without_line_kept : (old : State) (s : ℕ) (rest : Bytes) → IsSayableState old
    → IsSayableState (with_session old s (behind_line rest))
without_line_kept old s rest k =
    others_stay old (with_session old s (behind_line rest)) s (behind_line rest) (λ x. refl) (λ x. refl) (λ x. refl)
    refl k

pub front_kept : (old : State) (s : ℕ) (x : Session) (outcome : LineOutcome) (e : Effect) (new : State)
    → session_of old s ≡ Some x → FrontStep old s x outcome e new → IsSayableState old → IsSayableState new
front_kept old s x long e new found h k = ends_kept old s _ new h.1.1 k
front_kept old s x (blank l) e new found h k =
    same_kept (with_session old s (behind_line h.1.rest)) new h.1.then.1 (without_line_kept old s h.1.rest k)
front_kept old s x (slow l) e new found h k =
    ends_kept (with_session old s (behind_line h.2.rest)) s _ new h.2.then.1 (without_line_kept old s h.2.rest k)
front_kept old s x (no_room l) e new found h k =
    ends_kept (with_session old s (behind_line h.2.rest)) s _ new h.2.then.1 (without_line_kept old s h.2.rest k)
front_kept old s x (run l) e new found h k =
    let rest = h.2.rest in
    let here : session_of (with_session old s (behind_line rest)) s ≡ Some (behind_line rest x) =
    session_changed old s (behind_line rest) (λ y. refl) ∙ ap (λ o. option_map (behind_line rest) o) found in
    read_kept (with_session old s (behind_line rest)) s (behind_line rest x) l e new here h.2.then
    (without_line_kept old s rest k)

-- ---- the events

opened_kept : (old mid : State) (s : ℕ)
    → ((length old.sessions < SESSIONS) × (mid ≡ record old { sessions = old.sessions ++ fresh s ∷ [] })) ⊎ (mid ≡ old)
    → IsSayableState old → IsSayableState mid
opened_kept old mid s (inl h) k =
    subst IsSayableState (sym h.1) (record {
      store = k.store;
      sessions = All-push IsSayableSession old.sessions (fresh s) k.sessions
          (record { cursors = All-nil IsSayableCursor; watches = All-nil IsName; batch = tt });
    })
opened_kept old mid s (inr h) k = same_kept old mid h k

fed_kept : (old : State) (s : ℕ) (bytes : Bytes) (e : Effect) (mid : State) (c : Option EndCause)
    → MatchOption c
    (((e ≡ nothing) × (mid ≡ with_session old s (λ y. record y { held = y.held ++ bytes }))) ⊎ EndsWith end_memory
    Memory old s e mid)
    (λ _. (e ≡ nothing) × (mid ≡ old))
    → IsSayableState old → IsSayableState mid
fed_kept old s bytes e mid None (inl h) k =
    others_stay old mid s (λ y. record y { held = y.held ++ bytes }) (λ x. refl) (λ x. refl) (λ x. refl) h.1 k
fed_kept old s bytes e mid None (inr h) k = ends_kept old s Memory mid h.1 k
fed_kept old s bytes e mid (Some c) h k = same_kept old mid h.1 k

input_kept : (old mid : State) (s : ℕ) (P Q R : Type 0) (c : Option EndCause)
    → MatchOption c (P × Q × (mid ≡ with_session old s (ended_by Input))) (λ _. R × (mid ≡ old)) → IsSayableState old
    → IsSayableState mid
input_kept old mid s P Q R None h k = ends_kept old s Input mid h.2 k
input_kept old mid s P Q R (Some c) h k = same_kept old mid h.1 k

pub acts_kept : (old : State) (event : Event) (e : Effect) (mid : State) → Acts old event e mid → IsSayableState old
    → IsSayableState mid
acts_kept old (opened s) e mid h k = opened_kept old mid s h.2 k
acts_kept old (fed s bytes) e mid h k =
    let f = some_there (session_of old s) (λ x. FedStep old s bytes x e mid) h in
    fed_kept old s bytes e mid (f.0).cause f.2 k
acts_kept old (stepped s outcome) e mid h k =
    let f = some_there (session_of old s) (λ x. (x.cause ≡ None) × FrontStep old s x outcome e mid) h in
    front_kept old s f.0 outcome e mid f.1 f.2.1 k
acts_kept old (took s bytes) e mid h k =
    let f = some_there (session_of old s) (λ x. TookStep old s bytes x e mid) h in
    others_stay old mid s (λ y. record y { pending = f.2.1.0 }) (λ x. refl) (λ x. refl) (λ x. refl) f.2.1.2 k
acts_kept old (ended s) e mid h k =
    let f = some_there (session_of old s) (λ x. EndedStep old s x e mid) h in
    input_kept old mid s _ _ _ (f.0).cause f.2 k
acts_kept old (closed s bytes) e mid h k =
    subst IsSayableState (sym h.2) (record {
      store = k.store;
      sessions = All-filter (λ (x : Session). not (x.id == s)) IsSayableSession old.sessions k.sessions;
    })

queued_kept : (st : State) (qs : List (ℕ × Bytes)) → IsSayableState st → IsSayableState (queue_all st qs)
queued_kept st [] k = k
queued_kept st (q ∷ qs) k =
    queued_kept (queue st q) qs
    (others_stay st (queue st q) q.0 (λ x. record x { pending = x.pending ++ q.1 }) (λ x. refl) (λ x. refl) (λ x. refl)
    refl k)

pub step_sayable : (old : State) (event : Event) (e : Effect) (new : State) → Step old event e new → IsSayableState old
    → IsSayableState new
step_sayable old event e new h k =
    let acted = acts_kept old event e h.mid h.acts k in
    let moved : IsSayableState (with_relations h.mid h.relations) = record {
      store = moved_store_sayable h.mid.store h.relations h.reordered acted.store;
      sessions = acted.sessions;
    } in
    subst IsSayableState (sym h.queued) (queued_kept (with_relations h.mid h.relations) e.queued moved)

pub runs_keep_sayable : RunsKeepSayable
runs_keep_sayable old done new w k =
    walk_keeps (λ (o : State) (d : Did) (n : State). Step o d.event d.effect n) IsSayableState
    (λ o d n h. step_sayable o d.event d.effect n h) old done new w k

pub opening_is_sayable : OpeningIsSayable
opening_is_sayable = record {
  store = record {
    relations = All-nil IsSayableRelation;
    texts = All-nil IsSayableText;
    queries = All-nil IsSayableListed;
    seq = omega arith;
  };
  sessions = All-nil IsSayableSession;
}

pub start_sayable : (start : State) → IsStart start → IsSayableStore start.store → IsSayableState start
start_sayable start h said = record {
  store = said;
  sessions = subst (λ (xs : List Session). All IsSayableSession xs) (sym h.none) (All-nil IsSayableSession);
}

pub states_are_sayable : StatesAreSayable
states_are_sayable start h said done new w = runs_keep_sayable start done new w (start_sayable start h said)

-- ---- Lines that are loaded keep to what lines can say, in batches too.

-- The store is such, and the lines that the batch holds.
record IsSayableLoading (l : Loading) : Type 0 where
  store : IsSayableStore l.store
  batch : HoldsSayable l.batch

same_loading : (old new : Loading) → new ≡ old → IsSayableLoading old → IsSayableLoading new
same_loading old new e k = subst IsSayableLoading (sym e) k

store_loads : (old : Store) (c : Command) (how : Loaded) (new : Store) → StoreLoads old c how new → IsSayableCommand c
    → IsSayableStore old → IsSayableStore new
store_loads old (Rel name types) how new h said k = rel_sayable old name types h.0 new h.1 said k
store_loads old (Add name row) how new h said k = add_sayable old name row h.0 new h.1 said.1 k
store_loads old (Del name row) how new h said k = del_sayable old name row h.0 new h.1 k
store_loads old (Register q) how new h said k = query_sayable old q h.0 new h.1 said k
store_loads old (Union name members) how new h said k = union_sayable old name members h.0 new h.1 said.0 k
store_loads old (Drop q) how new h said k = drop_sayable old _ q h.0 new h.1 k
store_loads old c how new h said k = subst IsSayableStore (sym h.1) k

unbatched : (new : Loading) → IsSayableStore new.store → new.batch ≡ None → IsSayableLoading new
unbatched new k none = record {
  store = k;
  batch = subst HoldsSayable (sym none) tt;
}

held_loads : (old : Loading) (held : HeldTransaction) (l : Bytes) (verb : Verb) (name : Bytes) (row : Tuple)
    (r : Result ⊤ Refusal) (new : Loading)
    → HoldsLoaded old held l verb name row r new → IsName name × IsSayableRow row → All IsSayableHeld held.lines
    → IsSayableLoading old → IsSayableLoading new
held_loads old held l verb name row (Ok u) new h said all k =
    same_loading (record old { batch = Some (holding held verb name row l) }) new h (record {
      store = k.store;
      batch = All-push IsSayableHeld held.lines (record { verb = verb; relation = name; row = row }) all
          (record { relation = said.0; row = said.1 });
    })
held_loads old held l verb name row (Err r) new h said all k = same_loading old new h k

command_loads : (st : Store) (batch : Option HeldTransaction) (l : Bytes) (c : Command) (how : Loaded) (new : Loading)
    → CommandLoads (record { store = st; batch = batch }) l c how new → IsSayableCommand c
    → IsSayableLoading (record { store = st; batch = batch }) → IsSayableLoading new
command_loads st None l Batch how new (inl h) said k =
    same_loading (record { store = st; batch = Some nothing_held }) new h.1
    (record { store = k.store; batch = All-nil IsSayableHeld })
command_loads st None l Batch how new (inr h) said k = same_loading (record { store = st; batch = None }) new h.1 k
command_loads st None l c how new h said k = unbatched new (store_loads st c how new.store h.0 said k.store) h.1
command_loads st (Some held) l (Add name row) how new h said k =
    held_loads (record { store = st; batch = Some held }) held l Adds name row h.0 new h.3 said k.batch k
command_loads st (Some held) l (Del name row) how new h said k =
    held_loads (record { store = st; batch = Some held }) held l Deletes name row h.0 new h.3 said k.batch k
command_loads st (Some held) l (Done given) how new h said k =
    unbatched new (done_sayable st held.lines given h.0 new.store h.1 k.batch k.store) h.3
command_loads st (Some held) l Abandon how new h said k =
    same_loading (record { store = st; batch = None }) new h.1 (record { store = k.store; batch = tt })
command_loads st (Some held) l c how new h said k = same_loading (record { store = st; batch = Some held }) new h.1 k

reading_loads : (old : Loading) (l : Bytes) (r : Reading) (how : Loaded) (new : Loading) → reading_of l ≡ r
    → ReadingLoads old l r how new → IsSayableLoading old → IsSayableLoading new
reading_loads old l outside how new is h k = same_loading old new h.1 k
reading_loads old l (past_limit c) how new is h k = same_loading old new h.1 k
reading_loads old l (says_command c) how new is (inl h) k =
    command_loads old.store old.batch l c how new h (read_sayable l c is) k
reading_loads old l (says_command c) how new is (inr h) k = same_loading old new h.3 k

load_sayable : (old : Loading) (l : Bytes) (how : Loaded) (new : Loading) → LoadStep old l how new
    → IsSayableLoading old
    → IsSayableLoading new
load_sayable old l how new h k =
    let acted = reading_loads old l (reading_of l) how h.mid refl h.loads k in
    same_loading (record (h.mid) { store = record (h.mid).store { relations = h.relations } }) new h.after (record {
      store = moved_store_sayable (h.mid).store h.relations h.reordered acted.store;
      batch = acted.batch;
    })

pub loaded_are_sayable : LoadedAreSayable
loaded_are_sayable lines st w =
    (walk_keeps (λ (old : Loading) (l : Bytes) (new : Loading). LoadStep old l ran new) IsSayableLoading
    (λ old l new h. load_sayable old l ran new h) (loading opening.store) lines (loading st) w
    (record { store = opening_is_sayable.store; batch = tt })).store
