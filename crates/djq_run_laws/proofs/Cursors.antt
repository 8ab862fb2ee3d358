-- What open cursors have given, along any run.
use Rattle.std.specs.Prelude.{ℕ, List, [], ◌∷◌, ◌==◌, ◌≡◌, ◌<◌, ◌+◌, ◌++◌, ◌⊎◌, Bool, true, false, not, cond, length}
use Rattle.std.specs.Prelude.{Option, None, Some, IsSome, MatchOption, option_map, map, All}
use Rattle.std.specs.List.{list_any, slice_index_or}
use Rattle.std.proofs.Common.{refl, sym, ap, ◌∙◌, subst, inl, inr, arith}
use Rattle.std.proofs.lemmas.List.Elements.{All-nil, All-append, All-push, All-weaker, All-filter}
use Rattle.std.proofs.lemmas.Bool.{or_parts}
use Rattle.djq_model.specs.declared.relation.Relation.{Relation}
use Rattle.djq_model.specs.Data.{Bytes, Tuple, bytes_eq, drop_first}
use Rattle.djq_model.specs.Listed.{Listed, listed_name, AnswersOf, listed_of}
use Rattle.djq_protocol.specs.declared.answer.EndCause.{EndCause}
use Rattle.djq_protocol.specs.declared.answer.EndCause.TheVariants.{Input, Memory}
use Rattle.djq_protocol.specs.declared.limits.TheConstants.{SESSIONS}
use Rattle.djq_protocol.specs.Grammar.{reading_of}
use Rattle.djq_protocol.specs.Reply.{end_memory}
use Rattle.djq_store_spec.specs.Store.{Store, Position, open_at, stale}
use Rattle.djq_store_spec.specs.Listing.{TellsAnswers}
use Rattle.djq_store_spec.specs.Stale.{outdated, outdater_of}
use Rattle.djq_store_spec.specs.Changes.{RowsOutcome, accepted, out_of_memory, unchanged, tried}
use Rattle.djq_answer_laws.proofs.Lists.{some_there}
use Rattle.djq_answer_laws.proofs.Choices.{none_any}
use Rattle.djq_store_spec.specs.Held.{nothing_held, holding}
use Rattle.djq_machine.specs.State.{State, Session, Cursor, fresh, session_of, with_session, cursor_of, with_position}
use Rattle.djq_machine.specs.State.{ended_by}
use Rattle.djq_machine.specs.Outdating.{outdated_cursor, outdated_sessions, changed}
use Rattle.djq_machine.specs.Watch.{Telling, ChangeStep}
use Rattle.djq_machine.specs.Effect.{Effect, nothing, EndsWith, queue_all, queue}
use Rattle.djq_machine.specs.Command.{uses, with_cursor, with_watch, without_watch, with_batch, without_batch}
use Rattle.djq_machine.specs.LineStep.{LineOutcome, long, blank, slow, no_room, run, ReadStep, FrontStep, behind_line}
use Rattle.djq_machine.specs.Step.{Event, opened, fed, stepped, took, ended, closed, FedStep, TookStep, EndedStep, Acts}
use Rattle.djq_machine.specs.Step.{with_relations, Step}
use Rattle.djq_machine.specs.Run.{Did}
use Rattle.djq_machine.specs.Gives.{Gives, PositionGives, CursorsGive}
use Rattle.djq_machine.proofs.Relations.{walk_keeps}
use Rattle.djq_run_laws.specs.Given.{RunsGive}
use Rattle.djq_run_laws.specs.Form.{form_of, Form, asking, storing, turning, changing, ending, Turn, opens_cursor}
use Rattle.djq_run_laws.specs.Form.{moves_cursor, closes_cursor, starts_watching, stops_watching, opens_batch}
use Rattle.djq_run_laws.specs.Form.{holds_line, closes_batch, RowCommand, Replied, is_whole, is_cut, Stored}
use Rattle.djq_run_laws.specs.Form.{learns_texts, makes_relation, registers, drops_query, in_use, CursorMoves}
use Rattle.djq_run_laws.specs.Form.{without_cursor, SessionTurned, DoesTurn, is_turned, is_refused, FormDoes}
use Rattle.djq_run_laws.proofs.Lists.{find_dropped, change_keeps, session_changed, all_changed, all_found, all_dropped}
use Rattle.djq_run_laws.proofs.Lists.{all_mapped}
use Rattle.djq_run_laws.proofs.Forms.{command_does, Reads, turned_down, carried_out, line_reads}
use Rattle.djq_run_laws.proofs.RowCommands.{RowsMade}
use Rattle.djq_run_laws.proofs.Batches.{closing, begun, closing_cursors, rows_do}
use Rattle.djq_run_laws.proofs.RegisteredQueries.{SameAnswers, gives_kept, rows_same, new_relation_same, reordered_same}
use Rattle.djq_run_laws.proofs.RegisteredQueries.{apart_from}

-- a cursor gives what it should, over these relations and queries
abbrev pub CursorGives : List Relation → List Listed → Cursor → Type 0
CursorGives rs qs c = PositionGives rs (listed_of qs c.query) c.position

abbrev pub SessionGives : List Relation → List Listed → Session → Type 0
SessionGives rs qs x = All (CursorGives rs qs) x.cursors

abbrev pub SessionsGive : List Relation → List Listed → List Session → Type 0
SessionsGive rs qs xs = All (SessionGives rs qs) xs

-- A position gives over other relations where the queries have the same answers.
position_kept : (rs rs' : List Relation) (o : Option Listed) (p : Position) → ((q : Listed) → SameAnswers rs rs' q)
    → PositionGives rs o p → PositionGives rs' o p
position_kept rs rs' None (open_at given finished) same h = h
position_kept rs rs' (Some q) (open_at given finished) same h = gives_kept rs rs' q given finished (same q) h
position_kept rs rs' o (stale r n) same h = tt

relations_give : (rs rs' : List Relation) (qs : List Listed) (xs : List Session) → ((q : Listed) → SameAnswers rs rs' q)
    → SessionsGive rs qs xs → SessionsGive rs' qs xs
relations_give rs rs' qs xs same h =
    All-weaker (SessionGives rs qs) (SessionGives rs' qs)
    (λ x g. All-weaker (CursorGives rs qs) (CursorGives rs' qs)
    (λ c k. position_kept rs rs' (listed_of qs c.query) c.position same k) x.cursors g) xs h

-- A query that is registered changes no name's meaning.
position_registered : (rs : List Relation) (o p : Option Listed) (position : Position)
    → ((q : Listed) → o ≡ Some q → p ≡ Some q) → PositionGives rs o position → PositionGives rs p position
position_registered rs None p (open_at given finished) same h = absurd h
position_registered rs (Some q) p (open_at given finished) same h = let e = same q refl in rw e h
position_registered rs o p (stale r n) same h = tt

pub found_in_front : (qs : List Listed) (q : Listed) (name : Bytes) (found : Listed) → listed_of qs name ≡ Some found
    → listed_of (qs ++ q ∷ []) name ≡ Some found
found_in_front [] q name found e = absurd cc
found_in_front (r ∷ qs) q name found e = at_first (bytes_eq (listed_name r) name) e
    (λ k. found_in_front qs q name found k)
  where
    at_first : (b : Bool) → cond b (Some r) (listed_of qs name) ≡ Some found
        → (listed_of qs name ≡ Some found → listed_of (qs ++ q ∷ []) name ≡ Some found)
        → cond b (Some r) (listed_of (qs ++ q ∷ []) name) ≡ Some found
    at_first true k rest = k
    at_first false k rest = rest k

registered_give : (rs : List Relation) (qs : List Listed) (q : Listed) (xs : List Session) → SessionsGive rs qs xs
    → SessionsGive rs (qs ++ q ∷ []) xs
registered_give rs qs q xs h =
    All-weaker (SessionGives rs qs) (SessionGives rs (qs ++ q ∷ []))
    (λ x g. All-weaker (CursorGives rs qs) (CursorGives rs (qs ++ q ∷ []))
    (λ c k. position_registered rs (listed_of qs c.query) (listed_of (qs ++ q ∷ []) c.query) c.position
    (λ f e. found_in_front qs q c.query f e) k) x.cursors g) xs h

-- the relation that outdates a query, where there is the query
abbrev outdater_at : (Listed → Option Bytes) → Option Listed → Option Bytes
outdater_at outdater None = None
outdater_at outdater (Some q) = outdater q

-- After a change the cursors over what it outdates are stale, and the other queries have the same answers.
position_outdated : (rs rs' : List Relation) (o : Option Listed) (p : Position) (outdater : Listed → Option Bytes)
    (n : ℕ) (b : Option Bytes) → outdater_at outdater o ≡ b
    → ((q : Listed) → outdater q ≡ None → SameAnswers rs rs' q) → PositionGives rs o p
    → PositionGives rs' o (outdated b n p)
position_outdated rs rs' o (stale r m) outdater n None e same h = tt
position_outdated rs rs' o (stale r m) outdater n (Some relation) e same h = tt
position_outdated rs rs' o (open_at given finished) outdater n (Some relation) e same h = tt
position_outdated rs rs' None (open_at given finished) outdater n None e same h = h
position_outdated rs rs' (Some q) (open_at given finished) outdater n None e same h = gives_kept rs rs' q given finished
    (same q e) h

outdated_give : (rs rs' : List Relation) (qs : List Listed) (outdater : Listed → Option Bytes) (n : ℕ)
    (xs : List Session)
    → ((q : Listed) → outdater q ≡ None → SameAnswers rs rs' q) → SessionsGive rs qs xs
    → SessionsGive rs' qs (outdated_sessions qs outdater n xs)
outdated_give rs rs' qs outdater n xs same h =
    all_mapped (SessionGives rs qs) (SessionGives rs' qs)
    (λ (x : Session). record x { cursors = map (outdated_cursor qs outdater n) x.cursors })
    (λ x g. all_mapped (CursorGives rs qs) (CursorGives rs' qs) (outdated_cursor qs outdater n)
    (λ c k. position_outdated rs rs' (listed_of qs c.query) c.position outdater n (outdater_of qs outdater c.query) refl
    same k) x.cursors g) xs h

pub same_itself : (rs : List Relation) (q : Listed) → SameAnswers rs rs q
same_itself rs q = record { there = λ t h. h; back = λ t h. h }

-- A session that is changed, where the change keeps what its cursors give.
session_gives : (old new : State) (s : ℕ) (f : Session → Session) → new ≡ with_session old s f
    → ((x : Session) → session_of old s ≡ Some x → SessionGives old.store.relations old.store.queries x
    → SessionGives old.store.relations old.store.queries (f x))
    → CursorsGive old → CursorsGive new
session_gives old new s f after keeps h =
    subst CursorsGive (sym after)
    (all_changed (SessionGives old.store.relations old.store.queries) (λ (x : Session). x.id == s) f old.sessions h
    keeps)

same_gives : (old new : State) → new ≡ old → CursorsGive old → CursorsGive new
same_gives old new e h = subst CursorsGive (sym e) h

-- The commands.
-- What a command of rows makes of it, behind which cursors are stale or not.
made_gives : (c : RowCommand) (old : State) (o : RowsOutcome) (store : Store)
    → RowsMade c old.store o store → CursorsGive old → CursorsGive (changed old (tried o) store)
made_gives c old (accepted change) store h g =
    subst (λ (st : Store). CursorsGive (changed old (Some change) st)) (sym h.store)
    (outdated_give old.store.relations change.after old.store.queries change.outdater (old.store.seq + 1) old.sessions
    h.spares g)
made_gives c old (out_of_memory change) store h g =
    let rs = old.store.relations in
    subst (λ (st : Store). CursorsGive (changed old (Some change) st)) (sym h.store)
    (outdated_give rs rs old.store.queries change.outdater old.store.seq old.sessions (λ q apart. same_itself rs q) g)
made_gives c old unchanged store h g =
    subst (λ (st : Store). CursorsGive (record old { store = st })) (sym h.store)
    (relations_give old.store.relations h.relations old.store.queries old.sessions
    (λ q. rows_same old.store.relations h.relations q h.same) g)

-- A query that no session uses is no cursor's.
pub dropped_query : (qs : List Listed) (name other : Bytes) → bytes_eq other name ≡ false
    → listed_of (drop_first (λ p. bytes_eq (listed_name p) name) qs) other ≡ listed_of qs other
dropped_query qs name other ne =
    find_dropped (λ (p : Listed). bytes_eq (listed_name p) name) (λ (p : Listed). bytes_eq (listed_name p) other)
    (λ p e. apart_from (listed_name p) name other (bytes_eq (listed_name p) other) refl ne e) qs

dropped_give : (rs : List Relation) (qs : List Listed) (q : Bytes) (xs : List Session) → list_any (uses q) xs ≡ false
    → SessionsGive rs qs xs → SessionsGive rs (drop_first (λ p. bytes_eq (listed_name p) q) qs) xs
dropped_give rs qs q xs none h = λ k d lt.
    let x = slice_index_or xs k d in
    let unused = (or_parts (list_any (λ (c : Cursor). bytes_eq c.query q) x.cursors)
    (list_any (λ w. bytes_eq w q) x.watches) (none_any (uses q) xs none k d lt)).0 in
    λ j e within.
    let c = slice_index_or x.cursors j e in
    subst (λ (o : Option Listed). PositionGives rs o c.position)
    (sym (dropped_query qs q c.query (none_any (λ (z : Cursor). bytes_eq z.query q) x.cursors unused j e within)))
    (h k d lt j e within)

-- What a command of the store makes of it.
stored_gives : (old : State) (store : Store) → Stored (in_use old) old.store store → CursorsGive old
    → CursorsGive (record old { store = store })
stored_gives old store (learns_texts h) g =
    subst (λ (st : Store). CursorsGive (record old { store = st })) (sym h.store) g
stored_gives old store (makes_relation name types may e) g =
    subst (λ (st : Store). CursorsGive (record old { store = st })) (sym e)
    (relations_give old.store.relations
    (old.store.relations ++ record { name = name; types = types; rows = [] } ∷ []) old.store.queries old.sessions
    (new_relation_same old.store.relations name types) g)
stored_gives old store (registers q none may place few e) g =
    subst (λ (st : Store). CursorsGive (record old { store = st })) (sym e)
    (registered_give old.store.relations old.store.queries q old.sessions g)
stored_gives old store (drops_query q unused free e) g =
    subst (λ (st : Store). CursorsGive (record old { store = st })) (sym e)
    (dropped_give old.store.relations old.store.queries q old.sessions unused g)

-- A cursor that opens has given nothing.
nothing_given : (rs : List Relation) (o : Option Listed) → IsSome o → PositionGives rs o (open_at [] false)
nothing_given rs None h = absurd cc
nothing_given rs (Some q) h = record {
  different = λ i j d lt in_range. absurd (omega arith);
  answers = All-nil (AnswersOf rs q);
  listing = λ e. absurd cc;
}

-- What `next` tells comes behind what was given.
told_gives : (Answer : Tuple → Type 0) (given : List Tuple) (finished : Bool) (count : ℕ) (told : List Tuple)
    (end : Bool)
    → Gives Answer given finished → TellsAnswers Answer given count told end → Gives Answer (given ++ told) end
told_gives Answer given finished count told end g t =
    let answers = All-append Answer given told g.answers t.answers in
    record {
      different = t.different;
      answers = answers;
      listing = λ e. record { different = t.different; answers = answers; complete = t.none_left e };
    }

ends_gives : (old : State) (s : ℕ) (cause : EndCause) (new : State) → new ≡ with_session old s (ended_by cause)
    → CursorsGive old → CursorsGive new
ends_gives old s cause new after g =
    session_gives old new s (ended_by cause) after
    (λ x found k. All-nil (CursorGives old.store.relations old.store.queries)) g

-- the cursor that is read, in the session that reads it
moved_gives : (rs : List Relation) (qs : List Listed) (cursors : List Cursor) (c : Bytes) (k : Cursor)
    (position : Position) → cursor_of cursors c ≡ Some k
    → PositionGives rs (listed_of qs k.query) position → All (CursorGives rs qs) cursors
    → All (CursorGives rs qs) (with_position cursors c position)
moved_gives rs qs cursors c k position found gives h =
    all_changed (CursorGives rs qs) (λ (z : Cursor). bytes_eq z.name c)
    (λ (z : Cursor). record z { position = position }) cursors h
    (λ z at old. let e : k
    ≡ z = same_found (cursor_of cursors c) k z found at in subst
    (λ (y : Cursor). PositionGives rs (listed_of qs y.query) position) e gives)
  where
    same_found : (o : Option Cursor) (y z : Cursor) → o ≡ Some y → o ≡ Some z → y ≡ z
    same_found o y z e f = cc

-- a session whose cursors stay
cursors_stay : (old new : State) (s : ℕ) (f : Session → Session) → ((x : Session) → (f x).cursors ≡ x.cursors)
    → new ≡ with_session old s f → CursorsGive old → CursorsGive new
cursors_stay old new s f same after g =
    session_gives old new s f after
    (λ x found k. subst (λ (cs : List Cursor). All (CursorGives old.store.relations old.store.queries) cs)
    (sym (same x)) k) g

-- What a turn makes of a session.
moves_give : (old : State) (s : ℕ) (x : Session) (c : Bytes) (new : State) → session_of old s ≡ Some x
    → CursorMoves old s x c new → CursorsGive old → CursorsGive new
moves_give old s x c new at h g =
    let session = all_found (SessionGives old.store.relations old.store.queries)
    (λ (y : Session). y.id == s) old.sessions x g at in
    let gave = all_found (CursorGives old.store.relations old.store.queries)
    (λ (z : Cursor). bytes_eq z.name c) x.cursors h.cursor session h.is in
    let before : Gives (AnswersOf old.store.relations h.query) h.given h.finished =
    held (listed_of old.store.queries (h.cursor).query) (h.cursor).position h.over h.stands gave in
    let after = told_gives (AnswersOf old.store.relations h.query) h.given h.finished h.count h.told h.end before
    h.tells in
    let position = open_at (h.given ++ h.told) h.end in
    let now : PositionGives old.store.relations (listed_of old.store.queries (h.cursor).query) position =
    subst (λ (o : Option Listed). PositionGives old.store.relations o position) (sym h.over) after in
    session_gives old new s (λ y. record y { cursors = with_position y.cursors c position }) h.state
    (λ y here cursors. let same : x ≡ y = same_found (session_of old s) x y at here in
    moved_gives old.store.relations old.store.queries y.cursors c h.cursor position
    (ap (λ (z : Session). cursor_of z.cursors c) (sym same) ∙ h.is) now cursors) g
  where
    same_found : (o : Option Session) (y z : Session) → o ≡ Some y → o ≡ Some z → y ≡ z
    same_found o y z e f = cc

    held : (o : Option Listed) (p : Position) → o ≡ Some h.query → p ≡ open_at h.given h.finished
        → PositionGives old.store.relations o p
        → Gives (AnswersOf old.store.relations h.query) h.given h.finished
    held o p over stands k =
        subst (λ (r : Position). PositionGives old.store.relations (Some h.query) r) stands
        (subst (λ (r : Option Listed). PositionGives old.store.relations r p) over k)

turned_gives : (old : State) (s : ℕ) (x : Session) (t : Turn) (new : State) → session_of old s ≡ Some x
    → SessionTurned old s x t new → CursorsGive old → CursorsGive new
turned_gives old s x (opens_cursor c q) new at h g =
    session_gives old new s (with_cursor c q) h.2
    (λ y found k. All-push (CursorGives old.store.relations old.store.queries) y.cursors
    (record { name = c; query = q; position = open_at [] false }) k
    (nothing_given old.store.relations (listed_of old.store.queries q) h.1)) g
turned_gives old s x (moves_cursor c) new at h g = moves_give old s x c new at h g
turned_gives old s x (closes_cursor c) new at h g =
    session_gives old new s (without_cursor c) h
    (λ y found k. all_dropped (CursorGives old.store.relations old.store.queries) (λ (z : Cursor). bytes_eq z.name c)
    y.cursors k) g
turned_gives old s x (starts_watching q) new at h g = cursors_stay old new s (with_watch q) (λ y. refl) h.1 g
turned_gives old s x (stops_watching q) new at h g = cursors_stay old new s (without_watch q) (λ y. refl) h g
turned_gives old s x opens_batch new at h g = cursors_stay old new s (with_batch nothing_held) (λ y. refl) h g
turned_gives old s x (holds_line l verb name row) new at h g =
    cursors_stay old new s (with_batch (holding h.held verb name row l)) (λ y. refl) h.state g
turned_gives old s x closes_batch new at h g = cursors_stay old new s without_batch (λ y. refl) h g

replied_gives : (s : ℕ) (mid new : State) → Replied s mid new → CursorsGive mid → CursorsGive new
replied_gives s mid new (is_whole after) g = same_gives mid new after g
replied_gives s mid new (is_cut after) g = ends_gives mid s Memory new after g

-- What a change tells ends sessions, and changes no cursor of the others.
change_gives : (old : State) (s : ℕ) (outcome : RowsOutcome) (store : Store) (reply : Bytes) (e : Effect) (new : State)
    → ChangeStep old s outcome store reply e new → CursorsGive (changed old (tried outcome) store) → CursorsGive new
change_gives old s outcome store reply e new h g =
    subst CursorsGive (sym h.state)
    (change_keeps (λ (m : Telling). CursorsGive m.state) (λ m t text there k. k)
    (λ m t text cause may there k. ends_gives m.state t cause (with_session m.state t (ended_by cause)) refl k)
    old s outcome store reply e new h g)

turn_gives : (old : State) (s : ℕ) (x : Session) (t : Turn) (new : State) → session_of old s ≡ Some x
    → DoesTurn old s x t new → CursorsGive old → CursorsGive new
turn_gives old s x t new found (is_turned h) g = turned_gives old s x t new found h g
turn_gives old s x t new found (is_refused r) g = replied_gives s old new r g

form_gives : (f : Form) (old : State) (s : ℕ) (x : Session) (e : Effect) (new : State) → session_of old s ≡ Some x
    → FormDoes f old s x e new → CursorsGive old → CursorsGive new
form_gives asking old s x e new found h g = replied_gives s old new h.1 g
form_gives storing old s x e new found h g =
    replied_gives s (record old { store = h.1.store }) new h.1.replied (stored_gives old h.1.store h.1.stored g)
form_gives (turning t) old s x e new found h g = turn_gives old s x t new found h.1 g
form_gives (changing c) old s x e new found h g =
    let d = rows_do old s c e new h in
    change_gives (begun old s c) s d.outcome d.store d.reply e new d.change
    (made_gives c (begun old s c) d.outcome d.store d.made
    (cursors_stay old (begun old s c) s (closing c) (closing_cursors c) refl g))
form_gives ending old s x e new found h g =
    ends_gives (record old { stopped = h.1.stopped }) s h.1.cause new h.1.state g

-- The front of a session's bytes.
read_gives : (old : State) (s : ℕ) (x : Session) (l : Bytes) (e : Effect) (new : State) → session_of old s ≡ Some x
    → ReadStep old s x l (reading_of l) e new → CursorsGive old → CursorsGive new
read_gives old s x l e new found h g = by (line_reads old s x l (reading_of l) e new h)
  where
    by : Reads old s x l (reading_of l) e new → CursorsGive new
    by (turned_down why because k) = same_gives old new k.1 g
    by (carried_out c is k) =
        form_gives (form_of x.batch l c) old s x e new found (command_does old s x l c e new is k) g

without_line_gives : (old : State) (s : ℕ) (rest : Bytes) → CursorsGive old
    → CursorsGive (with_session old s (behind_line rest))
without_line_gives old s rest g = cursors_stay old (with_session old s (behind_line rest)) s (behind_line rest)
    (λ x. refl) refl g

front_gives : (old : State) (s : ℕ) (x : Session) (outcome : LineOutcome) (e : Effect) (new : State) → session_of old s
    ≡ Some x → FrontStep old s x outcome e new → CursorsGive old → CursorsGive new
front_gives old s x long e new found h g = ends_gives old s _ new h.1.1 g
front_gives old s x (blank l) e new found h g = same_gives (with_session old s (behind_line h.1.rest)) new h.1.then.1
    (without_line_gives old s h.1.rest g)
front_gives old s x (slow l) e new found h g = ends_gives (with_session old s (behind_line h.2.rest)) s _ new h.2.then.1
    (without_line_gives old s h.2.rest g)
front_gives old s x (no_room l) e new found h g = ends_gives (with_session old s (behind_line h.2.rest)) s _ new
    h.2.then.1 (without_line_gives old s h.2.rest g)
front_gives old s x (run l) e new found h g =
    let rest = h.2.rest in
    let here : session_of (with_session old s (behind_line rest)) s ≡ Some (behind_line rest x) =
    session_changed old s (behind_line rest) (λ y. refl) ∙ ap (λ o. option_map (behind_line rest) o) found in
    read_gives (with_session old s (behind_line rest)) s (behind_line rest x) l e new here h.2.then
    (without_line_gives old s rest g)

-- The events.
opened_gives : (old mid : State) (s : ℕ)
    → ((length old.sessions < SESSIONS) × (mid ≡ record old { sessions = old.sessions ++ fresh s ∷ [] })) ⊎ (mid ≡ old)
    → CursorsGive old → CursorsGive mid
opened_gives old mid s (inl h) g =
    subst CursorsGive (sym h.1)
    (All-push (SessionGives old.store.relations old.store.queries) old.sessions (fresh s) g
    (All-nil (CursorGives old.store.relations old.store.queries)))
opened_gives old mid s (inr h) g = same_gives old mid h g

fed_gives : (old : State) (s : ℕ) (bytes : Bytes) (e : Effect) (mid : State) (c : Option EndCause)
    → MatchOption c
    (((e ≡ nothing) × (mid ≡ with_session old s (λ y. record y { held = y.held ++ bytes }))) ⊎ EndsWith end_memory
    Memory old s e mid)
    (λ _. (e ≡ nothing) × (mid ≡ old))
    → CursorsGive old → CursorsGive mid
fed_gives old s bytes e mid None (inl h) g = cursors_stay old mid s (λ y. record y { held = y.held ++ bytes })
    (λ x. refl) h.1 g
fed_gives old s bytes e mid None (inr h) g = ends_gives old s Memory mid h.1 g
fed_gives old s bytes e mid (Some c) h g = same_gives old mid h.1 g

input_gives : (old mid : State) (s : ℕ) (P Q R : Type 0) (c : Option EndCause)
    → MatchOption c (P × Q × (mid ≡ with_session old s (ended_by Input))) (λ _. R × (mid ≡ old)) → CursorsGive old
    → CursorsGive mid
input_gives old mid s P Q R None h g = ends_gives old s Input mid h.2 g
input_gives old mid s P Q R (Some c) h g = same_gives old mid h.1 g

acts_give : (old : State) (event : Event) (e : Effect) (mid : State) → Acts old event e mid → CursorsGive old
    → CursorsGive mid
acts_give old (opened s) e mid h g = opened_gives old mid s h.2 g
acts_give old (fed s bytes) e mid h g =
    let f = some_there (session_of old s) (λ x. FedStep old s bytes x e mid) h in
    fed_gives old s bytes e mid (f.0).cause f.2 g
acts_give old (stepped s outcome) e mid h g =
    let f = some_there (session_of old s) (λ x. (x.cause ≡ None) × FrontStep old s x outcome e mid) h in
    front_gives old s f.0 outcome e mid f.1 f.2.1 g
acts_give old (took s bytes) e mid h g =
    let f = some_there (session_of old s) (λ x. TookStep old s bytes x e mid) h in
    cursors_stay old mid s (λ y. record y { pending = f.2.1.0 }) (λ x. refl) f.2.1.2 g
acts_give old (ended s) e mid h g =
    let f = some_there (session_of old s) (λ x. EndedStep old s x e mid) h in
    input_gives old mid s _ _ _ (f.0).cause f.2 g
acts_give old (closed s bytes) e mid h g =
    subst CursorsGive (sym h.2)
    (All-filter (λ (x : Session). not (x.id == s)) (SessionGives old.store.relations old.store.queries) old.sessions
    g)

queued_give : (st : State) (qs : List (ℕ × Bytes)) → CursorsGive st → CursorsGive (queue_all st qs)
queued_give st [] g = g
queued_give st (q ∷ qs) g = queued_give (queue st q) qs
    (cursors_stay st (queue st q) q.0 (λ x. record x { pending = x.pending ++ q.1 }) (λ x. refl) refl g)

pub step_gives : (old : State) (event : Event) (e : Effect) (new : State) → Step old event e new → CursorsGive old
    → CursorsGive new
step_gives old event e new h g =
    let acted = acts_give old event e h.mid h.acts g in
    let mid = h.mid in
    let reordered : CursorsGive (with_relations mid h.relations) =
    relations_give mid.store.relations h.relations mid.store.queries mid.sessions
    (λ q. reordered_same mid.store.relations h.relations q h.reordered) acted in
    subst CursorsGive (sym h.queued) (queued_give (with_relations mid h.relations) e.queued reordered)

pub runs_give : RunsGive
runs_give old done new w g = walk_keeps (λ (o : State) (d : Did) (n : State). Step o d.event d.effect n) CursorsGive
    (λ o d n h. step_gives o d.event d.effect n h) old done new w g
