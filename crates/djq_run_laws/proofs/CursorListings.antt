-- What an open cursor has given is what its session was sent since it opened it.
use Rattle.std.specs.Prelude.{ℕ, List, [], ◌∷◌, ◌==◌, ◌≡◌, ◌≢◌, ◌<◌, ◌++◌, ◌⊎◌, ◌&&◌, Bool, true, false, not, cond}
use Rattle.std.specs.Prelude.{length, filter, Option, None, Some, is_some, IsSomeAnd, MatchOption, option_map, find}
use Rattle.std.specs.Prelude.{Result, Ok, Err, codes, map, All, Contains, ⊤}
use Rattle.std.proofs.Common.{refl, sym, ap, ap₂, ◌∙◌, subst, inl, inr, append-nil}
use Rattle.std.proofs.lemmas.Bool.{eqb-true, eq-eqb, and_right}
use Rattle.std.proofs.lemmas.List.{map-append}
use Rattle.std.proofs.lemmas.Grind.{flat_map-append}
use Rattle.std.proofs.lemmas.List.Elements.{All-nil, All-contains}
use Rattle.djq_model.specs.Data.{Bytes, Tuple, bytes_eq, drop_first}
use Rattle.djq_model.specs.Listed.{Listed, listed_of}
use Rattle.djq_model.specs.Equality.{bytes_eq-decides}
use Rattle.djq_protocol.specs.declared.limits.TheConstants.{SESSIONS}
use Rattle.djq_protocol.specs.declared.answer.EndCause.{EndCause}
use Rattle.djq_protocol.specs.declared.answer.EndCause.TheVariants.{Input, Memory}
use Rattle.djq_protocol.specs.declared.answer.Refusal.{Refusal}
use Rattle.djq_protocol.specs.declared.answer.Refusal.TheVariants.{Syntax, Taken, NoRelation, NoQuery, NoCursor, Arity}
use Rattle.djq_protocol.specs.declared.answer.Refusal.TheVariants.{WrongType, HeadUnbound, HeadRepeated, VariableType}
use Rattle.djq_protocol.specs.declared.answer.Refusal.TheVariants.{Unbound, Limit, NoMemory, InUse, Member, Misplaced}
use Rattle.djq_protocol.specs.declared.answer.Refusal.TheVariants.{NoCopy}
use Rattle.djq_protocol.specs.declared.answer.Refusal.TheVariants.{OtherCount}
use Rattle.djq_store_spec.specs.Held.{HeldTransaction, nothing_held, holding}
use Rattle.djq_protocol.specs.declared.command.Command.{Command}
use Rattle.djq_protocol.specs.declared.command.Command.TheVariants.{Add, Del, Done, Open, Next}
use Rattle.djq_protocol.specs.Conditions.{Answers, OutOfMemoryWhere}
use Rattle.djq_protocol.specs.Grammar.{Reading, outside, past_limit, says_command, reading_of, takes_memory_to_read}
use Rattle.djq_protocol.specs.Reply.{line, refusal_line, ok_reply, text_of, listing_lines, end_memory}
use Rattle.djq_store_spec.specs.Store.{Store, Position, open_at, stale}
use Rattle.djq_store_spec.specs.Stale.{outdated, outdater_of}
use Rattle.djq_store_spec.specs.Changes.{RowsChange, RowsOutcome, tried}
use Rattle.djq_answer_laws.proofs.Lists.{nothing_there, first_or_later, mapped_there, pairs_head, pairs_tail}
use Rattle.djq_answer_laws.proofs.Lists.{some_there, nothing_of}
use Rattle.djq_machine.specs.State.{State, Session, Cursor, fresh, session_of, with_session, cursor_of, with_position}
use Rattle.djq_machine.specs.State.{ended_by}
use Rattle.djq_machine.specs.Outdating.{outdated_cursor, changed}
use Rattle.djq_machine.specs.Watch.{Telling, ChangeStep}
use Rattle.djq_machine.specs.Effect.{Effect, nothing, says, EndsWith, RefusedStep, queue, queue_all}
use Rattle.djq_machine.specs.Command.{open_refusal, with_cursor, OpensTo, with_watch, without_watch, with_batch}
use Rattle.djq_machine.specs.Command.{without_batch, NextStepAt, CommandStep}
use Rattle.djq_machine.specs.LineStep.{LineOutcome, long, blank, slow, no_room, run, ReadStep, FrontStep, behind_line}
use Rattle.djq_machine.specs.Step.{Event, opened, fed, stepped, took, ended, closed, FedStep, TookStep, EndedStep, Acts}
use Rattle.djq_machine.specs.Step.{with_relations, Step}
use Rattle.djq_machine.specs.Run.{Did, Run, to_session}
use Rattle.djq_machine.specs.Gives.{PositionGives, CursorsGive}
use Rattle.djq_run_laws.specs.Sound.{AreApart, IsSoundSession, IsSoundState, IsStart}
use Rattle.djq_run_laws.specs.Listed.{ListedIsTold, is_opened, is_misplacing, replies_behind, replies_after}
use Rattle.djq_run_laws.specs.Listed.{replies_since, Page, page_text, last_end, TellGiven, position_among, position_in}
use Rattle.djq_run_laws.specs.Listed.{session_position, GivenIsTold}
use Rattle.djq_run_laws.specs.Form.{add_form, delete_form, done_form, form_of, Form, asking, storing, turning}
use Rattle.djq_run_laws.specs.Form.{changing, ending}
use Rattle.djq_run_laws.specs.Form.{Turn, opens_cursor, moves_cursor, closes_cursor, starts_watching, stops_watching}
use Rattle.djq_run_laws.specs.Form.{opens_batch, holds_line, closes_batch, Replied, is_whole, is_cut, CursorMoves}
use Rattle.djq_run_laws.specs.Form.{without_cursor, SessionTurned, DoesTurn, is_turned, is_refused, FormDoes}
use Rattle.djq_run_laws.proofs.Lists.{find_mapped, find_front, find_last, find_kept, same_name, has_other, dropped_gone}
use Rattle.djq_run_laws.proofs.Lists.{find_changed, find_other, find_dropped, change_keeps, session_changed}
use Rattle.djq_run_laws.proofs.Lists.{session_other, all_found}
use Rattle.djq_run_laws.proofs.Events.{says_to, said}
use Rattle.djq_run_laws.proofs.Watchers.{listed}
use Rattle.djq_run_laws.proofs.Forms.{none_holds, none_first, next_does, command_does, Reads, turned_down, carried_out}
use Rattle.djq_run_laws.proofs.Forms.{line_reads}
use Rattle.djq_run_laws.proofs.Batches.{closing, begun, closing_id, closing_cursors, rows_do}
use Rattle.djq_run_laws.proofs.Cursors.{runs_give}
use Rattle.djq_run_laws.proofs.SoundStates.{states_are_sound, AreKept, step_sound, start_sound, without_line_kept}

-- ---- pages

none_told : TellGiven [] [] false
none_told = record { pages = []; texts = refl; answers = refl; end = refl }

last_is : (end : Bool) (pages : List Page) (p : Page) → last_end end (pages ++ p ∷ []) ≡ p.end
last_is end [] p = refl
last_is end (q ∷ pages) p = last_is q.end pages p

page_more : (replies : List Bytes) (given : List Tuple) (finished : Bool) (told : List Tuple) (end : Bool)
    → TellGiven replies given finished
    → TellGiven (replies ++ text_of (listing_lines told end) ∷ []) (given ++ told) end
page_more replies given finished told end h =
    let p : Page = record { answers = told; end = end } in record {
      pages = h.pages ++ p ∷ [];
      texts = map-append page_text h.pages (p ∷ []) ∙ ap (λ ts. ts ++ page_text p ∷ []) h.texts;
      answers = flat_map-append (λ (q : Page). q.answers) h.pages (p ∷ []) ∙ ap₂ (λ (xs ys : List Tuple). xs ++ ys)
          h.answers (append-nil told);
      end = last_is false h.pages p;
    }

-- ---- one cursor of one session

outdated_back : (o : Option Bytes) (n : ℕ) (p : Position) (given : List Tuple) (finished : Bool)
    → outdated o n p ≡ open_at given finished → p ≡ open_at given finished
outdated_back None n p given finished e = e
outdated_back (Some r) n (open_at g f) given finished e = absurd cc
outdated_back (Some r) n (stale q m) given finished e = absurd cc

not_opened : (r : Refusal) → is_opened (refusal_line r) ≡ false
not_opened Syntax = refl
not_opened Taken = refl
not_opened NoRelation = refl
not_opened NoQuery = refl
not_opened NoCursor = refl
not_opened Arity = refl
not_opened WrongType = refl
not_opened HeadUnbound = refl
not_opened HeadRepeated = refl
not_opened VariableType = refl
not_opened Unbound = refl
not_opened Limit = refl
not_opened NoMemory = refl
not_opened InUse = refl
not_opened Member = refl
not_opened Misplaced = refl
not_opened NoCopy = refl
not_opened OtherCount = refl

-- a listing isn't the refusal of a misplaced command
not_misplacing : (told : List Tuple) (end : Bool) → is_misplacing (text_of (listing_lines told end)) ≡ false
not_misplacing [] true = refl
not_misplacing [] false = refl
not_misplacing (t ∷ ts) end = refl

module _ (s : ℕ) (c : Bytes) where
  -- What is open behind a change was so before it.
  abbrev Back : State → State → Type 0
  Back old new = (given : List Tuple) (finished : Bool) → session_position new s c ≡ Some (open_at given finished)
      → session_position old s c ≡ Some (open_at given finished)

  abbrev CursorsBack : List Cursor → List Cursor → Type 0
  CursorsBack ks ls = (given : List Tuple) (finished : Bool) → position_among ls c ≡ Some (open_at given finished)
      → position_among ks c ≡ Some (open_at given finished)

  back_same : (old new : State) → new ≡ old → Back old new
  back_same old new e given finished at = ap (λ st. session_position st s c) (sym e) ∙ at

  back_then : (old mid new : State) → Back old mid → Back mid new → Back old new
  back_then old mid new f g given finished at = f given finished (g given finished at)

  cursors_same : (ks ls : List Cursor) → cursor_of ls c ≡ cursor_of ks c → CursorsBack ks ls
  cursors_same ks ls e given finished at = ap (λ o. option_map (λ (k : Cursor). k.position) o) (sym e) ∙ at

  cursors_gone : (ks ls : List Cursor) → cursor_of ls c ≡ None → CursorsBack ks ls
  cursors_gone ks ls e given finished at =
      let none : position_among ls c ≡ None = ap (λ o. option_map (λ (k : Cursor). k.position) o) e in absurd
      (cc (none, at))

  module _ (old new : State) (t : ℕ) (f : Session → Session) (keeps : (x : Session) → (f x).id ≡ x.id)
      (after : new ≡ with_session old t f)
      (fine : (t == s) ≡ true → (x : Session) → session_of old s ≡ Some x → CursorsBack x.cursors (f x).cursors) where
    back_found : (t == s) ≡ true → (o : Option Session) → session_of old s ≡ o → (given : List Tuple) (finished : Bool)
        → position_in (option_map f o) c ≡ Some (open_at given finished)
        → position_in o c ≡ Some (open_at given finished)
    back_found e None is given finished h = absurd cc
    back_found e (Some x) is given finished h = fine e x is given finished h

    back_at : (b : Bool) → (t == s) ≡ b → (given : List Tuple) (finished : Bool)
        → session_position (with_session old t f) s c ≡ Some (open_at given finished)
        → session_position old s c ≡ Some (open_at given finished)
    back_at false e given finished h = ap (λ o. position_in o c) (sym (session_other old t s f keeps e)) ∙ h
    back_at true e given finished h =
        let here : session_of (with_session old t f) s ≡ option_map f (session_of old s) =
        subst (λ i. session_of (with_session old i f) s ≡ option_map f (session_of old s)) (sym (eqb-true t s e))
        (session_changed old s f keeps) in
        back_found e (session_of old s) refl given finished (ap (λ o. position_in o c) (sym here) ∙ h)

    back_with : Back old new
    back_with given finished at =
        back_at (t == s) refl given finished (ap (λ st. session_position st s c) (sym after) ∙ at)

  back_ends : (old new : State) (t : ℕ) (cause : EndCause) → new ≡ with_session old t (ended_by cause) → Back old new
  back_ends old new t cause after = back_with old new t (ended_by cause) (λ x. refl) after
      (λ e x is. cursors_gone x.cursors [] refl)

  back_kept : (old new : State) (t : ℕ) (f : Session → Session) → ((x : Session) → (f x).id ≡ x.id)
      → ((x : Session) → (f x).cursors ≡ x.cursors) → new ≡ with_session old t f → Back old new
  back_kept old new t f keeps same after = back_with old new t f keeps after
      (λ e x is. cursors_same x.cursors (f x).cursors (ap (λ ks. cursor_of ks c) (same x)))

  -- a change of rows
  module _ (qs : List Listed) (outdater : Listed → Option Bytes) (n : ℕ) where
    outdated_found : (o : Option Cursor) (given : List Tuple) (finished : Bool)
        → option_map (λ (k : Cursor). k.position) (option_map (outdated_cursor qs outdater n) o) ≡ Some
        (open_at given finished)
        → option_map (λ (k : Cursor). k.position) o ≡ Some (open_at given finished)
    outdated_found None given finished h = absurd cc
    outdated_found (Some k) given finished h =
        let inside : outdated (outdater_of qs outdater k.query) n k.position ≡ open_at given finished = cc in
        ap (λ p. Some p) (outdated_back (outdater_of qs outdater k.query) n k.position given finished inside)

    outdated_cursors : (ks : List Cursor) → CursorsBack ks (map (outdated_cursor qs outdater n) ks)
    outdated_cursors ks given finished h =
        outdated_found (cursor_of ks c) given finished
        (ap (λ o. option_map (λ (k : Cursor). k.position) o)
        (sym (find_mapped (λ (k : Cursor). bytes_eq k.name c) (outdated_cursor qs outdater n) (λ k. refl) ks)) ∙ h)

    outdated_session : (o : Option Session) (given : List Tuple) (finished : Bool)
        → position_in (option_map (λ (x : Session). record x
        { cursors = map (outdated_cursor qs outdater n) x.cursors }) o) c ≡ Some (open_at given finished)
        → position_in o c ≡ Some (open_at given finished)
    outdated_session None given finished h = h
    outdated_session (Some x) given finished h = outdated_cursors x.cursors given finished h

  back_changed : (old : State) (o : Option RowsChange) (store : Store) → Back old (changed old o store)
  back_changed old None store given finished at = at
  back_changed old (Some change) store given finished at =
      outdated_session old.store.queries change.outdater store.seq (session_of old s) given finished
      (ap (λ o. position_in o c) (sym (find_mapped (λ (x : Session). x.id == s)
      (λ (x : Session). record x {
        cursors = map (outdated_cursor old.store.queries change.outdater store.seq)
            x.cursors;
      }) (λ x. refl) old.sessions)) ∙ at)

  back_change : (old : State) (t : ℕ) (outcome : RowsOutcome) (store : Store)
      (reply : Bytes) (e : Effect) (new : State)
      → ChangeStep old t outcome store reply e new → Back old new
  back_change old t outcome store reply e new h =
      subst (λ (st : State). Back old st) (sym h.state)
      (change_keeps (λ (m : Telling). Back old m.state) (λ m i text there k. k)
      (λ m i text cause may there k. back_then old m.state (with_session m.state i (ended_by cause)) k
      (back_ends m.state (with_session m.state i (ended_by cause)) i cause refl))
      old t outcome store reply e new h (back_changed old (tried outcome) store))

  -- what a turn makes of a session
  back_opens : (old : State) (t : ℕ) (d q : Bytes) (new : State) → ((t == s) ≡ true → bytes_eq d c ≡ false)
      → new ≡ with_session old t (with_cursor d q) → Back old new
  back_opens old t d q new apart after =
      let more : Cursor = record { name = d; query = q; position = open_at [] false } in
      back_with old new t (with_cursor d q) (λ x. refl) after
      (λ e x is. cursors_same x.cursors (x.cursors ++ more ∷ [])
      (find_front (λ (k : Cursor). bytes_eq k.name c) x.cursors more (apart e)))

  back_moves : (old : State) (t : ℕ) (x : Session) (d : Bytes) (new : State)
      → ((t == s) ≡ true → bytes_eq d c ≡ false) → CursorMoves old t x d new → Back old new
  back_moves old t x d new apart h =
      let to = open_at (h.given ++ h.told) h.end in
      back_with old new t (λ x. record x { cursors = with_position x.cursors d to }) (λ x. refl) h.state
      (λ same x is. cursors_same x.cursors (with_position x.cursors d to)
      (find_other (λ (k : Cursor). bytes_eq k.name d) (λ (k : Cursor). bytes_eq k.name c)
      (λ (k : Cursor). record k { position = to }) (λ k. refl)
      (λ k here. has_other d c k.name (apart same) here) x.cursors))

  closed_cursors : (ks : List Cursor) (d : Bytes) (b : Bool) → bytes_eq d c ≡ b
      → AreApart (map (λ (k : Cursor). k.name) ks) → CursorsBack ks (drop_first (λ (k : Cursor). bytes_eq k.name d) ks)
  closed_cursors ks d true e apart =
      let same : d ≡ c = same_name d c e in
      cursors_gone ks (drop_first (λ (k : Cursor). bytes_eq k.name d) ks)
      (subst (λ m. cursor_of (drop_first (λ (k : Cursor). bytes_eq k.name m) ks) c ≡ None) (sym same)
      (dropped_gone ks c apart))
  closed_cursors ks d false e apart =
      cursors_same ks (drop_first (λ (k : Cursor). bytes_eq k.name d) ks)
      (find_dropped (λ (k : Cursor). bytes_eq k.name d) (λ (k : Cursor). bytes_eq k.name c)
      (λ k here. has_other d c k.name e here) ks)

  -- whether a command of a form opens or moves a cursor of the name
  abbrev is_of : Form → Bool
  is_of (turning (opens_cursor d q)) = bytes_eq d c
  is_of (turning (moves_cursor d)) = bytes_eq d c
  is_of _ = false

  back_turned : (old : State) (t : ℕ) (x : Session) (turn : Turn) (new : State) → AreKept old
      → ((t == s) ≡ true → is_of (turning turn) ≡ false) → SessionTurned old t x turn new → Back old new
  back_turned old t x (opens_cursor d q) new kept apart h = back_opens old t d q new apart h.2
  back_turned old t x (moves_cursor d) new kept apart h = back_moves old t x d new apart h
  back_turned old t x (closes_cursor d) new kept apart h =
      back_with old new t (without_cursor d) (λ x. refl) h
      (λ same x is. closed_cursors x.cursors d (bytes_eq d c) refl
      (all_found (IsSoundSession old.store) (λ (y : Session). y.id == s) old.sessions x kept.1 is).names)
  back_turned old t x (starts_watching q) new kept apart h =
      back_kept old new t (with_watch q) (λ y. refl) (λ y. refl) h.1
  back_turned old t x (stops_watching q) new kept apart h =
      back_kept old new t (without_watch q) (λ y. refl) (λ y. refl) h
  back_turned old t x opens_batch new kept apart h =
      back_kept old new t (with_batch nothing_held) (λ y. refl) (λ y. refl) h
  back_turned old t x (holds_line l verb name row) new kept apart h =
      back_kept old new t (with_batch (holding h.held verb name row l)) (λ y. refl) (λ y. refl) h.state
  back_turned old t x closes_batch new kept apart h =
      back_kept old new t without_batch (λ y. refl) (λ y. refl) h

  back_replied : (t : ℕ) (mid new : State) → Replied t mid new → Back mid new
  back_replied t mid new (is_whole after) = back_same mid new after
  back_replied t mid new (is_cut after) = back_ends mid new t Memory after

  back_turn : (old : State) (t : ℕ) (x : Session) (turn : Turn) (new : State) → AreKept old
      → ((t == s) ≡ true → is_of (turning turn) ≡ false) → DoesTurn old t x turn new → Back old new
  back_turn old t x turn new kept apart (is_turned h) = back_turned old t x turn new kept apart h
  back_turn old t x turn new kept apart (is_refused r) = back_replied t old new r

  -- the commands
  back_form : (f : Form) (old : State) (t : ℕ) (x : Session) (e : Effect) (new : State) → AreKept old
      → ((t == s) ≡ true → is_of f ≡ false) → FormDoes f old t x e new → Back old new
  back_form asking old t x e new kept apart h = back_replied t old new h.1
  back_form storing old t x e new kept apart h =
      back_then old (record old { store = h.1.store }) new (λ given finished at. at)
      (back_replied t (record old { store = h.1.store }) new h.1.replied)
  back_form (turning turn) old t x e new kept apart h = back_turn old t x turn new kept apart h.1
  back_form (changing k) old t x e new kept apart h =
      let d = rows_do old t k e new h in
      back_then old (begun old t k) new
      (back_kept old (begun old t k) t (closing k) (closing_id k) (closing_cursors k) refl)
      (back_change (begun old t k) t d.outcome d.store d.reply e new d.change)
  back_form ending old t x e new kept apart h =
      let mid : State = record old { stopped = h.1.stopped } in
      back_then old mid new (λ given finished at. at) (back_ends mid new t h.1.cause h.1.state)

  back_command : (old : State) (t : ℕ) (x : Session) (l : Bytes) (k : Command) (e : Effect) (new : State)
      → AreKept old → ((t == s) ≡ true → is_of (form_of x.batch l k) ≡ false) → reading_of l ≡ says_command k
      → CommandStep old t x l k e new
      → Back old new
  back_command old t x l k e new kept apart is h =
      back_form (form_of x.batch l k) old t x e new kept apart (command_does old t x l k e new is h)

  -- rows open and move no cursor, held or not
  adds_none : (batch : Option HeldTransaction) (l name : Bytes) (row : Tuple)
      → is_of (add_form batch l name row) ≡ false
  adds_none None l name row = refl
  adds_none (Some held) l name row = refl

  deletes_none : (batch : Option HeldTransaction) (l name : Bytes) (row : Tuple)
      → is_of (delete_form batch l name row) ≡ false
  deletes_none None l name row = refl
  deletes_none (Some held) l name row = refl

  done_none : (batch : Option HeldTransaction) (given : Option ℕ) → is_of (done_form batch given) ≡ false
  done_none None given = refl
  done_none (Some held) given = refl

  -- ---- what replies tell of the cursor

  abbrev Tell : State → List Bytes → Type 0
  Tell st replies = (given : List Tuple) (finished : Bool) → session_position st s c ≡ Some (open_at given finished)
      → TellGiven replies given finished

  tell_back : (old new : State) (replies : List Bytes) → Back old new → Tell old replies → Tell new replies
  tell_back old new replies back tell given finished at = tell given finished (back given finished at)

  -- a cursor that was opened now
  opened_now : (old : State) (x : Session) (d q : Bytes) (new : State) → session_of old s ≡ Some x
      → cursor_of x.cursors d ≡ None → d ≡ c → new ≡ with_session old s (with_cursor d q) → Tell new []
  opened_now old x d q new found none same after given finished at =
      let more : Cursor = record { name = d; query = q; position = open_at [] false } in
      let here : session_of new s ≡ Some (with_cursor d q x) =
      ap (λ st. session_of st s) after ∙ session_changed old s (with_cursor d q) (λ y. refl) ∙ ap
      (λ o. option_map (with_cursor d q) o) found in
      let none' : cursor_of x.cursors c ≡ None = subst (λ m. cursor_of x.cursors m ≡ None) same none in
      let last : cursor_of (x.cursors ++ more ∷ []) c ≡ Some more = find_last (λ (k : Cursor). bytes_eq k.name c)
      x.cursors more none' ((bytes_eq-decides d c).1 same) in
      let position : session_position new s c ≡ Some (open_at [] false) = ap (λ o. position_in o c) here ∙ ap
      (λ o. option_map (λ (k : Cursor). k.position) o) last in
      let e : Some (open_at [] false) ≡ Some (open_at given finished) = sym position ∙ at in
      let g : [] ≡ given = cc in
      let f : false ≡ finished = cc in
      subst (λ b. TellGiven [] given b) f (subst (λ ts. TellGiven [] ts false) g none_told)

  -- the reply to `open`
  open_told : (old : State) (x : Session) (d q : Bytes) (r : Result ⊤ Refusal) (e : Effect) (new : State)
      (replies : List Bytes) (b : Bool) → bytes_eq d c ≡ b → session_of old s ≡ Some x
      → Answers (open_refusal old.store x.cursors d q) r (λ _. ⊤) (OutOfMemoryWhere ⊤)
      → e ≡ says s (ok_reply (codes "ok open") r) → OpensTo old s d q new r
      → Tell old replies → Tell new (cond (b && is_opened (to_session s e.queued)) [] replies)
  open_told old x d q (Ok u) e new replies false is found answer effect after tell = tell_back old new replies
      (back_opens old s d q new (λ same. is) after) tell
  open_told old x d q (Err r) e new replies false is found answer effect after tell = tell_back old new replies
      (back_same old new after) tell
  open_told old x d q (Ok u) e new replies true is found answer effect after tell =
      let yes : is_opened (to_session s e.queued) ≡ true = ap is_opened (said s (line (codes "ok open")) e effect) in
      let fine = none_holds (open_refusal old.store x.cursors d q) u (λ _. ⊤) (OutOfMemoryWhere ⊤) answer in
      let none = nothing_of (cursor_of x.cursors d) (none_first (is_some (cursor_of x.cursors d)) _ _ fine) in
      subst (λ b. Tell new (cond b [] replies)) (sym yes) (opened_now old x d q new found none (same_name d c is) after)
  open_told old x d q (Err r) e new replies true is found answer effect after tell =
      let no : is_opened (to_session s e.queued) ≡ false = ap is_opened (said s (refusal_line r) e effect) ∙ not_opened
      r in
      subst (λ b. Tell new (cond b [] replies)) (sym no) (tell_back old new replies (back_same old new after) tell)

  -- a cursor that gave more
  gave_more : (old : State) (x : Session) (d : Bytes) (k : Cursor) (g : List Tuple) (f : Bool) (told : List Tuple)
      (end : Bool) (new : State) (replies : List Bytes) → session_of old s ≡ Some x
      → cursor_of x.cursors d ≡ Some k → k.position ≡ open_at g f → d ≡ c
      → new ≡ with_session old s (λ y. record y { cursors = with_position y.cursors d (open_at (g ++ told) end) })
      → Tell old replies → Tell new (replies ++ text_of (listing_lines told end) ∷ [])
  gave_more old x d k g f told end new replies found is stands same after tell given finished at =
      let to = open_at (g ++ told) end in
      let move = λ (y : Session). record y { cursors = with_position y.cursors d to } in
      let there : cursor_of x.cursors c ≡ Some k = subst (λ m. cursor_of x.cursors m ≡ Some k) same is in
      let before : session_position old s c ≡ Some (open_at g f) = ap (λ o. position_in o c) found ∙ ap
      (λ o. option_map (λ (z : Cursor). z.position) o) there ∙ ap (λ p. Some p) stands in
      let here : session_of new s ≡ Some (move x) = ap (λ st. session_of st s) after ∙ session_changed old s move
      (λ y. refl) ∙ ap (λ o. option_map move o) found in
      let moved : cursor_of (with_position x.cursors d to) c ≡ option_map (λ (z : Cursor). record z { position = to })
      (cursor_of x.cursors c) =
      subst (λ m. cursor_of (with_position x.cursors m to) c ≡ option_map (λ (z : Cursor). record z { position = to })
      (cursor_of x.cursors c)) (sym same)
      (find_changed (λ (z : Cursor). bytes_eq z.name c) (λ (z : Cursor). record z { position = to }) (λ z. refl)
      x.cursors) in
      let position : session_position new s c ≡ Some to =
      ap (λ o. position_in o c) here ∙ ap (λ o. option_map (λ (z : Cursor). z.position) o)
      (moved ∙ ap (λ o. option_map (λ (z : Cursor). record z { position = to }) o) there) in
      let e : Some to ≡ Some (open_at given finished) = sym position ∙ at in
      let gs : g ++ told ≡ given = cc in
      let fs : end ≡ finished = cc in
      let text = text_of (listing_lines told end) in
      let more = page_more replies g f told end (tell g f before) in
      subst (λ b. TellGiven (replies ++ text ∷ []) given b) fs
      (subst (λ ts. TellGiven (replies ++ text ∷ []) ts end) gs more)

  -- the reply to `next`, where the cursor stands
  next_at_told : (old : State) (x : Session) (d : Bytes) (k : Cursor) (q : Listed) (count : ℕ) (p : Position)
      (e : Effect) (new : State) (replies : List Bytes) → session_of old s ≡ Some x
      → cursor_of x.cursors d ≡ Some k → k.position ≡ p → d ≡ c → NextStepAt old s d q count p e new → Tell old replies
      → Tell new (cond (not (is_misplacing (to_session s e.queued))) (replies ++ to_session s e.queued ∷ []) replies)
  next_at_told old x d k q count (stale r n) e new replies found is stands same h tell given finished at =
      let there : cursor_of x.cursors c ≡ Some k = subst (λ m. cursor_of x.cursors m ≡ Some k) same is in
      let before : session_position new s c ≡ Some (stale r n) =
      ap (λ st. session_position st s c) h.1 ∙ ap (λ o. position_in o c) found ∙ ap
      (λ o. option_map (λ (z : Cursor). z.position) o) there ∙ ap (λ w. Some w) stands in
      absurd (cc (before, at))
  next_at_told old x d k q count (open_at g f) e new replies found is stands same (inr h) tell given finished at =
      let here : session_of new s ≡ Some (ended_by Memory x) =
      ap (λ st. session_of st s) h.state ∙ session_changed old s (ended_by Memory) (λ y. refl) ∙ ap
      (λ o. option_map (ended_by Memory) o) found in
      let none : session_position new s c ≡ None = ap (λ o. position_in o c) here in
      absurd (cc (none, at))
  next_at_told old x d k q count (open_at g f) e new replies found is stands same (inl h) tell given finished at =
      let text = text_of (listing_lines h.told h.end) in
      let reply : to_session s e.queued ≡ text = ap (λ (w : Effect). to_session s w.queued) h.effect ∙ says_to s text in
      subst (λ t. TellGiven (cond (not (is_misplacing t)) (replies ++ t ∷ []) replies) given finished) (sym reply)
      (subst (λ b. TellGiven (cond (not b) (replies ++ text ∷ []) replies) given finished)
      (sym (not_misplacing h.told h.end))
      (gave_more old x d k g f h.told h.end new replies found is stands same h.state tell given finished at))

  next_told : (old : State) (x : Session) (d : Bytes) (count : ℕ) (o : Option Cursor) (e : Effect) (new : State)
      (replies : List Bytes) (b : Bool) → bytes_eq d c ≡ b → session_of old s ≡ Some x
      → AreKept old → cursor_of x.cursors d ≡ o
      → MatchOption o (RefusedStep old s NoCursor e new)
      (λ k. IsSomeAnd (listed_of old.store.queries k.query) (λ q. NextStepAt old s d q count k.position e new))
      → Tell old replies
      → Tell new (cond (b && not (is_misplacing (to_session s e.queued))) (replies ++ to_session s e.queued ∷ [])
      replies)
  next_told old x d count o e new replies false same found kept is h tell given finished at = tell_back old new replies
      (back_turn old s x (moves_cursor d) new kept (λ k. same) (next_does old s x d count o e new is h).1) tell given
      finished at
  next_told old x d count None e new replies true same found kept is h tell given finished at =
      let none : cursor_of x.cursors c ≡ None = subst (λ m. cursor_of x.cursors m ≡ None) (same_name d c same) is in
      let before : session_position new s c ≡ None = ap (λ st. session_position st s c) h.1
      ∙ ap (λ w. position_in w c) found ∙ ap
      (λ w. option_map (λ (z : Cursor). z.position) w) none in
      absurd (cc (before, at))
  next_told old x d count (Some k) e new replies true same found kept is h tell given finished at =
      let f = some_there (listed_of old.store.queries k.query) (λ q. NextStepAt old s d q count k.position e new) h in
      next_at_told old x d k f.0 count k.position e new replies found is refl (same_name d c same) f.2 tell given
      finished at

  command_told : (old : State) (x : Session) (l : Bytes) (k : Command) (e : Effect) (new : State)
      (replies : List Bytes) → session_of old s ≡ Some x → AreKept old → reading_of l ≡ says_command k
      → CommandStep old s x l k e new
      → Tell old replies → Tell new (replies_behind c replies (says_command k) (to_session s e.queued))
  command_told old x l (Open d q) e new replies found kept is h tell = open_told old x d q h.result e new replies
      (bytes_eq d c) refl found h.answer h.effect h.state tell
  command_told old x l (Next d count) e new replies found kept is h tell =
      next_told old x d count (cursor_of x.cursors d) e new replies (bytes_eq d c) refl found kept refl h tell
  command_told old x l (Add name row) e new replies found kept is h tell = tell_back old new replies
      (back_command old s x l (Add name row) e new kept (λ same. adds_none x.batch l name row) is h) tell
  command_told old x l (Del name row) e new replies found kept is h tell = tell_back old new replies
      (back_command old s x l (Del name row) e new kept (λ same. deletes_none x.batch l name row) is h) tell
  command_told old x l (Done given) e new replies found kept is h tell = tell_back old new replies
      (back_command old s x l (Done given) e new kept (λ same. done_none x.batch given) is h) tell
  command_told old x l k e new replies found kept is h tell = tell_back old new replies
      (back_command old s x l k e new kept (λ same. refl) is h) tell

  -- a line that is refused as it is read
  refused_told : (r : Reading) (replies : List Bytes) (why : Refusal)
      → ((k : Command) → r ≡ says_command k → (why ≡ Misplaced) ⊎ (takes_memory_to_read k ≡ true))
      → replies_behind c replies r (refusal_line why) ≡ replies
  refused_told outside replies why because = refl
  refused_told (past_limit k) replies why because = refl
  refused_told (says_command (Open d q)) replies why because =
      ap (λ b. cond b [] replies) (and_right (bytes_eq d c) (is_opened (refusal_line why)) (not_opened why))
  refused_told (says_command (Next d count)) replies why because = by (because (Next d count) refl)
    where
      by : (why ≡ Misplaced) ⊎ (takes_memory_to_read (Next d count) ≡ true)
          → replies_behind c replies (says_command (Next d count)) (refusal_line why) ≡ replies
      by (inl e) =
          let yes : is_misplacing (refusal_line why) ≡ true = ap (λ (w : Refusal). is_misplacing (refusal_line w)) e in
          ap (λ b. cond b (replies ++ refusal_line why ∷ []) replies)
          (and_right (bytes_eq d c) (not (is_misplacing (refusal_line why))) (ap not yes))
      by (inr takes) = absurd cc
  refused_told (says_command k) replies why because = refl

  read_told : (old : State) (x : Session) (l : Bytes) (e : Effect) (new : State) (replies : List Bytes)
      → session_of old s ≡ Some x → AreKept old → ReadStep old s x l (reading_of l) e new
      → Tell old replies → Tell new (replies_behind c replies (reading_of l) (to_session s e.queued))
  read_told old x l e new replies found kept h tell = by (line_reads old s x l (reading_of l) e new h)
    where
      by : Reads old s x l (reading_of l) e new
          → Tell new (replies_behind c replies (reading_of l) (to_session s e.queued))
      by (turned_down why because d) =
          subst (λ rs. Tell new rs)
          (sym (ap (λ t. replies_behind c replies (reading_of l) t) (said s (refusal_line why) e d.0)
          ∙ refused_told (reading_of l) replies why because))
          (tell_back old new replies (back_same old new d.1) tell)
      by (carried_out k is d) =
          subst (λ w. Tell new (replies_behind c replies w (to_session s e.queued))) (sym is)
          (command_told old x l k e new replies found kept is d tell)

  -- a line of another session
  back_read : (old : State) (t : ℕ) (x : Session) (l : Bytes) (e : Effect) (new : State)
      → (t == s) ≡ false → AreKept old → ReadStep old t x l (reading_of l) e new → Back old new
  back_read old t x l e new ne kept h = by (line_reads old t x l (reading_of l) e new h)
    where
      by : Reads old t x l (reading_of l) e new → Back old new
      by (turned_down why because d) = back_same old new d.1
      by (carried_out k is d) = back_command old t x l k e new kept (λ same. absurd (cc (same, ne))) is d

  back_line : (old : State) (t : ℕ) (rest : Bytes) → Back old (with_session old t (behind_line rest))
  back_line old t rest = back_kept old (with_session old t (behind_line rest)) t (behind_line rest) (λ x. refl)
      (λ x. refl) refl

  -- what an event does before its bytes are queued
  front_told : (old : State) (t : ℕ) (x : Session) (outcome : LineOutcome) (e : Effect) (mid : State)
      (replies : List Bytes) (b : Bool) → (t == s) ≡ b → session_of old t ≡ Some x → AreKept old
      → FrontStep old t x outcome e mid → Tell old replies
      → Tell mid (replies_after s c replies (stepped t outcome) (to_session s e.queued))
  front_told old t x long e mid replies b same found kept h tell = tell_back old mid replies
      (back_ends old mid t _ h.1.1) tell
  front_told old t x (blank l) e mid replies b same found kept h tell =
      let between = with_session old t (behind_line h.1.rest) in
      tell_back old mid replies (back_then old between mid (back_line old t h.1.rest)
      (back_same between mid h.1.then.1)) tell
  front_told old t x (slow l) e mid replies b same found kept h tell =
      let between = with_session old t (behind_line h.2.rest) in
      tell_back old mid replies (back_then old between mid (back_line old t h.2.rest)
      (back_ends between mid t _ h.2.then.1)) tell
  front_told old t x (no_room l) e mid replies b same found kept h tell =
      let between = with_session old t (behind_line h.2.rest) in
      tell_back old mid replies (back_then old between mid (back_line old t h.2.rest)
      (back_ends between mid t _ h.2.then.1)) tell
  front_told old t x (run l) e mid replies false same found kept h tell =
      let rest = h.2.rest in
      let between = with_session old t (behind_line rest) in
      let back = back_read between t (behind_line rest x) l e mid same
      (without_line_kept old t rest kept) h.2.then in
      subst (λ k. Tell mid (cond k (replies_behind c replies (reading_of l) (to_session s e.queued)) replies))
      (sym same)
      (tell_back old mid replies (back_then old between mid (back_line old t rest) back) tell)
  front_told old t x (run l) e mid replies true same found kept h tell =
      let rest = h.2.rest in
      let at : t ≡ s = eqb-true t s same in
      let between = with_session old s (behind_line rest) in
      let here : session_of between s ≡ Some (behind_line rest x) =
      session_changed old s (behind_line rest) (λ y. refl) ∙ ap (λ o. option_map (behind_line rest) o)
      (subst (λ i. session_of old i ≡ Some x) at found) in
      let read : ReadStep between s (behind_line rest x) l (reading_of l) e mid =
      subst (λ i. ReadStep (with_session old i (behind_line rest)) i (behind_line rest x) l (reading_of l) e mid) at
      h.2.then in
      subst (λ k. Tell mid (cond k (replies_behind c replies (reading_of l) (to_session s e.queued)) replies))
      (sym same)
      (read_told between (behind_line rest x) l e mid replies here (without_line_kept old s rest kept) read
      (tell_back old between replies (back_line old s rest) tell))

  opened_cursors : (o : Option Session) (t : ℕ) (given : List Tuple) (finished : Bool) (b : Bool)
      → position_in (cond b (Some (fresh t)) None) c ≡ Some (open_at given finished) → {P : Type 0} → P
  opened_cursors o t given finished true h = absurd cc
  opened_cursors o t given finished false h = absurd cc

  fresh_back : (xs : List Session) (t : ℕ) (given : List Tuple) (finished : Bool)
      → position_in (find (λ (x : Session). x.id == s) (xs ++ fresh t ∷ [])) c ≡ Some (open_at given finished)
      → position_in (find (λ (x : Session). x.id == s) xs) c ≡ Some (open_at given finished)
  fresh_back [] t given finished h = opened_cursors None t given finished (t == s) h
  fresh_back (x ∷ xs) t given finished h = by (x.id == s) h (λ k. fresh_back xs t given finished k)
    where
      by : (b : Bool) → position_in (cond b (Some x) (find (λ (y : Session). y.id == s) (xs ++ fresh t ∷ []))) c ≡ Some
          (open_at given finished)
          → (position_in (find (λ (y : Session). y.id == s) (xs ++ fresh t ∷ [])) c ≡ Some (open_at given finished)
          → position_in (find (λ (y : Session). y.id == s) xs) c ≡ Some (open_at given finished))
          → position_in (cond b (Some x) (find (λ (y : Session). y.id == s) xs)) c ≡ Some (open_at given finished)
      by true k rest = k
      by false k rest = rest k

  back_opened : (old mid : State) (t : ℕ)
      → ((length old.sessions < SESSIONS) × (mid ≡ record old { sessions = old.sessions ++ fresh t ∷ [] }))
      ⊎ (mid ≡ old) → Back old mid
  back_opened old mid t (inl h) given finished at = fresh_back old.sessions t given finished
      (ap (λ st. session_position st s c) (sym h.1) ∙ at)
  back_opened old mid t (inr h) given finished at = back_same old mid h given finished at

  back_fed : (old : State) (t : ℕ) (bytes : Bytes) (e : Effect) (mid : State) (o : Option EndCause)
      → MatchOption o
      (((e ≡ nothing) × (mid ≡ with_session old t (λ y. record y { held = y.held ++ bytes }))) ⊎ EndsWith end_memory
      Memory old t e mid)
      (λ _. (e ≡ nothing) × (mid ≡ old))
      → Back old mid
  back_fed old t bytes e mid None (inl h) = back_kept old mid t (λ y. record y { held = y.held ++ bytes }) (λ x. refl)
      (λ x. refl) h.1
  back_fed old t bytes e mid None (inr h) = back_ends old mid t Memory h.1
  back_fed old t bytes e mid (Some cause) h = back_same old mid h.1

  back_input : (old mid : State) (t : ℕ) (P Q R : Type 0) (o : Option EndCause)
      → MatchOption o (P × Q × (mid ≡ with_session old t (ended_by Input))) (λ _. R × (mid ≡ old)) → Back old mid
  back_input old mid t P Q R None h = back_ends old mid t Input h.2
  back_input old mid t P Q R (Some cause) h = back_same old mid h.1

  -- a session that is gone has no cursor
  closed_none : (xs : List Session)
      → find (λ (x : Session). x.id == s) (filter (λ (x : Session). not (x.id == s)) xs) ≡ None
  closed_none [] = refl
  closed_none (x ∷ xs) = by (x.id == s) refl (closed_none xs)
    where
      rest : List Session
      rest = filter (λ (y : Session). not (y.id == s)) xs

      by : (b : Bool) → (x.id == s) ≡ b → find (λ (y : Session). y.id == s) rest ≡ None
          → find (λ (y : Session). y.id == s) (cond (not b) (x ∷ rest) rest) ≡ None
      by true e none = none
      by false e none = ap (λ q. cond q (Some x) (find (λ (y : Session). y.id == s) rest)) e ∙ none

  others_kept : (t : ℕ) → (t == s) ≡ false → (y : Session) → (y.id == s) ≡ true → not (y.id == t) ≡ true
  others_kept t ne y e = by (y.id == t) refl
    where
      by : (b : Bool) → (y.id == t) ≡ b → not b ≡ true
      by false k = refl
      by true k =
          let same : t ≡ s = sym (eqb-true y.id t k) ∙ eqb-true y.id s e in
          let yes : (t == s) ≡ true = eq-eqb t s same in
          absurd (cc (yes, ne))

  back_closed : (old mid : State) (t : ℕ)
      → mid ≡ record old { sessions = filter (λ (x : Session). not (x.id == t)) old.sessions } → Back old mid
  back_closed old mid t after given finished at = by (t == s) refl (ap (λ st. session_position st s c) (sym after) ∙ at)
    where
      left : List Session
      left = filter (λ (x : Session). not (x.id == t)) old.sessions

      found : (o : Option Session) → find (λ (x : Session). x.id == s) left ≡ o → (t == s) ≡ false
          → position_in o c ≡ Some (open_at given finished)
          → session_position old s c ≡ Some (open_at given finished)
      found None is ne h = absurd cc
      found (Some x) is ne h = ap (λ o. position_in o c)
          (find_kept (λ (y : Session). y.id == s) (λ (y : Session). not (y.id == t)) old.sessions x is
          (others_kept t ne)) ∙ h

      by : (b : Bool) → (t == s) ≡ b → position_in (find (λ (x : Session). x.id == s) left) c ≡ Some
          (open_at given finished) → session_position old s c ≡ Some (open_at given finished)
      by false e h = found (find (λ (x : Session). x.id == s) left) refl e h
      by true e h =
          let none : find (λ (x : Session). x.id == s) left ≡ None =
          subst (λ i. find (λ (x : Session). x.id == s) (filter (λ (x : Session). not (x.id == i)) old.sessions) ≡ None)
          (sym (eqb-true t s e)) (closed_none old.sessions) in
          absurd (cc (ap (λ o. position_in o c) none, h))

  acts_told : (old : State) (event : Event) (e : Effect) (mid : State) (replies : List Bytes) → AreKept old
      → Acts old event e mid → Tell old replies
      → Tell mid (replies_after s c replies event (to_session s e.queued))
  acts_told old (opened t) e mid replies kept h tell = tell_back old mid replies (back_opened old mid t h.2) tell
  acts_told old (fed t bytes) e mid replies kept h tell =
      let f = some_there (session_of old t) (λ x. FedStep old t bytes x e mid) h in
      tell_back old mid replies (back_fed old t bytes e mid (f.0).cause f.2) tell
  acts_told old (stepped t outcome) e mid replies kept h tell =
      let f = some_there (session_of old t) (λ x. (x.cause ≡ None) × FrontStep old t x outcome e mid) h in
      front_told old t f.0 outcome e mid replies (t == s) refl f.1 kept f.2.1 tell
  acts_told old (took t bytes) e mid replies kept h tell =
      let f = some_there (session_of old t) (λ x. TookStep old t bytes x e mid) h in
      tell_back old mid replies (back_kept old mid t (λ y. record y { pending = f.2.1.0 }) (λ x. refl) (λ x. refl)
      f.2.1.2) tell
  acts_told old (ended t) e mid replies kept h tell =
      let f = some_there (session_of old t) (λ x. EndedStep old t x e mid) h in
      tell_back old mid replies (back_input old mid t _ _ _ (f.0).cause f.2) tell
  acts_told old (closed t bytes) e mid replies kept h tell = tell_back old mid replies (back_closed old mid t h.2) tell

  back_queued : (st : State) (qs : List (ℕ × Bytes)) → Back st (queue_all st qs)
  back_queued st [] given finished at = at
  back_queued st (q ∷ qs) given finished at =
      back_kept st (queue st q) q.0 (λ x. record x { pending = x.pending ++ q.1 }) (λ x. refl) (λ x. refl) refl given
      finished (back_queued (queue st q) qs given finished at)

  step_told : (old : State) (event : Event) (e : Effect) (new : State) (replies : List Bytes) → Step old event e new
      → IsSoundState old → Tell old replies
      → Tell new (replies_after s c replies event (to_session s e.queued))
  step_told old event e new replies h sound tell =
      let mid = h.mid in
      let after = replies_after s c replies event (to_session s e.queued) in
      let acted = acts_told old event e mid replies (sound.store, sound.sessions) h.acts tell in
      tell_back mid new after
      (subst (λ (st : State). Back mid st) (sym h.queued)
      (back_then mid (with_relations mid h.relations) (queue_all (with_relations mid h.relations) e.queued)
      (λ given finished at. at) (back_queued (with_relations mid h.relations) e.queued)))
      acted

  along_told : (old : State) (done : List Did) (new : State) (replies : List Bytes) → Run old done new
      → IsSoundState old → Tell old replies → Tell new (replies_since s c replies done)
  along_told old [] new replies w sound tell = tell_back old new replies (back_same old new w) tell
  along_told old (d ∷ done) new replies w sound tell =
      let mid = w.0 in
      along_told mid done new (replies_after s c replies d.event (to_session s d.effect.queued)) w.2
      (step_sound old d.event d.effect mid w.1 sound)
      (step_told old d.event d.effect mid replies w.1 sound tell)

pub given_is_told : GivenIsTold
given_is_told start h s c done new w given finished at = along_told s c start done new [] w (start_sound start h)
    (λ g f here. absurd (no_cursor g f here)) given finished at
  where
    no_cursor : (g : List Tuple) (f : Bool) → session_position start s c ≡ Some (open_at g f) → ⊥
    no_cursor g f here =
        let found : session_position (record start { sessions = [] }) s c ≡ Some (open_at g f) =
        subst (λ (xs : List Session). session_position (record start { sessions = xs }) s c
        ≡ Some (open_at g f)) h.none here
        in
        cc found

-- where names are apart, a cursor is found by its own
by_its_name : (ks : List Cursor) (k : Cursor) → AreApart (map (λ (z : Cursor). z.name) ks) → Contains ks k
    → cursor_of ks k.name ≡ Some k
by_its_name [] k apart h = absurd (nothing_there k h)
by_its_name (z ∷ ks) k apart h =
    by (first_or_later z ks k h) (bytes_eq z.name k.name) refl
    (λ c. by_its_name ks k (pairs_tail (λ a b. a ≢ b) z.name (map (λ (w : Cursor). w.name) ks) apart) c)
  where
    by : (z ≡ k) ⊎ Contains ks k → (b : Bool) → bytes_eq z.name k.name ≡ b
        → (Contains ks k → cursor_of ks k.name ≡ Some k) → cond b (Some z) (cursor_of ks k.name) ≡ Some k
    by (inl e) true is more = ap (λ w. Some w) e
    by (inl e) false is more = let yes : bytes_eq z.name k.name ≡ true = (bytes_eq-decides z.name k.name).1
        (ap (λ (w : Cursor). w.name) e) in absurd (cc (yes, is))
    by (inr c) true is more =
        let others = pairs_head (λ a b. a ≢ b) z.name (map (λ (w : Cursor). w.name) ks) apart in
        let there = mapped_there (λ (w : Cursor). w.name) ks k c in
        absurd (All-contains (λ n. z.name ≢ n) (map (λ (w : Cursor). w.name) ks) k.name others there
        (same_name z.name k.name is))
    by (inr c) false is more = more c

-- where no session is open, no cursor has given anything
pub nothing_given : (start : State) → IsStart start → CursorsGive start
nothing_given start h = subst (λ (xs : List Session). CursorsGive (record start { sessions = xs })) (sym h.none)
    (All-nil (λ (x : Session). All (λ (k : Cursor). PositionGives start.store.relations
    (listed_of start.store.queries k.query) k.position) x.cursors))

pub listed_is_told : ListedIsTold
listed_is_told start begins q s given done new w h =
    let sound = states_are_sound start begins done new w in
    let session = all_found (IsSoundSession new.store) (λ (x : Session). x.id == s) new.sessions h.session
    sound.sessions h.is_session in
    let found = by_its_name (h.session).cursors h.cursor session.names h.is_cursor in
    let at : session_position new s (h.cursor).name ≡ Some (open_at given true) =
    ap (λ o. position_in o (h.cursor).name) h.is_session ∙ ap (λ o. option_map (λ (k : Cursor). k.position) o) found
    ∙ ap (λ p. Some p) h.is_finished in (
      given_is_told start begins s (h.cursor).name done new w given true at,
      listed q s new given
          (runs_give start done new w (nothing_given start begins)) h,
    )
