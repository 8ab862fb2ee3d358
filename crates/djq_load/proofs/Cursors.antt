-- What the lines that open and read a cursor make of it, and what they are answered.
use Rattle.std.specs.Prelude.{List, [], ◌∷◌, ◌++◌, ◌<◌, Option, None, Some, IsSomeAnd, Contains, length, ◌≡◌, ◌≤◌, ◌⊎◌}
use Rattle.std.specs.Prelude.{Bool, true, false, cond, is_some, IsSome, MatchOption, option_map, Result, Ok, Err, codes}
use Rattle.std.specs.Prelude.{slice_index, ⊤}
use Rattle.std.proofs.Common.{sym, ap, ◌∙◌, subst, arith, append-nil, refl, inl, inr}
use Rattle.std.proofs.lemmas.Bool.{both_ways}
use Rattle.djq_model.specs.declared.relation.Relation.{Relation}
use Rattle.djq_model.specs.Data.{Tuple, Bytes, bytes_eq}
use Rattle.djq_model.specs.Listed.{Listed, AnswersOf, listed_of}
use Rattle.djq_value.specs.Token.{tokens}
use Rattle.djq_value.proofs.Texts.{ascii_utf8}
use Rattle.djq_protocol.specs.declared.answer.EndCause.{EndCause}
use Rattle.djq_protocol.specs.declared.answer.EndCause.TheVariants.{Memory}
use Rattle.djq_protocol.specs.declared.answer.Refusal.{Refusal}
use Rattle.djq_protocol.specs.declared.answer.Refusal.TheVariants.{Syntax, Taken, NoRelation, NoQuery, NoCursor, Arity}
use Rattle.djq_protocol.specs.declared.answer.Refusal.TheVariants.{WrongType, HeadUnbound, HeadRepeated, VariableType}
use Rattle.djq_protocol.specs.declared.answer.Refusal.TheVariants.{Unbound, Limit, NoMemory, InUse, Member, Misplaced}
use Rattle.djq_protocol.specs.declared.answer.Refusal.TheVariants.{NoCopy, OtherCount}
use Rattle.djq_store_spec.specs.Held.{HeldTransaction}
use Rattle.djq_protocol.specs.declared.command.Command.{Command}
use Rattle.djq_protocol.specs.declared.command.Command.TheVariants.{Open, Next}
use Rattle.djq_protocol.specs.Line.{a_line, front_of, is_blank}
use Rattle.djq_protocol.specs.Grammar.{Reading, says_command, reading_of, reading_in, command_of, command_in}
use Rattle.djq_protocol.specs.Grammar.{takes_memory_to_read}
use Rattle.djq_protocol.specs.Conditions.{Answers}
use Rattle.djq_protocol.specs.Reply.{refusal_line, end_memory, listing_lines, text_of, ok_reply}
use Rattle.djq_store_spec.specs.Store.{Store, open_at}
use Rattle.djq_store_spec.specs.Listing.{IsLeft, AreAll}
use Rattle.djq_answer_laws.proofs.Lists.{some_there, none_some}
use Rattle.djq_machine.specs.State.{State, Session, Cursor, session_of, with_session, cursor_of, with_position}
use Rattle.djq_machine.specs.State.{ended_by}
use Rattle.djq_machine.specs.Effect.{Effect, nothing, says, EndsWith, RefusedStep}
use Rattle.djq_machine.specs.Step.{Event, with_relations, Step, fed, stepped, took, FedStep, TookStep}
use Rattle.djq_machine.specs.Command.{open_refusal, with_cursor, OpensTo, NextStep, NextCutStep, NextStepAt}
use Rattle.djq_machine.specs.Command.{CommandStep, is_misplaced}
use Rattle.djq_machine.specs.LineStep.{blank, run, FrontStep, ReadStep, behind_line}
use Rattle.djq_machine.specs.Run.{to_session, pending_of, pending_in}
use Rattle.djq_machine.specs.Call.{IsOpen, Makes, Counts, cause_of, cause_in, held_of, held_in}
use Rattle.djq_run_laws.specs.Watched.{batch_in}
use Rattle.djq_run_laws.proofs.RegisteredQueries.{SameAnswers, reordered_same}
use Rattle.djq_run_laws.proofs.Deltas.{queued_store}
use Rattle.djq_run_laws.proofs.Lists.{find_changed, gaining, session_changed, stepped as session_stepped, stepped_cause}
use Rattle.djq_run_laws.proofs.Lists.{stepped_pending}
use Rattle.djq_run_laws.proofs.Events.{says_to, is_stepped}
use Rattle.djq_run_laws.proofs.TakenLines.{a_line_in}
use Rattle.djq_load.specs.Totals.{HasLeft, open_line, next_line}
use Rattle.djq_load.specs.Lines.{SessionIsIdle, LineRuns, TakesAll, session_cursors, cursor_at, CursorStands}
use Rattle.djq_load.proofs.IdleSessions.{RanStep, ran, is_fed}

-- ---- What is left of a query's answers from step to step.

moved : (rs rs' : List Relation) (o : Option Listed) (given : List Tuple) → ((q : Listed) → SameAnswers rs rs' q)
    → IsSomeAnd o (λ q. (t : Tuple) × IsLeft (AnswersOf rs q) given t)
    → IsSomeAnd o (λ q. (t : Tuple) × IsLeft (AnswersOf rs' q) given t)
moved rs rs' None given same h = h
moved rs rs' (Some q) given same (t, h) = (t, ((same q).there t h.0, h.1))

-- What is queued and how the rows are ordered are nothing to it.
pub step_left : (old : State) (event : Event) (e : Effect) (new : State) (h : Step old event e new) (given : List Tuple)
    → HasLeft h.mid.store given → HasLeft new.store given
step_left old event e new h given left =
    let mid = h.mid in
    subst (λ (store : Store). HasLeft store given)
    (sym (ap (λ (st : State). st.store) h.queued ∙ queued_store (with_relations mid h.relations) e.queued))
    (moved mid.store.relations h.relations _ given (λ q. reordered_same mid.store.relations h.relations q h.reordered)
    left)

-- Where some are left and then none is, some are told.
pub some_told : (Answer : Tuple → Type 0) (given told : List Tuple) → ((t : Tuple) × IsLeft Answer given t)
    → AreAll Answer (given ++ told) → 0 < length told
some_told Answer given [] (t, h) all = absurd
    (h.1 (subst (λ (ts : List Tuple). Contains ts t) (append-nil given) (all t h.0)))
some_told Answer given (u ∷ told) left all = omega arith

-- ---- What the lines that open and read a cursor make of it, and what they are answered.

-- What a session has: its cursors, and its batch.
abbrev Has : Type 0
Has = List Cursor × Option HeldTransaction

abbrev has_in : Option Session → Has
has_in o = (session_cursors o, batch_in o)

abbrev has_of : State → Has
has_of st = has_in (session_of st 1)

has_gained : (bytes : Bytes) (o : Option Session) → has_in (option_map (gaining bytes) o) ≡ has_in o
has_gained bytes None = refl
has_gained bytes (Some x) = refl

has_kept : (f : Session → Session) → ((x : Session) → has_in (Some (f x)) ≡ has_in (Some x))
    → (o : Option Session) → has_in (option_map f o) ≡ has_in o
has_kept f keeps None = refl
has_kept f keeps (Some x) = keeps x

-- what is queued leaves them
stepped_has : (old : State) (event : Event) (e : Effect) (new : State) (h : Step old event e new)
    → has_of new ≡ has_of h.mid
stepped_has old event e new h =
    ap has_in (session_stepped old event e new h 1) ∙ has_gained (to_session 1 e.queued) (session_of h.mid 1)

changed_has : (old mid : State) (f : Session → Session) → ((x : Session) → (f x).id ≡ x.id)
    → ((x : Session) → has_in (Some (f x)) ≡ has_in (Some x)) → mid ≡ with_session old 1 f → has_of mid ≡ has_of old
changed_has old mid f same keeps after =
    ap has_of after ∙ ap has_in (session_changed old 1 f same) ∙ has_kept f keeps (session_of old 1)

-- the cursor stands where they are the same
stands_by : (given : List Tuple) (ended : Bool) (old new : State) → has_of new ≡ has_of old
    → CursorStands old given ended → CursorStands new given ended
stands_by given ended old new same stands = record {
  cursor = ap (λ (has : Has). cursor_of has.0 (codes "c")) same ∙ stands.cursor;
  batch = ap (λ (has : Has). has.1) same ∙ stands.batch;
}

-- a session that ends out of memory has its cause
ended_cause : (old mid : State) (x : Session) → session_of old 1 ≡ Some x → mid ≡ with_session old 1 (ended_by Memory)
    → cause_of mid 1 ≡ Some Memory
ended_cause old mid x found after =
    ap (λ (st : State). cause_of st 1) after
    ∙ ap cause_in (session_changed old 1 (ended_by Memory) (λ y. refl)
    ∙ ap (λ o. option_map (ended_by Memory) o) found)

fed_store : (old : State) (line : Bytes) (x : Session) (e : Effect) (mid : State) (c : Option EndCause)
    → MatchOption c
    (((e ≡ nothing) × (mid ≡ with_session old 1 (λ y. record y { held = y.held ++ line }))) ⊎ EndsWith end_memory Memory
    old 1 e mid)
    (λ _. (e ≡ nothing) × (mid ≡ old))
    → mid.store ≡ old.store
fed_store old line x e mid None (inl h) = ap (λ (st : State). st.store) h.1
fed_store old line x e mid None (inr h) = ap (λ (st : State). st.store) h.1
fed_store old line x e mid (Some c) h = ap (λ (st : State). st.store) h.1

-- The answers that are left stay so as bytes come, or are taken.
fed_left : (line : Bytes) (old mid : State) (given : List Tuple) → Makes old (fed 1 line) mid → HasLeft old.store given
    → HasLeft mid.store given
fed_left line old mid given m left =
    let h = m.step in
    let f = some_there (session_of old 1) (λ x. FedStep old 1 line x m.effect h.mid) h.acts in
    step_left old (fed 1 line) m.effect mid h given
    (subst (λ (store : Store). HasLeft store given) (sym (fed_store old line f.0 m.effect h.mid (f.0).cause f.2))
    left)

pub took_left : (old new : State) (given : List Tuple) → TakesAll old new → HasLeft old.store given
    → HasLeft new.store given
took_left old new given (inl (none, same)) left = subst (λ (st : State). HasLeft st.store given) (sym same) left
took_left old new given (inr (some, m)) left =
    let h = m.step in
    let bytes = pending_of old 1 in
    let f = some_there (session_of old 1) (λ x. TookStep old 1 bytes x m.effect h.mid) h.acts in
    step_left old (took 1 bytes) m.effect new h given
    (subst (λ (st : State). HasLeft st.store given) (sym f.2.1.2) left)

fed_by_cause : (old : State) (line : Bytes) (x : Session) (e : Effect) (mid : State) (c : Option EndCause)
    → session_of old 1 ≡ Some x → cause_of mid 1 ≡ None
    → MatchOption c
    (((e ≡ nothing) × (mid ≡ with_session old 1 (λ y. record y { held = y.held ++ line }))) ⊎ EndsWith end_memory Memory
    old 1 e mid)
    (λ _. (e ≡ nothing) × (mid ≡ old))
    → has_of mid ≡ has_of old
fed_by_cause old line x e mid None found running (inl h) = changed_has old mid (λ y. record y { held = y.held ++ line })
    (λ y. refl) (λ y. refl) h.1
fed_by_cause old line x e mid None found running (inr h) = absurd
    (none_some (cause_of mid 1) Memory running (ended_cause old mid x found h.1))
fed_by_cause old line x e mid (Some c) found running h = ap has_of h.1

fed_has : (line : Bytes) (old mid : State) → cause_of mid 1 ≡ None → Makes old (fed 1 line) mid
    → has_of mid ≡ has_of old
fed_has line old mid running m =
    let h = m.step in
    let f = some_there (session_of old 1) (λ x. FedStep old 1 line x m.effect h.mid) h.acts in
    stepped_has old (fed 1 line) m.effect mid h
    ∙ fed_by_cause old line f.0 m.effect h.mid (f.0).cause f.1
    (sym (stepped_cause old (fed 1 line) m.effect mid h 1) ∙ running) f.2

took_has : (old new : State) → TakesAll old new → has_of new ≡ has_of old
took_has old new (inl (none, same)) = ap has_of same
took_has old new (inr (some, m)) =
    let h = m.step in
    let bytes = pending_of old 1 in
    let f = some_there (session_of old 1) (λ x. TookStep old 1 bytes x m.effect h.mid) h.acts in
    stepped_has old (took 1 bytes) m.effect new h
    ∙ changed_has old h.mid (λ y. record y { pending = f.2.1.0 }) (λ y. refl) (λ y. refl) f.2.1.2

-- A line that isn't blank was run: as what it is read as.
record Runs (text : Bytes) (mid new : State) : Type 0 where
  event : Event
  effect : Effect
  step : Step mid event effect new
  session : Session
  found : session_of mid 1 ≡ Some session
  rest : Bytes
  reads : ReadStep (with_session mid 1 (behind_line rest)) 1 (behind_line rest session) text (reading_of text) effect
      step.mid
  stays : IsOpen step.mid 1
  pending : pending_of step.mid 1 ≡ pending_of mid 1

text_is : (line text l rest : Bytes) (x : Session) (mid : State) → held_of mid 1 ≡ line → front_of line ≡ a_line text []
    → session_of mid 1 ≡ Some x → front_of x.held ≡ a_line l rest → l ≡ text
text_is line text l rest x mid held is found front = ap a_line_in
    (sym front ∙ ap front_of (sym (ap held_in found) ∙ held) ∙ is)

runs : (line text : Bytes) (mid new : State) (before now : Counts) → held_of mid 1 ≡ line → front_of line
    ≡ a_line text [] → is_blank text ≡ false → RanStep mid new before now → Runs text mid new
runs line text mid new before now held is full (l, inl m) =
    let h = m.step in
    let f = some_there (session_of mid 1) (λ x. (x.cause ≡ None) × FrontStep mid 1 x (blank l) m.effect h.mid) h.acts in
    let t = f.2.1.1 in
    absurd (both_ways (is_blank text) full
    (ap is_blank (sym (text_is line text l t.rest f.0 mid held is f.1 t.front)) ∙ f.2.1.0))
runs line text mid new before now held is full (l, inr m) =
    let h = m.step in
    let f = some_there (session_of mid 1) (λ x. (x.cause ≡ None) × FrontStep mid 1 x (run l) m.effect h.mid) h.acts in
    let t = f.2.1.2 in
    let e = text_is line text l t.rest f.0 mid held is f.1 t.front in
    let k = is_stepped mid 1 f.0 (run l) m.effect h.mid f.1 f.2.0 f.2.1 in
    record {
      event = stepped 1 (run l);
      effect = m.effect;
      step = h;
      session = f.0;
      found = f.1;
      rest = t.rest;
      reads = subst (λ (k : Bytes). ReadStep (with_session mid 1 (behind_line t.rest)) 1 (behind_line t.rest f.0) k
          (reading_of k) m.effect h.mid) e t.then;
      stays = subst (λ (o : Option Session). IsSome o) (sym (k.touches).now) refl;
      pending = ap pending_in (k.touches).now ∙ k.pending ∙ sym (ap pending_in f.1);
    }

-- The session behind its line.
behind_found : (mid : State) (x : Session) (rest : Bytes) → session_of mid 1 ≡ Some x
    → session_of (with_session mid 1 (behind_line rest)) 1 ≡ Some (behind_line rest x)
behind_found mid x rest found = session_changed mid 1 (behind_line rest) (λ y. refl)
    ∙ ap (λ o. option_map (behind_line rest) o) found

-- the state behind a command that changed the session's cursors
changed_to : (st m : State) (y : Session) (f : Session → Session) → ((x : Session) → (f x).id ≡ x.id) → session_of st 1
    ≡ Some y → m ≡ with_session st 1 f → session_of m 1 ≡ Some (f y)
changed_to st m y f same found after = ap (λ (s : State). session_of s 1) after ∙ session_changed st 1 f same
    ∙ ap (λ o. option_map f o) found

-- what is pending behind a step
pending_behind : (mid new : State) (event : Event) (e : Effect) (h : Step mid event e new) (z : Session) (text : Bytes)
    → session_of h.mid 1 ≡ Some z → z.pending ≡ [] → to_session 1 e.queued ≡ text → pending_of new 1 ≡ text
pending_behind mid new event e h z text found none queued =
    stepped_pending mid event e new h 1 (subst (λ (o : Option Session). IsSome o) (sym found) refl)
    ∙ ap (λ (o : Option Session). pending_in o ++ to_session 1 e.queued) found
    ∙ ap (λ (p : Bytes). p ++ to_session 1 e.queued) none ∙ queued

-- Reading the cursor.
pub record Tells (given : List Tuple) (old new : State) : Type 0 where
  pub told : List Tuple
  pub end : Bool
  pub stands : CursorStands new (given ++ told) end
  pub pending : pending_of new 1 ≡ text_of (listing_lines told end)
  pub few : length told ≤ 1000
  pub full : end ≡ false → length told ≡ 1000
  pub some : HasLeft old.store given → end ≡ true → 0 < length told
  pub left : end ≡ false → HasLeft new.store (given ++ told)

record NextTold (given : List Tuple) (st : State) (y : Session) (e : Effect) (m : State) : Type 0 where
  told : List Tuple
  end : Bool
  few : length told ≤ 1000
  full : end ≡ false → length told ≡ 1000
  some : HasLeft st.store given → end ≡ true → 0 < length told
  left : end ≡ false → HasLeft m.store (given ++ told)
  queued : to_session 1 e.queued ≡ text_of (listing_lines told end)
  session : Session
  found : session_of m 1 ≡ Some session
  cursors : session.cursors ≡ with_position y.cursors (codes "c") (open_at (given ++ told) end)
  batch : session.batch ≡ y.batch
  pending : session.pending ≡ y.pending

next_told : (given : List Tuple) (st : State) (y : Session) (q : Listed) (e : Effect) (m : State) → session_of st 1
    ≡ Some y → listed_of st.store.queries (codes "q") ≡ Some q → cause_of m 1 ≡ None
    → NextStep st 1 (codes "c") q given 1000 e m ⊎ NextCutStep st 1 q given 1000 e m → NextTold given st y e m
next_told given st y q e m found registered running (inl h) = record {
  told = h.told;
  end = h.end;
  few = (h.tells).at_most;
  full = (h.tells).all_asked;
  some = λ left ends. some_told (AnswersOf st.store.relations q) given h.told
      (subst (λ (o : Option Listed). IsSomeAnd o (λ p. (t : Tuple) × IsLeft (AnswersOf st.store.relations p) given t))
      registered left) ((h.tells).none_left ends);
  left = λ goes. subst (λ (store : Store). HasLeft store (given ++ h.told)) (sym (ap (λ (s : State). s.store) h.state))
      (subst (λ (o : Option Listed). IsSomeAnd o
      (λ p. (t : Tuple) × IsLeft (AnswersOf st.store.relations p) (given ++ h.told) t)) (sym registered)
      ((h.tells).some_left goes));
  queued = ap (λ (d : Effect). to_session 1 d.queued) h.effect ∙ says_to 1 (text_of (listing_lines h.told h.end));
  session = record y { cursors = with_position y.cursors (codes "c") (open_at (given ++ h.told) h.end) };
  found = changed_to st m y
      (λ x. record x { cursors = with_position x.cursors (codes "c") (open_at (given ++ h.told) h.end) }) (λ x. refl)
      found h.state;
  cursors = refl;
  batch = refl;
  pending = refl;
}
next_told given st y q e m found registered running (inr h) = absurd
    (none_some (cause_of m 1) Memory running (ended_cause st m y found h.state))

-- What a line that says a command does, by whether the command is misplaced, and whether memory is there to read it.
abbrev ReadAs : State → Session → Bytes → Command → Effect → State → Bool → Type 0
ReadAs st y l c e m true = CommandStep st 1 y l c e m
ReadAs st y l c e m false = (takes_memory_to_read c ≡ true) × RefusedStep st 1 NoMemory e m

abbrev CarriedOut : State → Session → Bytes → Command → Effect → State → Bool → Type 0
CarriedOut st y l c e m true = RefusedStep st 1 Misplaced e m
CarriedOut st y l c e m false = (is_read : Bool) × ReadAs st y l c e m is_read

-- a command that isn't misplaced, and takes no memory to read
carried_out : (st : State) (y : Session) (l : Bytes) (c : Command) (e : Effect) (m : State) (misplaced : Bool)
    → misplaced ≡ false → takes_memory_to_read c ≡ false → CarriedOut st y l c e m misplaced
    → CommandStep st 1 y l c e m
carried_out st y l c e m true is takes h = absurd cc
carried_out st y l c e m false is takes (true, h) = h
carried_out st y l c e m false is takes (false, h) = absurd (both_ways (takes_memory_to_read c) takes h.0)

next_at : (given : List Tuple) (ended : Bool) (st : State) (y : Session) (e : Effect) (m : State)
    → session_of st 1 ≡ Some y → cursor_of y.cursors (codes "c") ≡ Some (cursor_at given ended) → y.batch ≡ None
    → cause_of m 1 ≡ None → ReadStep st 1 y (codes "next c 1000") (says_command (Next (codes "c") 1000)) e m
    → NextTold given st y e m
next_at given ended st y e m found stands none running h =
    let next = Next (codes "c") 1000 in
    let done : CommandStep st 1 y (codes "next c 1000") next e m =
    carried_out st y (codes "next c 1000") next e m (is_misplaced y.batch next)
    (ap (λ (batch : Option HeldTransaction). is_misplaced batch next) none) refl h in
    let at : IsSomeAnd (listed_of st.store.queries (codes "q"))
    (λ q. NextStepAt st 1 (codes "c") q 1000 (open_at given ended) e m) =
    subst (λ (o : Option Cursor). MatchOption o (RefusedStep st 1 NoCursor e m)
    (λ k. IsSomeAnd (listed_of st.store.queries k.query) (λ q. NextStepAt st 1 (codes "c") q 1000 k.position e m)))
    stands done in
    let q = some_there (listed_of st.store.queries (codes "q"))
    (λ q. NextStepAt st 1 (codes "c") q 1000 (open_at given ended) e m) at in
    next_told given st y q.0 e m found q.1 running q.2

next_reads : reading_of (codes "next c 1000") ≡ says_command (Next (codes "c") 1000)
unfolding command_of tokens
next_reads = ap (λ (b : Bool). reading_in (cond b (command_in (tokens (codes "next c 1000"))) None))
    (ascii_utf8 (codes "next c 1000") refl)

-- The cursor is at another place.
moved_cursors : (given more : List Tuple) (ended end : Bool) (cursors : List Cursor) → cursor_of cursors (codes "c")
    ≡ Some (cursor_at given ended)
    → cursor_of (with_position cursors (codes "c") (open_at more end)) (codes "c") ≡ Some (cursor_at more end)
moved_cursors given more ended end cursors stands =
    find_changed (λ (c : Cursor). bytes_eq c.name (codes "c"))
    (λ (c : Cursor). record c { position = open_at more end }) (λ c. refl) cursors
    ∙ ap (λ (o : Option Cursor). option_map (λ (c : Cursor). record c { position = open_at more end }) o) stands

next_run : (given : List Tuple) (ended : Bool) (mid new : State) → CursorStands mid given ended → pending_of mid 1 ≡ []
    → cause_of new 1 ≡ None → Runs (codes "next c 1000") mid new → Tells given mid new
next_run given ended mid new stands pending running r =
    let st = with_session mid 1 (behind_line r.rest) in
    let y = behind_line r.rest r.session in
    let here = behind_found mid r.session r.rest r.found in
    let stays : cursor_of y.cursors (codes "c")
    ≡ Some (cursor_at given ended) =
    ap (λ (o : Option Session). cursor_of (session_cursors o) (codes "c")) (sym r.found)
    ∙ stands.cursor in
    let none : y.batch ≡ None = ap batch_in (sym r.found) ∙ stands.batch in
    let reads = subst (λ (k : Reading). ReadStep st 1 y (codes "next c 1000") k r.effect (r.step).mid) next_reads
    r.reads in
    let t = next_at given ended st y r.effect (r.step).mid here stays none
    (sym (stepped_cause mid r.event r.effect new r.step 1) ∙ running) reads in
    record {
      told = t.told;
      end = t.end;
      stands = stands_by (given ++ t.told) t.end (r.step).mid new (stepped_has mid r.event r.effect new r.step)
          (record {
            cursor = ap (λ (cs : List Cursor). cursor_of cs (codes "c")) (ap session_cursors t.found ∙ t.cursors)
                ∙ moved_cursors given (given ++ t.told) ended t.end y.cursors stays;
            batch = ap batch_in t.found ∙ t.batch ∙ none;
          });
      pending = pending_behind mid new r.event r.effect r.step t.session (text_of (listing_lines t.told t.end)) t.found
          (t.pending ∙ sym (ap pending_in r.found) ∙ pending) t.queued;
      few = t.few;
      full = t.full;
      some = t.some;
      left = λ goes. step_left mid r.event r.effect new r.step (given ++ t.told) (t.left goes);
    }

next_front : front_of next_line ≡ a_line (codes "next c 1000") []
next_front = refl

-- The line that reads the cursor was run.
pub next_tells : (given : List Tuple) (ended : Bool) (old : State) (before : Counts) (new : State) (now : Counts)
    → SessionIsIdle old → CursorStands old given ended → LineRuns next_line old before new now → Tells given old new
next_tells given ended old before new now idle stands h =
    let mid = h.mid in
    let here = is_fed next_line old mid idle h.is_held h.comes in
    let t = next_run given ended mid new
    (stands_by given ended old mid (fed_has next_line old mid h.is_held h.comes) stands) here.pending h.running
    (runs next_line (codes "next c 1000") mid new before now here.held next_front refl (ran next_line old before new now h)) in
    record {
      told = t.told;
      end = t.end;
      stands = t.stands;
      pending = t.pending;
      few = t.few;
      full = t.full;
      some = λ left. t.some (fed_left next_line old mid given h.comes left);
      left = t.left;
    }

-- Opening it.
open_reads : reading_of (codes "open c q") ≡ says_command (Open (codes "c") (codes "q"))
unfolding command_of tokens
open_reads = ap (λ (b : Bool). reading_in (cond b (command_in (tokens (codes "open c q"))) None))
    (ascii_utf8 (codes "open c q") refl)

first_letter : (r : Refusal) → slice_index (refusal_line r) 0 ≡ 101
first_letter Syntax = refl
first_letter Taken = refl
first_letter NoRelation = refl
first_letter NoQuery = refl
first_letter NoCursor = refl
first_letter Arity = refl
first_letter WrongType = refl
first_letter HeadUnbound = refl
first_letter HeadRepeated = refl
first_letter VariableType = refl
first_letter Unbound = refl
first_letter Limit = refl
first_letter NoMemory = refl
first_letter InUse = refl
first_letter Member = refl
first_letter Misplaced = refl
first_letter NoCopy = refl
first_letter OtherCount = refl

not_refused : (r : Refusal) → refusal_line r ≡ codes "ok open\n" → ⊥
not_refused r e = let k = sym (first_letter r) ∙ ap (λ (bs : Bytes). slice_index bs 0) e in absurd (omega (arith, k))

-- no cursor of the name was there
is_new : (b : Bool) (more : Option Refusal) → (D : ⊤ → Type 0) (L : Refusal → Type 0) (u : ⊤)
    → Answers (cond b (Some Taken) more) (Ok u) D L → b ≡ false
is_new true more D L u h = absurd h
is_new false more D L u h = refl

none_found : (o : Option Cursor) → is_some o ≡ false → o ≡ None
none_found None h = refl
none_found (Some c) h = absurd cc

found_last : (cursors : List Cursor) → cursor_of cursors (codes "c") ≡ None
    → cursor_of (cursors ++ cursor_at [] false ∷ []) (codes "c") ≡ Some (cursor_at [] false)
found_last [] h = refl
found_last (c ∷ cursors) h = at_first (bytes_eq c.name (codes "c")) h (λ k. found_last cursors k)
  where
    at_first : (b : Bool) → cond b (Some c) (cursor_of cursors (codes "c")) ≡ None
        → (cursor_of cursors (codes "c") ≡ None → cursor_of (cursors ++ cursor_at [] false ∷ []) (codes "c")
        ≡ Some (cursor_at [] false))
        → cond b (Some c) (cursor_of (cursors ++ cursor_at [] false ∷ []) (codes "c")) ≡ Some (cursor_at [] false)
    at_first true k rest = absurd cc
    at_first false k rest = rest k

told_refused : (r : Refusal) (e : Effect) → e ≡ says 1 (refusal_line r) → to_session 1 e.queued ≡ codes "ok open\n"
    → ⊥
told_refused r e effect told =
    not_refused r
    (sym (says_to 1 (refusal_line r)) ∙ sym (ap (λ (d : Effect). to_session 1 d.queued) effect) ∙ told)

opened_by : (L : Refusal → Type 0) (st : State) (y : Session) (e : Effect) (m : State) (result : Result ⊤ Refusal)
    → session_of st 1 ≡ Some y → y.batch ≡ None → to_session 1 e.queued ≡ codes "ok open\n"
    → Answers (open_refusal st.store y.cursors (codes "c") (codes "q")) result (λ _. ⊤) L → e
    ≡ says 1 (ok_reply (codes "ok open") result) → OpensTo st 1 (codes "c") (codes "q") m result
    → CursorStands m [] false
opened_by L st y e m (Ok u) found none told answer effect after =
    let now = changed_to st m y (with_cursor (codes "c") (codes "q")) (λ x. refl) found after in
    record {
      cursor = ap (λ (o : Option Session). cursor_of (session_cursors o) (codes "c")) now
          ∙ found_last y.cursors
          (none_found (cursor_of y.cursors (codes "c"))
          (is_new (is_some (cursor_of y.cursors (codes "c"))) _ _ _ u answer));
      batch = ap batch_in now ∙ none;
    }
opened_by L st y e m (Err r) found none told answer effect after = absurd (told_refused r e effect told)

-- a cursor is opened where no batch is open
open_placed : (batch : Option HeldTransaction) → is_misplaced batch (Open (codes "c") (codes "q")) ≡ false
    → batch ≡ None
open_placed None e = refl
open_placed (Some held) e = absurd cc

open_at_once : (st : State) (y : Session) (e : Effect) (m : State) → session_of st 1 ≡ Some y → to_session 1 e.queued
    ≡ codes "ok open\n"
    → ReadStep st 1 y (codes "open c q") (says_command (Open (codes "c") (codes "q"))) e m → CursorStands m [] false
open_at_once st y e m found told h = by (is_misplaced y.batch opens) refl h
  where
    opens : Command
    opens = Open (codes "c") (codes "q")

    by : (misplaced : Bool) → is_misplaced y.batch opens ≡ misplaced
        → CarriedOut st y (codes "open c q") opens e m misplaced → CursorStands m [] false
    by true is k = absurd (told_refused Misplaced e k.0 told)
    by false is k =
        let done : CommandStep st 1 y (codes "open c q") opens e m =
        carried_out st y (codes "open c q") opens e m false refl refl k in
        opened_by _ st y e m done.result found (open_placed y.batch is) told done.answer done.effect done.state

open_run : (mid new : State) → pending_of mid 1 ≡ [] → pending_of new 1 ≡ codes "ok open\n"
    → Runs (codes "open c q") mid new → CursorStands new [] false
open_run mid new none told r =
    let st = with_session mid 1 (behind_line r.rest) in
    let y = behind_line r.rest r.session in
    let queued : to_session 1 (r.effect).queued ≡ codes "ok open\n" =
    sym (stepped_pending mid r.event r.effect new r.step 1 r.stays
    ∙ ap (λ (p : Bytes). p ++ to_session 1 (r.effect).queued) (r.pending ∙ none)) ∙ told in
    stands_by [] false (r.step).mid new (stepped_has mid r.event r.effect new r.step)
    (open_at_once st y r.effect (r.step).mid (behind_found mid r.session r.rest r.found) queued
    (subst (λ (k : Reading). ReadStep st 1 y (codes "open c q") k r.effect (r.step).mid) open_reads r.reads))

open_front : front_of open_line ≡ a_line (codes "open c q") []
open_front = refl

-- The line that opens the cursor was run, and answered so.
pub open_stands : (old : State) (before : Counts) (mid : State) (now : Counts) (new : State) → SessionIsIdle old
    → LineRuns open_line old before mid now → pending_of mid 1 ≡ codes "ok open\n" → TakesAll mid new
    → CursorStands new [] false
open_stands old before mid now new idle h told takes =
    let here = is_fed open_line old h.mid idle h.is_held h.comes in
    stands_by [] false mid new (took_has mid new takes)
    (open_run h.mid mid here.pending told
    (runs open_line (codes "open c q") h.mid mid before now here.held open_front refl (ran open_line old before mid now h)))

-- Taking what is pending leaves the cursor.
pub stands_on : (given : List Tuple) (ended : Bool) (old new : State) → TakesAll old new → CursorStands old given ended
    → CursorStands new given ended
stands_on given ended old new takes stands = stands_by given ended old new (took_has old new takes) stands
