-- What a step does to the session of its event, how a course goes on, and the headline over it.
use Rattle.std.specs.Prelude.{ℕ, [], ◌≡◌, ◌++◌, Option, None, Some, All}
use Rattle.std.proofs.Common.{refl, sym, ap, ◌∙◌, subst, append-nil, List, ◌∷◌, ◌+◌, ◌≤◌, ◌≢◌, true, false}
use Rattle.std.proofs.Common.{length, take, append_assoc, arith}
use Rattle.std.proofs.lemmas.Grind.{flat_map-append}
use Rattle.std.proofs.lemmas.List.{take-append-le, take_all}
use Rattle.std.proofs.lemmas.List.Elements.{All-nil, All-cons, All-append}
use Rattle.std.proofs.lemmas.List.Sums.{sum_by-cons}
use Rattle.djq_io.specs.declared.sink.Write.{Write}
use Rattle.djq_io.specs.declared.sink.Wrote.TheVariants.{Took, Failed}
use Rattle.djq_io.specs.Source.{SourceGives}
use Rattle.djq_io.specs.Sink.{Gains, bytes_of, NoneFailed}
use Rattle.djq_io.proofs.Streams.{gives_none, gives_more, gains_none, gains_more, bytes_more, took_well}
use Rattle.djq_model.specs.Data.{Bytes}
use Rattle.djq_protocol.specs.declared.answer.EndCause.{EndCause}
use Rattle.djq_protocol.specs.Reply.{end_memory}
use Rattle.djq_answer_laws.proofs.Lists.{some_there}
use Rattle.djq_machine.specs.State.{State, Session, session_of}
use Rattle.djq_machine.specs.Effect.{Effect, lost_line}
use Rattle.djq_machine.specs.LineStep.{LineOutcome, FrontStep}
use Rattle.djq_machine.specs.Step.{Event, fed, stepped, took, ended, Step, is_dry, FedStep, TookStep, EndedStep, opened}
use Rattle.djq_machine.specs.Step.{closed, cut_line}
use Rattle.djq_machine.specs.Run.{to_session, pending_of, pending_in, Did, Walk, all_taken, taken_from, pieces_of}
use Rattle.djq_machine.specs.Run.{piece_of, out, cost_of}
use Rattle.djq_machine.specs.Call.{IsOpen, cause_of, held_of, cause_in, held_in}
use Rattle.djq_machine.specs.Gives.{CursorsGive}
pub use Rattle.djq_run_laws.specs.Moved.{SessionTakes, InputComes, is_held, out_of_memory, is_dropped, InputIsOver}
pub use Rattle.djq_run_laws.specs.Moved.{input_ends, had_ended, LineIsStepped, CausedBy, LeavesHeldBytes}
use Rattle.djq_run_laws.specs.Course.{Outside, Course, RunNext, MayRun, RunDoes, ListsStep, writes_by, last_write}
use Rattle.djq_run_laws.specs.Moved.{SparesSession, batch_in}
use Rattle.djq_run_laws.specs.Given.{CoursesGive}
use Rattle.djq_run_laws.proofs.Lists.{stepped_open, stepped_cause, stepped_held, stepped_pending}
use Rattle.djq_run_laws.proofs.Events.{Touches, FedTo, is_held as holds, out_of_memory as runs_out, is_dropped as drops}
use Rattle.djq_run_laws.proofs.Events.{is_fed, EndedTo, input_ends as ends_input, had_ended as had, is_ended, is_taken}
use Rattle.djq_run_laws.proofs.Events.{is_stepped, run_bytes, gone_taken, next_runs}
use Rattle.djq_run_laws.proofs.TakenLines.{in_order}
use Rattle.djq_run_laws.proofs.Cursors.{SessionGives, runs_give}

-- ---- What a step does to the session that its event is of.

-- The session of an event after the step: what the event made of it, and what is queued to it.
pub record Becomes (new : State) (s : ℕ) (y : Session) (text : Bytes) : Type 0 where
  pub stays : IsOpen new s
  pub pending : pending_of new s ≡ y.pending ++ text
  pub held : held_of new s ≡ y.held
  pub cause : cause_of new s ≡ y.cause

pub becomes : (old : State) (event : Event) (e : Effect) (new : State) (h : Step old event e new) (s : ℕ)
    (x y : Session) → Touches old s x e h.mid y → Becomes new s y (to_session s e.queued)
becomes old event e new h s x y t =
    let still : IsOpen h.mid s = rw t.now refl in
    record {
      stays = stepped_open old event e new h s still;
      pending = stepped_pending old event e new h s still ∙ ap (λ o. pending_in o ++ to_session s e.queued) t.now;
      held = stepped_held old event e new h s ∙ ap held_in t.now;
      cause = stepped_cause old event e new h s ∙ ap cause_in t.now;
    }

-- what is pending where nothing is queued, and where a text is
quiet_pending : (old new : State) (s : ℕ) (x y : Session) (text : Bytes) → session_of old s ≡ Some x → pending_of new s
    ≡ y.pending ++ text → y.pending ≡ x.pending → text ≡ [] → pending_of new s ≡ pending_of old s
quiet_pending old new s x y text found pending same none = pending ∙ ap (λ t. y.pending ++ t) none
    ∙ append-nil y.pending ∙ same ∙ sym (ap pending_in found)

said_pending : (old new : State) (s : ℕ) (x y : Session) (text line : Bytes) → session_of old s ≡ Some x
    → pending_of new s ≡ y.pending ++ text → y.pending ≡ x.pending → text ≡ line → pending_of new s
    ≡ pending_of old s ++ line
said_pending old new s x y text line found pending same said = pending ∙ ap (λ t. y.pending ++ t) said
    ∙ ap (λ p. p ++ line) (same ∙ sym (ap pending_in found))

pub took_facts : (old : State) (s : ℕ) (bytes : Bytes) (e : Effect) (new : State) → Step old (took s bytes) e new
    → SessionTakes old new s bytes
took_facts old s bytes e new h =
    let f = some_there (session_of old s) (λ x. TookStep old s bytes x e h.mid) h.acts in
    let t = is_taken old s bytes f.0 e h.mid f.1 f.2 in
    let b = becomes old (took s bytes) e new h s f.0 t.session t.touches in
    record {
      stays = b.stays;
      pending = ap pending_in f.1 ∙ t.pending
          ∙ ap (λ p. bytes ++ p)
          (sym (b.pending ∙ ap (λ q. (t.session).pending ++ q) t.quiet ∙ append-nil (t.session).pending));
      held = b.held ∙ t.held ∙ sym (ap held_in f.1);
      cause = b.cause ∙ t.cause ∙ sym (ap cause_in f.1);
    }

comes : (old new : State) (s : ℕ) (bytes : Bytes) (x y : Session) (text : Bytes) → session_of old s ≡ Some x → y.pending
    ≡ x.pending → Becomes new s y text → FedTo x y bytes text → InputComes old new s bytes
comes old new s bytes x y text found same b (holds running still held none) =
    is_held b.stays (ap cause_in found ∙ running) (b.cause ∙ still)
    (b.held ∙ held ∙ sym (ap (λ o. held_in o ++ bytes) found))
    (quiet_pending old new s x y text found b.pending same none)
comes old new s bytes x y text found same b (runs_out running so held said) =
    out_of_memory b.stays (ap cause_in found ∙ running) (b.cause ∙ so) (b.held ∙ held ∙ sym (ap held_in found))
    (said_pending old new s x y text end_memory found b.pending same said)
comes old new s bytes x y text found same b (drops c cause still held none) =
    is_dropped b.stays c (ap cause_in found ∙ cause) (b.cause ∙ still) (b.held ∙ held ∙ sym (ap held_in found))
    (quiet_pending old new s x y text found b.pending same none)

pub fed_facts : (old : State) (s : ℕ) (bytes : Bytes) (e : Effect) (new : State) → Step old (fed s bytes) e new
    → InputComes old new s bytes
fed_facts old s bytes e new h =
    let f = some_there (session_of old s) (λ x. FedStep old s bytes x e h.mid) h.acts in
    let t = is_fed old s bytes f.0 e h.mid f.1 f.2 in
    comes old new s bytes f.0 t.session (to_session s e.queued) f.1 t.pending
    (becomes old (fed s bytes) e new h s f.0 t.session t.touches) t.fed

ends : (old new : State) (s : ℕ) (x y : Session) (text : Bytes) → session_of old s ≡ Some x → y.pending ≡ x.pending
    → y.held ≡ x.held → Becomes new s y text → EndedTo x y text → InputIsOver old new s
ends old new s x y text found same held b (ends_input running so dry said) =
    input_ends b.stays (ap cause_in found ∙ running) (b.cause ∙ so) (b.held ∙ held ∙ sym (ap held_in found))
    (ap (λ o. is_dry (held_in o)) found ∙ dry)
    (said_pending old new s x y text (cut_line x.held ++ lost_line x.batch) found b.pending same said
    ∙ ap (λ (o : Option Session). pending_of old s ++ (cut_line (held_in o) ++ lost_line (batch_in o))) (sym found))
ends old new s x y text found same held b (had c cause still none) =
    had_ended b.stays c (ap cause_in found ∙ cause) (b.cause ∙ still) (b.held ∙ held ∙ sym (ap held_in found))
    (quiet_pending old new s x y text found b.pending same none)

pub ended_facts : (old : State) (s : ℕ) (e : Effect) (new : State) → Step old (ended s) e new → InputIsOver old new s
ended_facts old s e new h =
    let f = some_there (session_of old s) (λ x. EndedStep old s x e h.mid) h.acts in
    let t = is_ended old s f.0 e h.mid f.1 f.2 in
    ends old new s f.0 t.session (to_session s e.queued) f.1 t.pending t.held
    (becomes old (ended s) e new h s f.0 t.session t.touches) t.ends

pub stepped_facts : (old : State) (s : ℕ) (outcome : LineOutcome) (e : Effect) (new : State)
    → Step old (stepped s outcome) e new → LineIsStepped old new s outcome
stepped_facts old s outcome e new h =
    let f = some_there (session_of old s) (λ x. (x.cause ≡ None) × FrontStep old s x outcome e h.mid) h.acts in
    let t = is_stepped old s f.0 outcome e h.mid f.1 f.2.0 f.2.1 in
    let b = becomes old (stepped s outcome) e new h s f.0 t.session t.touches in
    record {
      stays = b.stays;
      running = ap cause_in f.1 ∙ f.2.0;
      cause = subst (λ (c : Option EndCause). CausedBy outcome c) (sym b.cause) t.cause;
      held = subst (λ (bytes : Bytes). LeavesHeldBytes outcome (held_of old s) bytes) (sym b.held)
          (subst (λ (bytes : Bytes). LeavesHeldBytes outcome bytes (t.session).held) (sym (ap held_in f.1)) t.held);
    }

-- ---- How a course of the program begins and goes on.

-- nothing was done yet
pub course_begun : (o : Outside) (st : State) → Course st o o st
course_begun o st = record {
  done = [];
  writes = [];
  does = (refl, refl);
  failed = false;
  read = gives_none o.reading;
  written = gains_none o.writing;
  listing = refl;
}

-- one thing that may be done, with what it reads, writes and counts
pub course_one : (o o' : Outside) (old new : State) (d : Did) → RunNext old d new
    → SourceGives o.reading o'.reading (piece_of d.event) → Gains o.writing o'.writing (writes_by old d.event)
    → o'.counted.listing ≤ o.counted.listing + d.effect.cost
    → Course old o o' new
course_one o o' old new d next gives gains listing = record {
  done = d ∷ [];
  writes = writes_by old d.event ++ [];
  does = (new, next, [], refl, (refl, refl));
  failed = false;
  read = subst (λ pieces. SourceGives o.reading o'.reading pieces) (sym (append-nil (piece_of d.event))) gives;
  written = subst (λ writes. Gains o.writing o'.writing writes)
      (sym (append-nil (writes_by old d.event ++ []) ∙ append-nil (writes_by old d.event))) gains;
  listing = (o'.counted.listing, listing, refl);
}

-- a write that failed, behind which nothing is done
pub course_failed : (o o' : Outside) (st : State) → SourceGives o.reading o'.reading []
    → Gains o.writing o'.writing (last_write true st)
    → o'.counted.listing ≡ o.counted.listing → Course st o o' st
course_failed o o' st gives gains listing = record {
  done = [];
  writes = [];
  does = (refl, refl);
  failed = true;
  read = gives;
  written = gains;
  listing = listing;
}

-- one walk, and then another
pub walk_then : {D L : Type 0} (May : D → L → D → Type 0) (old : D) (done : List L) (mid : D) (more : List L) (new : D)
    → Walk May old done mid → Walk May mid more new → Walk May old (done ++ more) new
walk_then {D = D} May old [] mid more new w v = let e : old
    ≡ mid = sym w in subst (λ (d : D). Walk May d more new) (sym e) v
walk_then May old (d ∷ done) mid more new w v = (w.0, w.1, walk_then May w.0 done mid more new w.2 v)

-- what was done is a walk
pub walk_of : (old : State) (done : List Did) (writes : List Write) (new : State) → RunDoes old done writes new
    → Walk RunNext old done new
walk_of old [] writes new h = h.0
walk_of old (d ∷ done) writes new h = (h.0, h.1, walk_of h.0 done h.2 new h.4)

-- some things were done, and then others
pub does_then : (old : State) (done : List Did) (writes : List Write) (mid : State) (more : List Did)
    (later : List Write) (new : State)
    → RunDoes old done writes mid → RunDoes mid more later new → RunDoes old (done ++ more) (writes ++ later) new
does_then old [] writes mid more later new h k =
    subst (λ (ws : List Write). RunDoes old more ws new) (sym (ap (λ (ws : List Write). ws ++ later) h.1))
    (subst (λ (st : State). RunDoes st more later new) h.0 k)
does_then old (d ∷ done) writes mid more later new h k = (
  h.0,
  h.1,
  h.2 ++ later,
  ap (λ (ws : List Write). ws ++ later) h.3
      ∙ append_assoc (writes_by old d.event) h.2 later,
  does_then h.0 done h.2 mid more later new h.4 k,
)

-- the bytes that were written are those that were taken of the session
event_bytes : (old : State) (event : Event) (e : Effect) (new : State) → MayRun old event → Step old event e new
    → bytes_of (writes_by old event) ≡ taken_from 1 event
event_bytes old (opened s) e new may h = refl
event_bytes old (fed s bytes) e new may h = refl
event_bytes old (stepped s outcome) e new may h = refl
event_bytes old (ended s) e new may h = refl
event_bytes old (closed s bytes) e new may h = refl
event_bytes old (took s bytes) e new may h =
    let own : s ≡ 1 = may.0 in
    let t : SessionTakes old new 1 bytes =
    took_facts old 1 bytes e new (subst (λ k. Step old (took k bytes) e new) own h) in
    let part : take (length bytes) (pending_of old 1) ≡ bytes =
    ap (λ p. take (length bytes) p) t.pending ∙ take-append-le (length bytes) bytes (pending_of new 1) (omega arith)
    ∙ take_all (length bytes) bytes (omega arith) in
    subst (λ k. bytes_of (writes_by old (took s bytes)) ≡ taken_from 1 (took k bytes)) (sym own)
    (append-nil (take (length bytes) (pending_of old 1)) ∙ part)

pub does_bytes : (old : State) (done : List Did) (writes : List Write) (new : State) → RunDoes old done writes new
    → bytes_of writes ≡ all_taken 1 done
does_bytes old [] writes new h = ap (λ (ws : List Write). bytes_of ws) h.1
does_bytes old (d ∷ done) writes new h =
    ap (λ (ws : List Write). bytes_of ws) h.3 ∙ bytes_more (writes_by old d.event) h.2
    ∙ ap (λ bs. bs ++ bytes_of h.2) (event_bytes old d.event d.effect h.0 h.1.0 h.1.1)
    ∙ ap (λ bs. taken_from 1 d.event ++ bs) (does_bytes h.0 done h.2 new h.4)

-- none of these writes failed
event_well : (old : State) (event : Event) → NoneFailed (writes_by old event)
event_well old (opened s) = All-nil (λ (w : Write). w.answer ≢ Failed)
event_well old (fed s bytes) = All-nil (λ (w : Write). w.answer ≢ Failed)
event_well old (stepped s outcome) = All-nil (λ (w : Write). w.answer ≢ Failed)
event_well old (ended s) = All-nil (λ (w : Write). w.answer ≢ Failed)
event_well old (closed s bytes) = All-nil (λ (w : Write). w.answer ≢ Failed)
event_well old (took s bytes) =
    All-cons (λ (w : Write). w.answer ≢ Failed) (record { piece = pending_of old 1; answer = Took (length bytes) }) []
    (took_well (length bytes)) (All-nil (λ (w : Write). w.answer ≢ Failed))

pub does_well : (old : State) (done : List Did) (writes : List Write) (new : State) → RunDoes old done writes new
    → NoneFailed writes
does_well old [] writes new h = subst (λ (ws : List Write). NoneFailed ws) (sym h.1)
    (All-nil (λ (w : Write). w.answer ≢ Failed))
does_well old (d ∷ done) writes new h =
    subst (λ (ws : List Write). NoneFailed ws) (sym h.3) (All-append (λ (w : Write). w.answer ≢ Failed)
    (writes_by old d.event) h.2 (event_well old d.event) (does_well h.0 done h.2 new h.4))

-- One course, in which no write failed, and then another.
pub course_then : (o o' o'' : Outside) (old mid new : State) (c : Course old o o' mid) → c.failed ≡ false
    → Course mid o' o'' new → Course old o o'' new
course_then o o' o'' old mid new c well d =
    let none : c.writes ++ last_write c.failed mid ≡ c.writes = ap (λ b. c.writes ++ last_write b mid) well
    ∙ append-nil c.writes in
    let first : Gains o.writing o'.writing c.writes = subst (λ (ws : List Write). Gains o.writing o'.writing ws) none
    c.written in
    record {
      done = c.done ++ d.done;
      writes = c.writes ++ d.writes;
      does = does_then old c.done c.writes mid d.done d.writes new c.does d.does;
      failed = d.failed;
      read = subst (λ pieces. SourceGives o.reading o''.reading pieces)
          (sym (flat_map-append (λ (x : Did). piece_of x.event) c.done d.done))
          (gives_more o.reading o'.reading o''.reading (pieces_of c.done) (pieces_of d.done) c.read d.read);
      written = subst (λ (ws : List Write). Gains o.writing o''.writing ws)
          (sym (append_assoc c.writes d.writes (last_write d.failed new)))
          (gains_more o.writing o'.writing o''.writing c.writes
          (d.writes ++ last_write d.failed new) first d.written);
      listing = walk_then ListsStep o.counted.listing c.done o'.counted.listing d.done o''.counted.listing c.listing
          d.listing;
    }

-- what was done along them, and whether a write failed
pub course_one_done : (o o' : Outside) (old new : State) (d : Did) (next : RunNext old d new)
    (gives : SourceGives o.reading o'.reading (piece_of d.event))
    (gains : Gains o.writing o'.writing (writes_by old d.event))
    (listing : o'.counted.listing ≤ o.counted.listing + d.effect.cost)
    → (course_one o o' old new d next gives gains listing).done ≡ d ∷ []
unfolding course_one
course_one_done o o' old new d next gives gains listing = refl

pub course_one_well : (o o' : Outside) (old new : State) (d : Did) (next : RunNext old d new)
    (gives : SourceGives o.reading o'.reading (piece_of d.event))
    (gains : Gains o.writing o'.writing (writes_by old d.event))
    (listing : o'.counted.listing ≤ o.counted.listing + d.effect.cost)
    → (course_one o o' old new d next gives gains listing).failed ≡ false
unfolding course_one
course_one_well o o' old new d next gives gains listing = refl

pub course_begun_well : (o : Outside) (st : State) → (course_begun o st).failed ≡ false
unfolding course_begun
course_begun_well o st = refl

pub course_failed_so : (o o' : Outside) (st : State) (gives : SourceGives o.reading o'.reading [])
    (gains : Gains o.writing o'.writing (last_write true st))
    (listing : o'.counted.listing ≡ o.counted.listing) → (course_failed o o' st gives gains listing).failed ≡ true
unfolding course_failed
course_failed_so o o' st gives gains listing = refl

pub course_then_done : (o o' o'' : Outside) (old mid new : State) (c : Course old o o' mid) (well : c.failed ≡ false)
    (d : Course mid o' o'' new)
    → (course_then o o' o'' old mid new c well d).done ≡ c.done ++ d.done
unfolding course_then
course_then_done o o' o'' old mid new c well d = refl

pub course_then_failed : (o o' o'' : Outside) (old mid new : State) (c : Course old o o' mid)
    (well : c.failed ≡ false) (d : Course mid o' o'' new)
    → (course_then o o' o'' old mid new c well d).failed ≡ d.failed
unfolding course_then
course_then_failed o o' o'' old mid new c well d = refl

-- ---- The headline of a course: what was sent, the lines that were taken, and what cursors gave, are laws of its run.

-- under `run` no session is closed
next_spares : (st : State) (event : Event) → MayRun st event → SparesSession event 1
next_spares st (opened s) h = tt
next_spares st (fed s bytes) h = tt
next_spares st (stepped s outcome) h = tt
next_spares st (took s bytes) h = tt
next_spares st (ended s) h = tt
next_spares st (closed s bytes) h = absurd h

pub walk_spares : (old : State) (done : List Did) (new : State) → Walk RunNext old done new
    → All (λ d. SparesSession d.event 1) done
walk_spares old [] new w = All-nil (λ (d : Did). SparesSession d.event 1)
walk_spares old (d ∷ done) new w = All-cons (λ (e : Did). SparesSession e.event 1) d done
    (next_spares old d.event w.1.0)
    (walk_spares w.0 done new w.2)

-- where no session is open, nothing is pending and no cursor is
pub none_pending : (st : State) → st.sessions ≡ [] → pending_of st 1 ≡ []
none_pending st none = ap (λ (xs : List Session). pending_of (record st { sessions = xs }) 1) none

none_give : (st : State) → st.sessions ≡ [] → CursorsGive st
none_give st none = subst (λ (xs : List Session). All (SessionGives st.store.relations st.store.queries) xs) (sym none)
    (All-nil (SessionGives st.store.relations st.store.queries))

-- what was counted in all
counted_all : (before : ℕ) (done : List Did) (now : ℕ) → Walk ListsStep before done now → now ≤ before + cost_of done
counted_all before [] now w = omega (arith, w)
counted_all before (d ∷ done) now w =
    omega (arith, w.1, counted_all w.0 done now w.2, sum_by-cons (λ (x : Did). x.effect.cost) d done)

pub headline : CoursesGive
headline start before now st c none =
    let walk = walk_of start c.done c.writes st c.does in
    record {
      written = does_bytes start c.done c.writes st c.does;
      sent = ap (λ g. g ++ pending_of st 1) (sym (gone_taken start c.done st walk))
          ∙ run_bytes 1 start c.done st (next_runs start c.done st walk)
          ∙ ap (λ p. p ++ out 1 c.done) (none_pending start none);
      lines = in_order 1 start c.done st (next_runs start c.done st walk) (walk_spares start c.done st walk);
      listing = counted_all before.counted.listing c.done now.counted.listing c.listing;
      cursors = λ mid passed. runs_give start passed.0 mid (next_runs start passed.0 mid passed.3)
          (none_give start none);
    }
