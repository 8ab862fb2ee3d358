-- A session that sends `stop` ends by it.
use Rattle.std.specs.Prelude.{ℕ, List, [], ◌∷◌, ◌≡◌, ◌⊎◌, true, Option, None, Some, IsSome, IsSomeAnd}
use Rattle.std.specs.Prelude.{option_map}
use Rattle.std.proofs.Common.{refl, sym, ap, ◌∙◌, subst, inl, inr}
use Rattle.djq_model.specs.Data.{Bytes, Tuple}
use Rattle.djq_protocol.specs.declared.answer.EndCause.{EndCause}
use Rattle.djq_protocol.specs.declared.answer.EndCause.TheVariants.{Stop as StopCause}
use Rattle.djq_protocol.specs.declared.command.Command.{Command}
use Rattle.djq_protocol.specs.declared.command.Command.TheVariants.{Add, Del, Done, Quit, Stop}
use Rattle.djq_store_spec.specs.Held.{HeldTransaction}
use Rattle.djq_protocol.specs.Grammar.{reading_of, says_command}
use Rattle.djq_machine.specs.State.{State, Session, session_of, with_session, ended_by}
use Rattle.djq_machine.specs.Watch.{Telling}
use Rattle.djq_machine.specs.Effect.{Effect, queue, queue_all}
use Rattle.djq_machine.specs.Command.{CommandStep}
use Rattle.djq_machine.specs.LineStep.{ReadStep, LineOutcome, long, blank, slow, no_room, run, FrontStep, behind_line}
use Rattle.djq_machine.specs.Step.{stepped, Step, with_relations}
use Rattle.djq_machine.specs.Call.{cause_of, cause_in}
use Rattle.djq_run_laws.specs.Form.{form_of, Form, asking, storing, turning, changing, ending, Turn, Replied, is_whole}
use Rattle.djq_run_laws.specs.Form.{is_cut, DoesTurn, is_turned, is_refused, FormDoes}
use Rattle.djq_run_laws.proofs.Lists.{change_keeps, session_changed, stepped_cause}
use Rattle.djq_run_laws.proofs.Forms.{turned_one, command_does, Reads, turned_down, carried_out, line_reads}
use Rattle.djq_run_laws.proofs.Batches.{begun, rows_do}

-- nobody sent `stop`, or this session has ended
abbrev StopsItself : ℕ → State → State → Type 0
StopsItself s old mid = (mid.stopped ≡ old.stopped) ⊎ IsSome (cause_of mid s)

replied_stopped : (s : ℕ) (mid new : State) → Replied s mid new → new.stopped ≡ mid.stopped
replied_stopped s mid new (is_whole h) = ap (λ (st : State). st.stopped) h
replied_stopped s mid new (is_cut h) = ap (λ (st : State). st.stopped) h

turn_stopped : (old : State) (s : ℕ) (x : Session) (t : Turn) (new : State) → DoesTurn old s x t new
    → new.stopped ≡ old.stopped
turn_stopped old s x t new (is_turned h) = ap (λ (st : State). st.stopped) (turned_one old s x t new h).state
turn_stopped old s x t new (is_refused r) = replied_stopped s old new r

abbrev IsNoEnding : Form → Type 0
IsNoEnding ending = ⊥
IsNoEnding _ = Unit {0}

form_stopped : (f : Form) (old : State) (s : ℕ) (x : Session) (e : Effect) (new : State) → IsNoEnding f
    → FormDoes f old s x e new → new.stopped ≡ old.stopped
form_stopped asking old s x e new other h = replied_stopped s old new h.1
form_stopped storing old s x e new other h =
    replied_stopped s (record old { store = (h.1).store }) new (h.1).replied
form_stopped (turning t) old s x e new other h = turn_stopped old s x t new h.1
form_stopped (changing c) old s x e new other h =
    let d = rows_do old s c e new h in
    ap (λ (st : State). st.stopped) (d.change).state
    ∙ change_keeps (λ (m : Telling). m.state.stopped ≡ old.stopped) (λ m i text there k. k)
    (λ m i text cause may there k. k) (begun old s c) s d.outcome d.store d.reply e new d.change refl
form_stopped ending old s x e new other h = absurd other

no_ending_add : (batch : Option HeldTransaction) (l name : Bytes) (row : Tuple)
    → IsNoEnding (form_of batch l (Add name row))
no_ending_add None l name row = tt
no_ending_add (Some held) l name row = tt

no_ending_delete : (batch : Option HeldTransaction) (l name : Bytes) (row : Tuple)
    → IsNoEnding (form_of batch l (Del name row))
no_ending_delete None l name row = tt
no_ending_delete (Some held) l name row = tt

no_ending_done : (batch : Option HeldTransaction) (l : Bytes) (given : Option ℕ)
    → IsNoEnding (form_of batch l (Done given))
no_ending_done None l given = tt
no_ending_done (Some held) l given = tt

-- an open session that is ended has a cause
is_ended : (st mid : State) (s : ℕ) (x : Session) (c : EndCause) → session_of st s ≡ Some x
    → mid ≡ with_session st s (ended_by c) → IsSome (cause_of mid s)
is_ended st mid s x c found is =
    let there : session_of mid s ≡ Some (ended_by c x) = ap (λ (m : State). session_of m s) is
    ∙ session_changed st s (ended_by c) (λ y. refl) ∙ ap (λ o. option_map (ended_by c) o) found in
    subst (λ (o : Option Session). IsSome (cause_in o)) (sym there) refl

command_stops : (old : State) (s : ℕ) (x : Session) (l : Bytes) (c : Command) (e : Effect) (new : State)
    → session_of old s ≡ Some x → reading_of l ≡ says_command c → CommandStep old s x l c e new
    → StopsItself s old new
command_stops old s x l Quit e new found said h = inl (ap (λ (st : State). st.stopped) h.1)
command_stops old s x l Stop e new found said h =
    inr (is_ended (record old { stopped = true }) new s x StopCause found h.1)
command_stops old s x l (Add name row) e new found said h =
    inl (form_stopped (form_of x.batch l (Add name row)) old s x e new (no_ending_add x.batch l name row)
    (command_does old s x l (Add name row) e new said h))
command_stops old s x l (Del name row) e new found said h =
    inl (form_stopped (form_of x.batch l (Del name row)) old s x e new (no_ending_delete x.batch l name row)
    (command_does old s x l (Del name row) e new said h))
command_stops old s x l (Done given) e new found said h =
    inl (form_stopped (form_of x.batch l (Done given)) old s x e new (no_ending_done x.batch l given)
    (command_does old s x l (Done given) e new said h))
command_stops old s x l c e new found said h =
    inl (form_stopped (form_of x.batch l c) old s x e new tt (command_does old s x l c e new said h))

read_stops : (old : State) (s : ℕ) (x : Session) (l : Bytes) (e : Effect) (new : State) → session_of old s ≡ Some x
    → ReadStep old s x l (reading_of l) e new → StopsItself s old new
read_stops old s x l e new found h = by (line_reads old s x l (reading_of l) e new h)
  where
    by : Reads old s x l (reading_of l) e new → StopsItself s old new
    by (turned_down why because k) = inl (ap (λ (st : State). st.stopped) k.1)
    by (carried_out c is k) = command_stops old s x l c e new found is k

front_stops : (old : State) (s : ℕ) (x : Session) (outcome : LineOutcome) (e : Effect) (mid : State)
    → session_of old s ≡ Some x → FrontStep old s x outcome e mid → StopsItself s old mid
front_stops old s x long e mid found h = inl (ap (λ (st : State). st.stopped) h.1.1)
front_stops old s x (blank l) e mid found h = inl (ap (λ (st : State). st.stopped) h.1.then.1)
front_stops old s x (slow l) e mid found h = inl (ap (λ (st : State). st.stopped) h.2.then.1)
front_stops old s x (no_room l) e mid found h = inl (ap (λ (st : State). st.stopped) h.2.then.1)
front_stops old s x (run l) e mid found h =
    let rest = h.2.rest in
    let there : session_of (with_session old s (behind_line rest)) s ≡ Some (behind_line rest x) =
    session_changed old s (behind_line rest) (λ y. refl) ∙ ap (λ o. option_map (behind_line rest) o) found in
    read_stops (with_session old s (behind_line rest)) s (behind_line rest x) l e mid there h.2.then

queued_stopped : (st : State) (qs : List (ℕ × Bytes)) → (queue_all st qs).stopped ≡ st.stopped
queued_stopped st [] = refl
queued_stopped st (q ∷ qs) = queued_stopped (queue st q) qs

no_cause : (c : Option EndCause) → c ≡ None → IsSome c → ⊥
no_cause None e h = cc
no_cause (Some x) e h = cc

goes_on : (s : ℕ) (old mid : State) → StopsItself s old mid → cause_of mid s ≡ None → mid.stopped ≡ old.stopped
goes_on s old mid (inl same) none = same
goes_on s old mid (inr some) none = absurd (no_cause (cause_of mid s) none some)

found_there : (o : Option Session) (P : Session → Type 0) → IsSomeAnd o P → (x : Session) × (o ≡ Some x) × P x
found_there None P h = absurd h
found_there (Some x) P h = (x, refl, h)

-- A line after which its session goes on was no `stop`.
pub step_stops : (old : State) (s : ℕ) (outcome : LineOutcome) (e : Effect) (new : State)
    → Step old (stepped s outcome) e new → cause_of new s ≡ None → new.stopped ≡ old.stopped
step_stops old s outcome e new h none =
    let f = found_there (session_of old s) (λ x. (x.cause ≡ None) × FrontStep old s x outcome e h.mid) h.acts in
    ap (λ (st : State). st.stopped) h.queued ∙ queued_stopped (with_relations h.mid h.relations) e.queued
    ∙ goes_on s old h.mid (front_stops old s f.0 outcome e h.mid f.1 f.2.1)
    (sym (stepped_cause old (stepped s outcome) e new h s) ∙ none)
