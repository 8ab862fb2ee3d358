-- Session 1 is the only open one all along a run, and nobody sends `stop` while it goes on.
use Rattle.std.specs.Prelude.{ℕ, List, [], ◌∷◌, ◌==◌, ◌≡◌, ◌⊎◌, ◌&&◌, Bool, true, false, not, Option, None, Some, IsSome}
use Rattle.std.specs.Prelude.{find, map, is_none, is_some, nat_le, ◌++◌, Result, Ok, Err, is_err, ⊤}
use Rattle.std.proofs.Common.{refl, sym, ap, ◌∙◌, subst, inl, inr}
use Rattle.djq_io.specs.declared.sink.Write.{Write}
use Rattle.djq_model.specs.Data.{Bytes}
use Rattle.djq_protocol.specs.declared.answer.EndCause.{EndCause}
use Rattle.djq_machine.specs.State.{State, Session}
use Rattle.djq_machine.specs.Effect.{Effect}
use Rattle.djq_machine.specs.Run.{Did}
use Rattle.djq_machine.specs.Step.{Event, opened, fed, stepped, took, ended, closed, Step, is_dry}
use Rattle.djq_machine.specs.declared.machine.OpenRefusal.{OpenRefusal}
use Rattle.djq_machine.specs.Call.{OpenGives, Counts, counts}
use Rattle.djq_machine.specs.Call.{IsOpen, Makes, cause_of, held_of, state_ids, may_run, first_ready}
use Rattle.djq_run_laws.specs.Course.{Outside, outside, MayRun, RunDoes}
use Rattle.djq_run_laws.specs.Moved.{InputComes, is_held, out_of_memory, is_dropped, InputIsOver, input_ends, had_ended}
use Rattle.djq_run_laws.specs.Moved.{SessionTakes, LineIsStepped}
use Rattle.djq_run_laws.proofs.Sessions.{step_ids, step_stopped}
use Rattle.djq_run_laws.proofs.Courses.{took_facts, fed_facts, ended_facts, stepped_facts}
use Rattle.djq_run.specs.declared.status.Status.{Status}
use Rattle.djq_run_laws.proofs.Stops.{step_stops}
use Rattle.djq_run.specs.Parts.{GoesTo, IsAlone, ReadEnds, Flushed, with_sink}
use Rattle.djq_run.proofs.Runs.{LineRan}

-- ---- Session 1 stays alone.

-- no bytes end a session that goes on, and their coming begins none
came_running : (old new : State) (bytes : Bytes) → InputComes old new 1 bytes → cause_of new 1 ≡ None
    → cause_of old 1 ≡ None
came_running old new bytes (is_held a b d e f) none = b
came_running old new bytes (out_of_memory a b d e f) none = cc
came_running old new bytes (is_dropped a c b d e f) none = cc

over_ended : (old new : State) → InputIsOver old new 1 → cause_of new 1 ≡ None → ⊥
over_ended old new (input_ends a b c d e f) none = cc
over_ended old new (had_ended a c b d e f) none = cc

no_ids : (st : State) → st.sessions ≡ [] → state_ids st ≡ 1 ∷ [] → ⊥
no_ids st none only = let e : [] ≡ 1 ∷ [] = sym (ap (λ (xs : List Session). map (λ (x : Session). x.id) xs) none) ∙ only
    in cc

alone_by : (old : State) (event : Event) (e : Effect) (new : State) → MayRun old event → Step old event e new
    → IsAlone old → IsAlone new
alone_by old (opened s) e new may h a = absurd (no_ids old may.1 a.only)
alone_by old (closed s bytes) e new may h a = absurd may
alone_by old (fed s bytes) e new may h a =
    let own = subst (λ (t : ℕ). Step old (fed t bytes) e new) may.0 h in
    record {
      only = step_ids old (fed s bytes) e new h ∙ a.only;
      going = λ none. step_stopped old (fed s bytes) e new h tt
          ∙ a.going (came_running old new bytes (fed_facts old 1 bytes e new own) none);
    }
alone_by old (took s bytes) e new may h a =
    let own = subst (λ (t : ℕ). Step old (took t bytes) e new) may.0 h in
    let t : SessionTakes old new 1 bytes = took_facts old 1 bytes e new own in
    record {
      only = step_ids old (took s bytes) e new h ∙ a.only;
      going = λ none. step_stopped old (took s bytes) e new h tt ∙ a.going (sym t.cause ∙ none);
    }
alone_by old (ended s) e new may h a =
    let own = subst (λ (t : ℕ). Step old (ended t) e new) may.0 h in
    record {
      only = step_ids old (ended s) e new h ∙ a.only;
      going = λ none. absurd (over_ended old new (ended_facts old 1 e new own) none);
    }
alone_by old (stepped s outcome) e new may h a =
    let own = subst (λ (t : ℕ). Step old (stepped t outcome) e new) may.0 h in
    let f : LineIsStepped old new 1 outcome = stepped_facts old 1 outcome e new own in
    record {
      only = step_ids old (stepped s outcome) e new h ∙ a.only;
      going = λ none. step_stops old 1 outcome e new own none ∙ a.going f.running;
    }

alone_does : (old : State) (done : List Did) (writes : List Write) (new : State) → RunDoes old done writes new
    → IsAlone old → IsAlone new
alone_does old [] writes new h a = subst (λ (st : State). IsAlone st) (sym h.0) a
alone_does old (d ∷ done) writes new h a =
    alone_does h.0 done h.2 new h.4 (alone_by old d.event d.effect h.0 h.1.0 h.1.1 a)

pub alone_goes : (failed : Bool) (o o' : Outside) (old new : State) → GoesTo failed old o o' new → IsAlone old
    → IsAlone new
alone_goes failed o o' old new c a = alone_does old (c.0).done (c.0).writes new (c.0).does a

pub alone_reads : (status : Option Status) (o o' : Outside) (old new : State) → ReadEnds status o o' old new
    → IsAlone old → IsAlone new
alone_reads status o o' old new r a = alone_does old (r.course).done (r.course).writes new (r.course).does a

pub alone_flushed : (whole : Bool) (told told' : Option (List Write)) (count count' : ℕ) (old new : State)
    → Flushed whole told count old told' count' new → IsAlone old → IsAlone new
alone_flushed whole told told' count count' old new f a =
    let none = counts 0 0 0 in
    let o = outside None 0 told count none in
    alone_goes (not whole) (with_sink o told count none) (with_sink o told' count' none) old new (f.course o) a

pub alone_line : (old new : State) (before now : Counts) → LineRan old new before now → IsAlone old → IsAlone new
alone_line old new before now line a =
    let o = outside None 0 None 0 before in
    alone_goes false (with_sink o None 0 before) (with_sink o None 0 now) old new (line.course o None 0) a

-- by one event
pub alone_fed : (old new : State) (bytes : Bytes) → Makes old (fed 1 bytes) new → MayRun old (fed 1 bytes)
    → IsAlone old → IsAlone new
alone_fed old new bytes m may a = alone_by old (fed 1 bytes) m.effect new may m.step a

-- as it opens
none_open : (xs : List Session) → map (λ (x : Session). x.id) xs ≡ [] → IsSome (find (λ (x : Session). x.id == 1) xs) → ⊥
none_open [] e h = cc
none_open (x ∷ xs) e h = cc

opens_alone : (new : State) (old_ids : List ℕ) → old_ids ≡ [] → IsOpen new 1
    → ((state_ids new ≡ old_ids ++ 1 ∷ []) ⊎ (state_ids new ≡ old_ids)) → state_ids new ≡ 1 ∷ []
opens_alone new old_ids none there (inl h) = h ∙ ap (λ (ids : List ℕ). ids ++ 1 ∷ []) none
opens_alone new old_ids none there (inr h) = absurd (none_open new.sessions (h ∙ none) there)

opened_alone : (old new : State) → old.sessions ≡ [] → old.stopped ≡ false → Makes old (opened 1) new
    → IsOpen new 1 → IsAlone new
opened_alone old new none going m there = record {
  only = opens_alone new (state_ids old) (ap (λ (xs : List Session). map (λ (x : Session). x.id) xs) none) there
      (step_ids old (opened 1) m.effect new m.step);
  going = λ cause. step_stopped old (opened 1) m.effect new m.step tt ∙ going;
}

pub begun_alone : (old new : State) (r : Result ⊤ OpenRefusal) → is_err r ≡ false → OpenGives old 1 r new
    → old.sessions ≡ [] → old.stopped ≡ false → IsAlone new
begun_alone old new (Ok u) e h none going = opened_alone old new none going h.0 h.1
begun_alone old new (Err r) e h none going = absurd cc

-- ---- Which line is next.

-- of one id the first that suits
first_of_one : (p : ℕ → Bool) (b : Bool) → p 1 ≡ b → is_some (find p (1 ∷ [])) ≡ b
first_of_one p true e = rw e refl
first_of_one p false e = rw e refl

next_is : (st : State) → IsAlone st → is_some (first_ready st 0) ≡ may_run st 1
next_is st a = ap (λ (ids : List ℕ). is_some (find (λ s. nat_le 0 s && may_run st s) ids)) a.only
    ∙ first_of_one (λ s. nat_le 0 s && may_run st s) (may_run st 1) refl

pub next_runs : (old st : State) (r : Option ℕ) → st ≡ old → IsAlone old → is_some r ≡ true → r ≡ first_ready old 0
    → may_run st 1 ≡ true
next_runs old st r same a some is = ap (λ (x : State). may_run x 1) same ∙ sym (next_is old a)
    ∙ sym (ap is_some is) ∙ some

dry_by : (stopped : Bool) (cause : Option EndCause) (dry : Bool) → not stopped && (is_none cause && not dry) ≡ false
    → stopped ≡ false → cause ≡ None → dry ≡ true
dry_by false None true e s c = refl
dry_by false None false e s c = cc
dry_by false (Some x) dry e s c = cc
dry_by true cause dry e s c = cc

pub none_left : (st : State) (r : Option ℕ) → IsAlone st → is_some r ≡ false → r ≡ first_ready st 0
    → cause_of st 1 ≡ None → is_dry (held_of st 1) ≡ true
none_left st r a none is cause = dry_by st.stopped (cause_of st 1) (is_dry (held_of st 1))
    (sym (next_is st a) ∙ sym (ap is_some is) ∙ none) (a.going cause) cause
