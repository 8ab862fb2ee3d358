-- A run of the machine is one of the core.
use Rattle.std.specs.Prelude.{ℕ, List, [], ◌∷◌, ◌++◌, ◌==◌, ◌≡◌, ◌<◌, Bool, true, false, Option, None, Some, IsSome, IsSomeAnd}
use Rattle.std.specs.Prelude.{All, map, flat_map, filter, cond}
use Rattle.std.proofs.lemmas.Grind.{flat_map-append}
use Rattle.std.proofs.Common.{refl, sym, ap, ap₂, ◌∙◌, subst, arith, append_assoc}
use Rattle.std.proofs.lemmas.List.{map-append}
use Rattle.std.proofs.lemmas.List.Elements.{All-head, All-tail, All-contains}
use Rattle.std.proofs.lemmas.Bool.{eqb-true}
use Rattle.djq_model.specs.Data.{Bytes}
use Rattle.djq_protocol.specs.declared.answer.EndCause.{EndCause}
use Rattle.djq_machine.specs.State.{Session, State, session_of}
use Rattle.djq_machine.specs.Effect.{Effect}
use Rattle.djq_machine.specs.Step.{Event, opened, fed, stepped, took, ended, closed, Step}
use Rattle.djq_machine.specs.Run.{Did, Run, to_session}
use Rattle.djq_machine.specs.Call.{IsOpen}
use Rattle.djq_run_laws.specs.Moved.{SparesSession}
use Rattle.djq_run_laws.specs.Silent.{SessionIsOver, OpensNone}
use Rattle.djq_run_laws.specs.Sound.{IsSoundState}
use Rattle.djq_run_laws.specs.Staying.{GoesOn}
use Rattle.djq_run_laws.specs.Watched.{parts_for, parts_to}
use Rattle.djq_run_laws.proofs.Lists.{found_there, found_passes}
use Rattle.djq_run_laws.proofs.EndedSessions.{step_over}
use Rattle.djq_run_laws.proofs.Events.{step_open, next_runs}
use Rattle.djq_run_laws.proofs.Courses.{walk_of}
use Rattle.djq_run_laws.proofs.SoundStates.{step_sound, start_sound}
use Rattle.djq_abstract.specs.Clients.{Core, CoreMessage}
use Rattle.djq_abstract.specs.Histories.{Happening, state_after, CoreRun, all_sent}
use Rattle.djq_refinement.specs.View.{client_by, client_in, core_of}
use Rattle.djq_refinement.specs.Spelling.{AreSpelled}
use Rattle.djq_refinement.specs.Refinement.{SpellsBy, RefinesStep, IsSpelled, RunsRefineCore}
use Rattle.djq_refinement.specs.Refinement.{AreAllBytes, CoursesRefineCore}
use Rattle.djq_refinement.proofs.Steps.{machine_refines_core}
use Rattle.djq_refinement.proofs.AcceptedChanges.{spelled_append}

-- ---- runs of the core, one behind the other

pub core_run_more : (st : Core) (hs ks : List Happening) → CoreRun st hs → CoreRun (state_after st hs) ks
    → CoreRun st (hs ++ ks)
core_run_more st [] ks h k = k
core_run_more st (x ∷ hs) ks h k = (h.0, core_run_more x.after hs ks h.1 k)

pub state_more : (st : Core) (hs ks : List Happening) → state_after st (hs ++ ks) ≡ state_after (state_after st hs) ks
state_more st [] ks = refl
state_more st (x ∷ hs) ks = state_more x.after hs ks

pub sent_more : (s : ℕ) (hs ks : List Happening) → all_sent s (hs ++ ks) ≡ all_sent s hs ++ all_sent s ks
sent_more s [] ks = refl
sent_more s (x ∷ hs) ks = ap (λ ms. x.sent s ++ ms) (sent_more s hs ks)
    ∙ sym (append_assoc (x.sent s) (all_sent s hs) (all_sent s ks))

pub spelled_as : (S T : CoreMessage → Bytes → Type 0) → ((m : CoreMessage) (text : Bytes) → S m text → T m text)
    → (ms : List CoreMessage) (ts : List Bytes) → AreSpelled S ms ts → AreSpelled T ms ts
spelled_as S T f [] [] h = tt
spelled_as S T f (m ∷ ms) (t ∷ ts) h = (f m t h.0, spelled_as S T f ms ts h.1)
spelled_as S T f [] (t ∷ ts) h = absurd h
spelled_as S T f (m ∷ ms) [] h = absurd h

-- ---- texts and bytes

part_bytes : (s : ℕ) (queued : List (ℕ × Bytes)) → flat_map (λ text. text) (parts_for s queued) ≡ to_session s queued
part_bytes s [] = refl
part_bytes s (p ∷ ps) = by (p.0 == s) (part_bytes s ps)
  where
    by : (b : Bool) → flat_map (λ text. text) (parts_for s ps) ≡ to_session s ps
        → flat_map (λ text. text) (map (λ (q : ℕ × Bytes). q.1)
        (cond b (p ∷ filter (λ (q : ℕ × Bytes). q.0 == s) ps) (filter (λ (q : ℕ × Bytes). q.0 == s) ps)))
        ≡ cond b p.1 [] ++ to_session s ps
    by true h = ap (λ bytes. p.1 ++ bytes) h
    by false h = h

pub all_bytes : (s : ℕ) (done : List Did) → AreAllBytes s done
all_bytes s [] = refl
all_bytes s (d ∷ done) = flat_map-append (λ text. text) (parts_for s d.effect.queued) (parts_to s done)
    ∙ ap₂ (λ (a b : Bytes). a ++ b) (part_bytes s d.effect.queued) (all_bytes s done)

-- ---- a session that goes on at the end of a run

-- it is open, and connected in the core
pub goes_connected : (st : State) (s : ℕ) → GoesOn st s → ((core_of st).client s).connected ≡ true
goes_connected st s h = by (session_of st s) h
  where
    at : (c : Option EndCause) (x : Session) → c ≡ None → (client_by c x).connected ≡ true
    at None x e = refl
    at (Some cause) x e = absurd cc

    by : (o : Option Session) → IsSomeAnd o (λ x. x.cause ≡ None) → (client_in o).connected ≡ true
    by None k = absurd k
    by (Some x) k = at x.cause x k

over_connected : (st : State) (s : ℕ) → ((core_of st).client s).connected ≡ false → SessionIsOver st s
over_connected st s k goes = let is = goes_connected st s goes in absurd (cc (is, k))

connected_open : (st : State) (s : ℕ) → ((core_of st).client s).connected ≡ true → IsOpen st s
connected_open st s k = by (session_of st s) k
  where
    by : (o : Option Session) → (client_in o).connected ≡ true → IsSome o
    by None i = absurd cc
    by (Some x) i = refl

some_open : (o : Option Session) → IsSome o → (x : Session) × (o ≡ Some x)
some_open None h = absurd cc
some_open (Some x) h = (x, refl)

-- no session opens under the id of one that is open
not_opened : (st : State) (event : Event) (e : Effect) (new : State) → Step st event e new → (s : ℕ) → IsOpen st s
    → OpensNone s event
not_opened st (opened t) e new h s there = by (t == s) refl
  where
    by : (b : Bool) → (t == s) ≡ b → b ≡ false
    by false k = refl
    by true k =
        let f = some_open (session_of st s) there in
        let below = All-contains (λ (x : Session). x.id < t) st.sessions f.0 h.acts.1
        (found_there (λ (x : Session). x.id == s) st.sessions f.0 f.1) in
        let its : (f.0).id ≡ s = eqb-true (f.0).id s (found_passes (λ (x : Session). x.id == s) st.sessions f.0 f.1) in
        let same : t ≡ s = eqb-true t s k in absurd (omega (arith, its, same, below))
not_opened st (fed t bytes) e new h s there = tt
not_opened st (stepped t outcome) e new h s there = tt
not_opened st (took t bytes) e new h s there = tt
not_opened st (ended t) e new h s there = tt
not_opened st (closed t bytes) e new h s there = tt

-- a session that has ended doesn't go on again, unless it is closed
over_to_end : (s : ℕ) (old : State) → IsSoundState old → (done : List Did) (new : State) → Run old done new
    → All (λ d. SparesSession d.event s) done → IsOpen old s → SessionIsOver old s → GoesOn new s → ⊥
over_to_end s old sound [] new w spared there over goes =
    over (subst (λ (st : State). GoesOn st s) w goes)
over_to_end s old sound (d ∷ done) new w spared there over goes =
    let next = step_over s old d.event d.effect w.0 w.1 sound (not_opened old d.event d.effect w.0 w.1 s there) over in
    over_to_end s w.0 (step_sound old d.event d.effect w.0 w.1 sound) done new w.2
    (All-tail (λ (c : Did). SparesSession c.event s) d done spared)
    (step_open old d.event d.effect w.0 w.1 s (All-head (λ (c : Did). SparesSession c.event s) d done spared) there)
    next.1 goes

-- ---- a run

-- what a step sends to a session that goes on at the end
first_spelled : (t : ℕ) (old : State) → IsSoundState old → (d : Did) (mid : State) (step : Step old d.event d.effect mid)
    → (first : RefinesStep old d.event d.effect mid) → (done : List Did) (new : State) → Run mid done new
    → SparesSession d.event t → All (λ c. SparesSession c.event t) done → GoesOn new t
    → AreSpelled IsSpelled (all_sent t first.happenings) (parts_for t d.effect.queued)
first_spelled t old sound d mid step first done new w spared later goes =
    by (((core_of mid).client t).connected) refl (((core_of old).client t).connected) refl
  where
    by : (a : Bool) → ((core_of mid).client t).connected ≡ a → (b : Bool) → ((core_of old).client t).connected ≡ b
        → AreSpelled IsSpelled (all_sent t first.happenings) (parts_for t d.effect.queued)
    by true k b i = spelled_as (SpellsBy d.event (core_of old) (core_of mid)) IsSpelled
        (λ m text j. (d.event, core_of old, core_of mid, j))
        (all_sent t first.happenings) (parts_for t d.effect.queued) (first.spelled t k)
    by false k false i =
        let none = first.silent t i in
        subst (λ ms. AreSpelled IsSpelled ms (parts_for t d.effect.queued)) (sym none.0)
        (subst (λ ts. AreSpelled IsSpelled [] ts) (sym none.1) tt)
    by false k true i =
        absurd (over_to_end t mid (step_sound old d.event d.effect mid step sound) done new w later
        (step_open old d.event d.effect mid step t spared (connected_open old t i)) (over_connected mid t k) goes)

pub runs_refine_core : RunsRefineCore
runs_refine_core old sound [] new w = record {
  happenings = [];
  events = refl;
  is_run = tt;
  is_after = ap core_of (sym w);
  spelled = λ t spared goes. tt;
  whole = λ t. refl;
}
runs_refine_core old sound (d ∷ done) new w =
    let first = machine_refines_core old d.event d.effect w.0 w.1 sound in
    let rest = runs_refine_core w.0 (step_sound old d.event d.effect w.0 w.1 sound) done new w.2 in
    let hs = first.happenings in
    let ks = rest.happenings in record {
      happenings = hs ++ ks;
      events = (
        map (λ (h : Happening). h.event) hs,
        map (λ (h : Happening). h.event) ks,
        map-append (λ (h : Happening). h.event) hs ks,
        first.events,
        rest.events,
      );
      is_run = core_run_more (core_of old) hs ks first.is_run
          (subst (λ (c : Core). CoreRun c ks) (sym first.is_after) rest.is_run);
      is_after = state_more (core_of old) hs ks ∙ ap (λ (c : Core). state_after c ks) first.is_after ∙ rest.is_after;
      spelled = λ t spared goes.
          let now = All-head (λ (c : Did). SparesSession c.event t) d done spared in
          let later = All-tail (λ (c : Did). SparesSession c.event t) d done spared in
          subst (λ ms. AreSpelled IsSpelled ms (parts_for t d.effect.queued ++ parts_to t done)) (sym (sent_more t hs ks))
          (spelled_append IsSpelled (all_sent t hs) (all_sent t ks) (parts_for t d.effect.queued) (parts_to t done)
          (first_spelled t old sound d w.0 w.1 first done new w.2 now later goes) (rest.spelled t later goes));
      whole = λ t. all_bytes t (d ∷ done);
    }

pub courses_refine_core : CoursesRefineCore
courses_refine_core start h before now state course =
    let walk = next_runs start course.done state (walk_of start course.done course.writes state course.does) in
    (walk, runs_refine_core start (start_sound start h) course.done state walk)
