-- The machine refines the core: what each step, and each run, of the machine is for the core.
use Rattle.std.specs.Prelude.{ℕ, List, [], ◌∷◌, ◌++◌, ◌≡◌, ◌⊎◌, true, false, Option, None, Some, IsSomeAnd, All, map, flat_map}
use Rattle.djq_model.specs.Data.{Bytes, Tuple}
use Rattle.djq_model.specs.Answer.{IsListing}
use Rattle.djq_model.specs.Listed.{Listed, listed_name, AnswersOf, listed_of}
use Rattle.djq_protocol.specs.Grammar.{reading_of}
use Rattle.djq_machine.specs.State.{State}
use Rattle.djq_machine.specs.Effect.{Effect}
use Rattle.djq_machine.specs.LineStep.{LineOutcome, blank, run}
use Rattle.djq_machine.specs.Step.{Event, opened, fed, stepped, took, ended, closed, Step}
use Rattle.djq_machine.specs.Run.{Did, Run, out}
use Rattle.djq_run_laws.specs.Course.{Outside, Course}
use Rattle.djq_run_laws.specs.Moved.{SparesSession}
use Rattle.djq_run_laws.specs.Sound.{IsSoundState, IsStart}
use Rattle.djq_run_laws.specs.Staying.{GoesOn}
use Rattle.djq_run_laws.specs.Watched.{WatchesAlong, parts_for, parts_to}
use Rattle.djq_abstract.specs.Clients.{Core, CoreCommand, register, next, ask, CoreMessage, valid, CoreEvent, connects}
use Rattle.djq_abstract.specs.Clients.{disconnects, says}
use Rattle.djq_abstract.specs.Histories.{Happening, state_after, CoreRun, IsReached, deltas_applied, all_sent}
use Rattle.djq_refinement.specs.View.{core_of, core_reading}
use Rattle.djq_refinement.specs.Spelling.{SpellsMessage, AreSpelled}

-- No event of the core, or one by which a session is disconnected.
abbrev pub MayDisconnect : ℕ → List CoreEvent → Type 0
MayDisconnect s events = (events ≡ []) ⊎ (events ≡ disconnects s ∷ [])

-- Commands whose reply may be of any length, so that memory may be out as it is written: the rest of a query that isn't
-- registered, a page, an explanation.
abbrev pub MayBeCut : CoreCommand → Type 0
MayBeCut (register q) = Unit {0}
MayBeCut (next c count) = Unit {0}
MayBeCut ask = Unit {0}
MayBeCut _ = ⊥

-- The event of the core that the line of a session is: its command; or the session is disconnected, since the line ends
-- it, or its reply is cut.
abbrev pub AreOfLine : ℕ → Option CoreCommand → List CoreEvent → Type 0
AreOfLine s None events = events ≡ disconnects s ∷ []
AreOfLine s (Some c) events = (events ≡ says s c ∷ []) ⊎ (MayBeCut c × (events ≡ disconnects s ∷ []))

-- The events of the core that the front of a session's bytes is.
abbrev pub AreOfFront : List Listed → ℕ → LineOutcome → List CoreEvent → Type 0
AreOfFront queries s (run l) events = AreOfLine s (core_reading queries (reading_of l)) events
AreOfFront queries s (blank l) events = events ≡ []
AreOfFront queries s outcome events = events ≡ disconnects s ∷ []

-- The events of the core that an event of the machine is.
abbrev pub AreCoreEvents : List Listed → Event → List CoreEvent → Type 0
AreCoreEvents queries (opened s) events = (events ≡ []) ⊎ (events ≡ connects s ∷ [])
AreCoreEvents queries (fed s bytes) events = MayDisconnect s events
AreCoreEvents queries (stepped s outcome) events = AreOfFront queries s outcome events
AreCoreEvents queries (took s bytes) events = events ≡ []
AreCoreEvents queries (ended s) events = MayDisconnect s events
AreCoreEvents queries (closed s bytes) events = MayDisconnect s events

-- How messages are spelled in the step of an event: by the line that it runs.
abbrev pub SpellsBy : Event → (old new : Core) → CoreMessage → Bytes → Type 0
SpellsBy (stepped s (run l)) = SpellsMessage s (reading_of l)
SpellsBy event = λ old new m text. ⊥

-- A step of the machine is a run of the core, of none of its steps or of one. Each session that goes on after it is
-- sent the messages that the texts queued to it spell. One that didn't go on before it is sent nothing, and nothing is
-- queued to it.
pub record RefinesStep (old : State) (event : Event) (e : Effect) (new : State) : Type 0 where
  pub happenings : List Happening
  pub events : AreCoreEvents old.store.queries event (map (λ h. h.event) happenings)
  pub is_run : CoreRun (core_of old) happenings
  pub is_after : state_after (core_of old) happenings ≡ core_of new
  pub spelled : (t : ℕ) → ((core_of new).client t).connected ≡ true
      → AreSpelled (SpellsBy event (core_of old) (core_of new)) (all_sent t happenings) (parts_for t e.queued)
  pub silent : (t : ℕ) → ((core_of old).client t).connected ≡ false
      → (all_sent t happenings ≡ []) × (parts_for t e.queued ≡ [])

-- So it is of each step from a sound state.
abbrev pub MachineRefinesCore : Type 0
MachineRefinesCore = (old : State) (event : Event) (e : Effect) (new : State) → Step old event e new
    → IsSoundState old → RefinesStep old event e new

-- The events of the core that a run of the machine is, step by step.
abbrev pub AreRunEvents : (old : State) (done : List Did) (new : State) → Run old done new → List CoreEvent → Type 0
AreRunEvents old [] new walk events = events ≡ []
AreRunEvents old (d ∷ done) new walk events = (first : List CoreEvent) × (later : List CoreEvent)
    × (events ≡ first ++ later) × AreCoreEvents old.store.queries d.event first
    × AreRunEvents walk.0 done new walk.2 later

-- A message is spelled by these bytes, as in a step of some event.
abbrev pub IsSpelled : CoreMessage → Bytes → Type 0
IsSpelled m text = (event : Event) × (old : Core) × (new : Core) × SpellsBy event old new m text

-- The texts queued to a session, one after another, are the bytes that were queued to it.
abbrev pub AreAllBytes : ℕ → List Did → Type 0
AreAllBytes t done = flat_map (λ text. text) (parts_to t done) ≡ out t done

-- A run of the machine is one of the core. Each session that goes on at its end and wasn't closed is sent the messages
-- that all texts queued to it spell.
pub record RefinesRun (old : State) (done : List Did) (new : State) (walk : Run old done new) : Type 0 where
  pub happenings : List Happening
  pub events : AreRunEvents old done new walk (map (λ h. h.event) happenings)
  pub is_run : CoreRun (core_of old) happenings
  pub is_after : state_after (core_of old) happenings ≡ core_of new
  pub spelled : (t : ℕ) → All (λ d. SparesSession d.event t) done → GoesOn new t
      → AreSpelled IsSpelled (all_sent t happenings) (parts_to t done)
  pub whole : (t : ℕ) → AreAllBytes t done

-- So it is of each run from a sound state.
abbrev pub RunsRefineCore : Type 0
RunsRefineCore = (old : State) → IsSoundState old → (done : List Did) (new : State) (walk : Run old done new)
    → RefinesRun old done new walk

-- So it is of each course of the program under the words `run`.
abbrev pub CoursesRefineCore : Type 0
CoursesRefineCore = (start : State) → IsStart start → (before now : Outside) (state : State)
    → (course : Course start before now state)
    → (walk : Run start course.done state) × RefinesRun start course.done state walk

-- Each state that a run of the machine reaches from a start is one that a run of the core reaches: all that is proved of
-- these holds of it.
abbrev pub MachineStatesAreReached : Type 0
MachineStatesAreReached = (start : State) → IsStart start → (done : List Did) (new : State) → Run start done new
    → IsReached (core_of new)

-- By the core's first law: in each state that a run of the machine reaches from a start, a finished cursor that isn't
-- stale has returned each answer over the present rows once, and nothing else.
abbrev pub MachineFinishedListed : Type 0
MachineFinishedListed = (start : State) → IsStart start → (done : List Did) (new : State) → Run start done new
    → (s : ℕ) (c q : Bytes) (returned : List Tuple)
    → ((core_of new).client s).cursor c ≡ Some (valid q returned true)
    → IsSomeAnd (listed_of new.store.queries q) (λ l. IsListing (AnswersOf new.store.relations l) returned)

-- What a session that has a listing of a query and watches it has after a run: all texts queued to it spell messages
-- whose deltas, applied to the listing, give a listing of the answers at the end.
pub record HasAnswers (s : ℕ) (q : Listed) (ts : List Tuple) (done : List Did) (new : State) : Type 0 where
  pub messages : List CoreMessage
  pub spelled : AreSpelled IsSpelled messages (parts_to s done)
  pub whole : AreAllBytes s done
  pub listing : IsListing (AnswersOf new.store.relations q) (deltas_applied (listed_name q) ts messages)

-- By the core's second law: so it is of each run that follows one from a start, along which the session watches.
abbrev pub MachineSubscribersHaveAnswers : Type 0
MachineSubscribersHaveAnswers = (start : State) → IsStart start → (before : List Did) (old : State)
    → Run start before old → (done : List Did) (new : State) → (s : ℕ) (q : Listed) → WatchesAlong q s old done new
    → (ts : List Tuple) → IsListing (AnswersOf old.store.relations q) ts → HasAnswers s q ts done new
