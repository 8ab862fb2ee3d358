-- What each event does to the session that it is of, and to whether sessions are open.
use Rattle.std.specs.Prelude.{ℕ, ◌==◌, ◌≡◌, ◌++◌, true, false, Option, None, Some, IfSome}
use Rattle.djq_model.specs.Data.{Bytes}
use Rattle.djq_protocol.specs.declared.answer.EndCause.{EndCause}
use Rattle.djq_protocol.specs.declared.answer.EndCause.TheVariants.{Input, Quit, Stop, Long, Slow, Memory}
use Rattle.djq_protocol.specs.Line.{a_line, front_of}
use Rattle.djq_protocol.specs.Reply.{end_memory}
use Rattle.djq_store_spec.specs.Held.{HeldTransaction}
use Rattle.djq_machine.specs.State.{State, Session, session_of}
use Rattle.djq_machine.specs.Effect.{Effect, lost_line}
use Rattle.djq_machine.specs.LineStep.{LineOutcome, long, blank, slow, no_room, run}
use Rattle.djq_machine.specs.Step.{Event, fed, stepped, took, ended, closed, Step, is_dry, cut_line}
use Rattle.djq_machine.specs.Run.{pending_of}
use Rattle.djq_machine.specs.Call.{IsOpen, cause_of, held_of}

-- The event doesn't close the session.
abbrev pub SparesSession : Event → ℕ → Type 0
SparesSession (closed t bytes) s = (t == s) ≡ false
SparesSession _ s = Unit {0}

-- The bytes that are sent are the first that were pending; nothing else changes.
pub record SessionTakes (old new : State) (s : ℕ) (bytes : Bytes) : Type 0 where
  pub stays : IsOpen new s
  pub pending : pending_of old s ≡ bytes ++ pending_of new s
  pub held : held_of new s ≡ held_of old s
  pub cause : cause_of new s ≡ cause_of old s

-- Bytes of a session arrive: they are held after what was, or dropped if it has ended, or it ends out of memory.
pub data InputComes (old new : State) (s : ℕ) (bytes : Bytes) : Type 0 where
  is_held : IsOpen new s → cause_of old s ≡ None → cause_of new s ≡ None
      → held_of new s ≡ held_of old s ++ bytes
      → pending_of new s ≡ pending_of old s → InputComes old new s bytes
  out_of_memory : IsOpen new s → cause_of old s ≡ None → cause_of new s ≡ Some Memory
      → held_of new s ≡ held_of old s
      → pending_of new s ≡ pending_of old s ++ end_memory → InputComes old new s bytes
  is_dropped : IsOpen new s → (c : EndCause) → cause_of old s ≡ Some c → cause_of new s ≡ Some c
      → held_of new s ≡ held_of old s
      → pending_of new s ≡ pending_of old s → InputComes old new s bytes

-- the lines that the batch of a session holds, if there is a session with one open
abbrev pub batch_in : Option Session → Option HeldTransaction
batch_in None = None
batch_in (Some x) = x.batch

-- the lines that the batch of a session holds, if one is open
abbrev pub batch_of : State → ℕ → Option HeldTransaction
batch_of st s = batch_in (session_of st s)

-- The input of a session ends: it retains what ended it, or that. A line reports that if bytes were held, and then
-- one reports that lines are dropped if its batch held any.
pub data InputIsOver (old new : State) (s : ℕ) : Type 0 where
  input_ends : IsOpen new s → cause_of old s ≡ None → cause_of new s ≡ Some Input
      → held_of new s ≡ held_of old s → is_dry (held_of old s) ≡ true
      → pending_of new s ≡ pending_of old s ++ (cut_line (held_of old s) ++ lost_line (batch_of old s))
      → InputIsOver old new s
  had_ended : IsOpen new s → (c : EndCause) → cause_of old s ≡ Some c → cause_of new s ≡ Some c
      → held_of new s ≡ held_of old s
      → pending_of new s ≡ pending_of old s → InputIsOver old new s

-- The causes for which a line that is run ends its session.
abbrev pub EndsByRun : EndCause → Type 0
EndsByRun Quit = Unit {0}
EndsByRun Stop = Unit {0}
EndsByRun Memory = Unit {0}
EndsByRun Slow = Unit {0}
EndsByRun _ = ⊥

-- The end cause of a session whose front has this outcome.
abbrev pub CausedBy : LineOutcome → Option EndCause → Type 0
CausedBy long cause = cause ≡ Some Long
CausedBy (blank l) cause = cause ≡ None
CausedBy (slow l) cause = cause ≡ Some Slow
CausedBy (no_room l) cause = cause ≡ Some Memory
CausedBy (run l) cause = IfSome cause EndsByRun

-- What is held of a session, before and after its front's outcome: the line is removed, if there was one.
abbrev pub LeavesHeldBytes : LineOutcome → Bytes → Bytes → Type 0
LeavesHeldBytes long old new = new ≡ old
LeavesHeldBytes (blank l) old new = front_of old ≡ a_line l new
LeavesHeldBytes (slow l) old new = front_of old ≡ a_line l new
LeavesHeldBytes (no_room l) old new = front_of old ≡ a_line l new
LeavesHeldBytes (run l) old new = front_of old ≡ a_line l new

-- The front of the bytes of a session that hadn't ended has this outcome.
pub record LineIsStepped (old new : State) (s : ℕ) (outcome : LineOutcome) : Type 0 where
  pub stays : IsOpen new s
  pub running : cause_of old s ≡ None
  pub cause : CausedBy outcome (cause_of new s)
  pub held : LeavesHeldBytes outcome (held_of old s) (held_of new s)

-- A session that is open stays so in every step that doesn't close it.
abbrev pub StaysOpen : Type 0
StaysOpen = (old : State) (event : Event) (e : Effect) (new : State) → Step old event e new
    → (s : ℕ) → SparesSession event s → IsOpen old s → IsOpen new s

-- What a step does to a session whose bytes arrive.
abbrev pub BytesCome : Type 0
BytesCome = (old : State) (s : ℕ) (bytes : Bytes) (e : Effect) (new : State)
    → Step old (fed s bytes) e new → InputComes old new s bytes

-- What a step does to a session whose pending bytes are sent.
abbrev pub BytesAreTaken : Type 0
BytesAreTaken = (old : State) (s : ℕ) (bytes : Bytes) (e : Effect) (new : State)
    → Step old (took s bytes) e new → SessionTakes old new s bytes

-- What a step does to a session whose input ends.
abbrev pub InputEnds : Type 0
InputEnds = (old : State) (s : ℕ) (e : Effect) (new : State) → Step old (ended s) e new
    → InputIsOver old new s

-- What a step does to a session whose line is removed from its input.
abbrev pub LineIsTaken : Type 0
LineIsTaken = (old : State) (s : ℕ) (outcome : LineOutcome) (e : Effect) (new : State)
    → Step old (stepped s outcome) e new → LineIsStepped old new s outcome
