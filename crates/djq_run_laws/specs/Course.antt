-- A course of the program under the words `run`: one session, from a source to a sink.
use Rattle.std.specs.Prelude.{ℕ, List, [], ◌∷◌, ◌++◌, ◌≡◌, ◌+◌, ◌<◌, ◌≤◌, Bool, true, false, Option}
use Rattle.std.specs.Prelude.{None, IsSomeAnd, length}
use Rattle.djq_io.specs.Source.{SourceReading, SourceGives}
use Rattle.djq_io.specs.Sink.{Gains}
use Rattle.djq_io.specs.declared.sink.Write.{Write}
use Rattle.djq_io.specs.declared.sink.Wrote.TheVariants.{Took, Failed}
use Rattle.djq_machine.specs.State.{State, Session, session_of}
use Rattle.djq_machine.specs.Step.{Event, opened, fed, stepped, took, ended, closed, Step, is_dry}
use Rattle.djq_machine.specs.Run.{Did, Walk, pieces_of, pending_of}
use Rattle.djq_machine.specs.Call.{Counts}
use Rattle.djq_io.specs.declared.limits.TheConstants.{READ_BYTES}

-- Nothing is pending, no line can be run, and input may arrive.
pub record AwaitsInput (x : Session) : Type 0 where
  pub written : x.pending ≡ []
  pub running : x.cause ≡ None
  pub dry : is_dry x.held ≡ true

-- What `run` may do next. It opens session 1 first. While bytes are pending it does nothing but
-- write, while a line can be run nothing but run it, and it reads nothing once the session has
-- ended.
abbrev pub MayRun : State → Event → Type 0
MayRun st (opened s) = (s ≡ 1) × (st.sessions ≡ [])
MayRun st (fed s bytes) = (s ≡ 1) × (0 < length bytes) × (length bytes ≤ READ_BYTES)
    × IsSomeAnd (session_of st 1) AwaitsInput
MayRun st (stepped s outcome) = (s ≡ 1) × IsSomeAnd (session_of st 1) (λ x. x.pending ≡ [])
MayRun st (took s bytes) = (s ≡ 1) × (0 < length bytes)
MayRun st (ended s) = (s ≡ 1) × IsSomeAnd (session_of st 1) AwaitsInput
MayRun st (closed s bytes) = ⊥

-- one thing that `run` may do next
abbrev pub RunNext : State → Did → State → Type 0
RunNext old d new = MayRun old d.event × Step old d.event d.effect new

-- The write after a thing that was done: bytes that are sent from the session's pending ones were one
-- write, which was offered all that was pending, and accepted so many.
abbrev pub writes_by : State → Event → List Write
writes_by st (took s bytes) = record { piece = pending_of st 1; answer = Took (length bytes) } ∷ []
writes_by st _ = []

-- From one state to another `run` did these things, one after another, by these writes.
abbrev pub RunDoes : State → List Did → List Write → State → Type 0
RunDoes old [] writes new = (new ≡ old) × (writes ≡ [])
RunDoes old (d ∷ done) writes new = (mid : State) × RunNext old d mid × (later : List Write)
    × (writes ≡ writes_by old d.event ++ later) × RunDoes mid done later new

-- In one thing that was done the count of lookups and links of listings rose by no more than that thing
-- may cost.
abbrev pub ListsStep : ℕ → Did → ℕ → Type 0
ListsStep before d now = now ≤ before + d.effect.cost

-- The write that failed after all that was done, if one did: it was offered all that is pending.
abbrev pub last_write : Bool → State → List Write
last_write false st = []
last_write true st = record { piece = pending_of st 1; answer = Failed } ∷ []

-- All that the outside of the program shows: the source's bytes and pieces and its faults, the
-- sink's writes and its faults, and what was counted.
pub record Outside : Type 0 where
  pub reading : Option SourceReading
  pub read_faults : ℕ
  pub writing : Option (List Write)
  pub write_faults : ℕ
  pub counted : Counts

-- the outside, of its parts
abbrev pub outside : Option SourceReading → ℕ → Option (List Write) → ℕ → Counts → Outside
outside reading read_faults writing write_faults counted =
    record {
      reading = reading;
      read_faults = read_faults;
      writing = writing;
      write_faults = write_faults;
      counted = counted;
    }

-- A run of the machine, as `run` may make it. The pieces that the session was fed are the pieces that the
-- source gave, in order: what was read is fed, and what it brings about is done before the next read. The
-- sink records one write for each time that bytes of the session were sent; and after them at most one
-- that failed, of what is pending still, so that nothing was done and nothing written after it. And each
-- thing that was done has its own count of lookups and links of listings, and its own bound.
pub record Course (start : State) (before now : Outside) (state : State) : Type 0 where
  pub done : List Did
  pub writes : List Write
  pub does : RunDoes start done writes state
  -- whether a write failed
  pub failed : Bool
  pub read : SourceGives before.reading now.reading (pieces_of done)
  pub written : Gains before.writing now.writing (writes ++ last_write failed state)
  pub listing : Walk ListsStep before.counted.listing done now.counted.listing
