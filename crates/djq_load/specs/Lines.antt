-- The effect of lines that are fed to session 1 of a machine.
use Rattle.std.specs.Prelude.{List, [], ◌∷◌, ◌≡◌, ◌≢◌, ◌++◌, ◌<◌, ◌⊎◌, None, Option, Some}
use Rattle.std.specs.Prelude.{length, codes, Bool, false, All}
use Rattle.djq_model.specs.Data.{Bytes, Tuple}
use Rattle.djq_protocol.specs.declared.answer.Refusal.TheVariants.{NoMemory}
use Rattle.djq_protocol.specs.Reply.{refusal_line}
use Rattle.djq_machine.specs.State.{State, Session, Cursor, session_of, cursor_of}
use Rattle.djq_store_spec.specs.Store.{open_at}
use Rattle.djq_machine.specs.LineStep.{LineOutcome}
use Rattle.djq_machine.specs.Step.{fed, stepped, took}
use Rattle.djq_machine.specs.Run.{Did, Walk, pieces_of, pending_of, to_session}
use Rattle.djq_machine.specs.Call.{IsOpen, Makes, MakesCounted, Counts, cause_of, held_of}
use Rattle.djq_run_laws.specs.Course.{RunNext, ListsStep}
use Rattle.djq_run_laws.specs.Watched.{batch_of}

-- What was done didn't report to session 1 that memory is wanting.
abbrev pub HadMemory : Did → Type 0
HadMemory d = to_session 1 d.effect.queued ≢ refusal_line NoMemory

-- **A run of the join machine in which one session, of id 1, is fed these lines**, one after another:
-- each is fed when none is left to be run and nothing is pending. No line is answered that memory is
-- wanting, so each was carried out or refused for its content. Each step of it counts no more of
-- listings than that step may cost.
pub record FeedsLines (lines : List Bytes) (old : State) (before : Counts) (new : State)
    (now : Counts) : Type 0 where
  pub done : List Did
  pub walk : Walk RunNext old done new
  pub fed : pieces_of done ≡ lines
  pub served : All HadMemory done
  pub listing : Walk ListsStep before.listing done now.listing

-- **A run in which session 1 is fed these lines**, whatever it is answered, and whether or not the
-- last of them is run to its end. Each step of it counts no more of listings than that step may cost.
pub record Feeds (lines : List Bytes) (old : State) (before : Counts) (new : State)
    (now : Counts) : Type 0 where
  pub done : List Did
  pub walk : Walk RunNext old done new
  pub fed : pieces_of done ≡ lines
  pub listing : Walk ListsStep before.listing done now.listing

-- Of these lines a first part was fed, each run and answered, and one line more, at which memory
-- was wanting.
pub record LoadBreaksOff (lines : List Bytes) (old : State) (before : Counts) (new : State)
    (now : Counts) : Type 0 where
  pub earlier : List Bytes
  pub line : Bytes
  pub later : List Bytes
  pub are : earlier ++ line ∷ later ≡ lines
  pub mid : State
  pub between : Counts
  pub loads : FeedsLines earlier old before mid between
  pub feeds : Feeds (line ∷ []) mid between new now

-- Session 1 is open and not ended, holds nothing and has nothing pending; and no session sent `stop`.
pub record SessionIsIdle (st : State) : Type 0 where
  pub going : st.stopped ≡ false
  pub is_open : IsOpen st 1
  pub held : held_of st 1 ≡ []
  pub pending : pending_of st 1 ≡ []
  pub running : cause_of st 1 ≡ None

-- A line is fed and is run, or dropped if it is blank, and the session isn't ended.
pub record LineRuns (line : Bytes) (old : State) (before : Counts) (new : State)
    (now : Counts) : Type 0 where
  pub mid : State
  pub comes : Makes old (fed 1 line) mid
  pub is_held : cause_of mid 1 ≡ None
  pub outcome : LineOutcome
  pub makes : MakesCounted mid (stepped 1 outcome) new before now
  pub running : cause_of new 1 ≡ None

-- All that is pending is sent, if there is any.
abbrev pub TakesAll : State → State → Type 0
TakesAll old new = ((pending_of old 1 ≡ []) × (new ≡ old))
    ⊎ ((0 < length (pending_of old 1)) × Makes old (took 1 (pending_of old 1)) new)

-- the cursors of a session; none if there is no session
abbrev pub session_cursors : Option Session → List Cursor
session_cursors None = []
session_cursors (Some x) = x.cursors

-- the cursors of session 1
abbrev pub cursors_of : State → List Cursor
cursors_of st = session_cursors (session_of st 1)

-- the cursor of a load, which has given these answers
abbrev pub cursor_at : List Tuple → Bool → Cursor
cursor_at given ended = record { name = codes "c"; query = codes "q"; position = open_at given ended }

-- The session has that cursor, and no batch open.
pub record CursorStands (st : State) (given : List Tuple) (ended : Bool) : Type 0 where
  pub cursor : cursor_of (cursors_of st) (codes "c") ≡ Some (cursor_at given ended)
  pub batch : batch_of st 1 ≡ None
