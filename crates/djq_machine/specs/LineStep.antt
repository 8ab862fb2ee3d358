-- What becomes of the line in front of a session's bytes.
use Rattle.std.specs.Prelude.{ℕ, ◌≡◌, ◌<◌, ◌≤◌, Bool, true, false, length}
use Rattle.djq_model.specs.Data.{Bytes}
use Rattle.djq_protocol.specs.declared.limits.TheConstants.{PENDING_BYTES}
use Rattle.djq_protocol.specs.declared.answer.EndCause.TheVariants.{Long, Slow, Memory}
use Rattle.djq_protocol.specs.declared.answer.Refusal.{Refusal}
use Rattle.djq_protocol.specs.declared.answer.Refusal.TheVariants.{Syntax, WrongType, NoMemory, Misplaced}
use Rattle.djq_protocol.specs.Line.{too_long, a_line, front_of, is_blank}
use Rattle.djq_protocol.specs.Grammar.{Reading, outside, past_limit, says_command, reading_of}
use Rattle.djq_protocol.specs.Grammar.{takes_memory_to_read}
use Rattle.djq_protocol.specs.Reply.{end_long, end_slow, end_memory}
use Rattle.djq_machine.specs.State.{Session, State, with_session}
use Rattle.djq_machine.specs.Effect.{Effect, nothing, EndsWith, RefusedStep}
use Rattle.djq_machine.specs.Command.{CommandStep, is_misplaced}

-- The outcome of the front of a session's bytes: it is too long; or its line is removed, and is blank, or isn't
-- run since too much is pending or no room for its reply is to be had, or is run.
pub data LineOutcome : Type 0 where
  long : LineOutcome
  blank : Bytes → LineOutcome
  slow : Bytes → LineOutcome
  no_room : Bytes → LineOutcome
  run : Bytes → LineOutcome

-- why a command of which a literal is past its limit is refused: it may be misplaced besides
abbrev pub past_limit_refusal : Bool → Refusal
past_limit_refusal true = Misplaced
past_limit_refusal false = WrongType

-- A line is run as what it is read as. It is refused if it is outside the grammar; then if its command isn't for a
-- session with a batch open, or only for one; then if a literal of the command is past its limit. Else the command
-- is carried out, unless memory is out while it is read.
abbrev pub ReadStep : State → ℕ → Session → Bytes → Reading → Effect → State → Type 0
ReadStep old s x l outside e new = RefusedStep old s Syntax e new
ReadStep old s x l (past_limit c) e new =
    RefusedStep old s (past_limit_refusal (is_misplaced x.batch c)) e new
ReadStep old s x l (says_command c) e new = CarriedOut (is_misplaced x.batch c)
  where
    ReadAs : Bool → Type 0
    ReadAs true = CommandStep old s x l c e new
    ReadAs false = (takes_memory_to_read c ≡ true) × RefusedStep old s NoMemory e new

    CarriedOut : Bool → Type 0
    CarriedOut true = RefusedStep old s Misplaced e new
    CarriedOut false = (is_read : Bool) × ReadAs is_read

-- a session without the line in front
abbrev pub behind_line : Bytes → Session → Session
behind_line rest x = record x { held = rest }

-- A line is removed from the input, whatever its outcome.
pub record TakenLine (old : State) (s : ℕ) (x : Session) (l : Bytes) (P : State → Session → Type 0) : Type 0 where
  pub rest : Bytes
  pub front : front_of x.held ≡ a_line l rest
  pub then : P (with_session old s (behind_line rest)) (behind_line rest x)

-- The front of a session's bytes has this outcome.
abbrev pub FrontStep : State → ℕ → Session → LineOutcome → Effect → State → Type 0
FrontStep old s x long e new = (front_of x.held ≡ too_long) × EndsWith end_long Long old s e new
FrontStep old s x (blank l) e new = (is_blank l ≡ true) × TakenLine old s x l (λ mid y. (e ≡ nothing) × (new ≡ mid))
FrontStep old s x (slow l) e new = (is_blank l ≡ false) × (PENDING_BYTES < length x.pending)
    × TakenLine old s x l (λ mid y. EndsWith end_slow Slow mid s e new)
FrontStep old s x (no_room l) e new = (is_blank l ≡ false) × (length x.pending ≤ PENDING_BYTES)
    × TakenLine old s x l (λ mid y. EndsWith end_memory Memory mid s e new)
FrontStep old s x (run l) e new = (is_blank l ≡ false) × (length x.pending ≤ PENDING_BYTES)
    × TakenLine old s x l (λ mid y. ReadStep mid s y l (reading_of l) e new)
