-- How a run of one session, from a source to a sink, ends.
use Rattle.std.specs.Prelude.{ℕ, [], ◌≡◌, ◌<◌, ◌≤◌, ◌⊎◌, Bool, true, false, Option, Some, IfSome, IsSomeAnd, length}
use Rattle.djq_io.specs.Faults.{Counted}
use Rattle.djq_io.specs.Source.{SourceReading}
use Rattle.djq_model.specs.Data.{Bytes}
use Rattle.djq_protocol.specs.declared.answer.EndCause.{EndCause}
use Rattle.djq_protocol.specs.declared.answer.EndCause.TheVariants.{Input, Quit, Stop, Long, Slow, Memory}
use Rattle.djq_machine.specs.State.{State, session_of}
use Rattle.djq_machine.specs.Step.{is_dry}
use Rattle.djq_machine.specs.Run.{pending_of, all_fed}
use Rattle.djq_machine.specs.Call.{cause_of, held_of}
use Rattle.djq_io.specs.declared.limits.TheConstants.{MOST_READS}
use Rattle.djq_run_laws.specs.Course.{Outside, Course, AwaitsInput}
use Rattle.djq_run.specs.declared.status.Status.{Status}
use Rattle.djq_run.specs.declared.status.Status.TheVariants.{Done, Usage, ReadFault, WriteFault}
use Rattle.djq_run.specs.declared.status.Status.TheVariants.{HubFault, TurnsUsed, NoMemory}
use Rattle.djq_run.specs.declared.status.Status.TheVariants.{Schedule, SessionEnded, DiskFault}
use Rattle.djq_run.specs.declared.status.Status.TheVariants.{LogFull, BadLog, Mirror}

-- Nothing is pending for the session, no line of it can be run, and it has no end cause.
abbrev pub Awaits : State → Type 0
Awaits st = IsSomeAnd (session_of st 1) AwaitsInput

-- The source has nothing left, if it shows its record.
abbrev pub IsAtEnd : Option SourceReading → Type 0
IsAtEnd reading = IfSome reading (λ r. r.left ≡ [])

-- The session was ended by the end of its input, with none left and each whole line run; or it
-- asked for the end.
abbrev pub IsWellEnded : Option SourceReading → State → EndCause → Type 0
IsWellEnded reading st Input = IsAtEnd reading × (is_dry (held_of st 1) ≡ true)
IsWellEnded reading st Quit = Unit {0}
IsWellEnded reading st Stop = Unit {0}
IsWellEnded reading st _ = ⊥

-- A line was too long, or too many bytes were pending.
abbrev pub IsCutOff : EndCause → Type 0
IsCutOff Long = Unit {0}
IsCutOff Slow = Unit {0}
IsCutOff _ = ⊥

-- All that was queued was written, and the session has an end cause of this kind.
pub record EndedBy (P : EndCause → Type 0) (st : State) : Type 0 where
  pub written : pending_of st 1 ≡ []
  pub cause : IsSomeAnd (cause_of st 1) P

-- Some of what was queued isn't written. If the session's input has ended, the source is at its
-- end.
pub record IsUnsent (reading : Option SourceReading) (st : State) : Type 0 where
  pub some : 0 < length (pending_of st 1)
  pub at_end : cause_of st 1 ≡ Some Input → IsAtEnd reading

-- What each status means for the state that the run led to, for the bytes that were fed before, and
-- for what is left. With the counts of faults these exclude one another, so each status is returned
-- if and only if its meaning holds.
abbrev pub StatusStands : Status → Bytes → Option SourceReading → State → Type 0
StatusStands Done fed reading st = EndedBy (IsWellEnded reading st) st
StatusStands SessionEnded fed reading st = EndedBy IsCutOff st
StatusStands NoMemory fed reading st = EndedBy (λ c. c ≡ Memory) st
StatusStands ReadFault fed reading st = Awaits st
StatusStands TurnsUsed fed reading st = Awaits st × (MOST_READS ≤ length fed)
StatusStands WriteFault fed reading st = IsUnsent reading st
StatusStands Usage fed reading st = ⊥
StatusStands HubFault fed reading st = ⊥
StatusStands (Schedule n) fed reading st = ⊥
StatusStands DiskFault fed reading st = ⊥
StatusStands LogFull fed reading st = ⊥
StatusStands (BadLog at) fed reading st = ⊥
StatusStands (Mirror n) fed reading st = ⊥

-- The first fault of the source ends the run with its status; under every other status there was
-- none.
abbrev pub ReadsCount : Status → ℕ → ℕ → Type 0
ReadsCount ReadFault before now = Counted before now
ReadsCount _ before now = now ≡ before

-- So it is with the sink.
abbrev pub StatusCount : Status → ℕ → ℕ → Type 0
StatusCount WriteFault before now = Counted before now
StatusCount _ before now = now ≡ before

-- whether a status reports that a write failed
abbrev pub is_write_fault : Status → Bool
is_write_fault WriteFault = true
is_write_fault _ = false

-- Out of memory before anything was done: the session isn't open.
abbrev pub NothingDone : Status → Outside → Outside → State → State → Type 0
NothingDone NoMemory before now start state = (now ≡ before) × (state ≡ start)
NothingDone _ before now start state = ⊥

-- How a run ends: by which course it reached its last state, what the status means for that, and
-- which faults there were.
pub record RunEnds (status : Status) (before now : Outside) (start state : State) : Type 0 where
  pub course : Course start before now state
  -- a write failed under WriteFault alone, and nothing was done after it
  pub failed : course.failed ≡ is_write_fault status
  pub stands : StatusStands status (all_fed 1 course.done) now.reading state
      ⊎ NothingDone status before now start state
  pub read_faults : ReadsCount status before.read_faults now.read_faults
  pub write_faults : StatusCount status before.write_faults now.write_faults
