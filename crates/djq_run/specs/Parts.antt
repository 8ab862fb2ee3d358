-- What holds of the parts of a run: a flush, the lines of what is held, a read.
use Rattle.std.specs.Prelude.{ℕ, List, [], ◌∷◌, ◌≡◌, ◌<◌, ◌≤◌, Bool, true, false, not, Option, None, Some, length}
use Rattle.djq_io.specs.Faults.{Counted}
use Rattle.djq_io.specs.declared.sink.Write.{Write}
use Rattle.djq_model.specs.Data.{Bytes}
use Rattle.djq_protocol.specs.declared.answer.EndCause.TheVariants.{Input, Quit, Stop, Long, Slow, Memory}
use Rattle.djq_machine.specs.State.{State}
use Rattle.djq_machine.specs.Run.{pending_of, all_fed}
use Rattle.djq_machine.specs.Call.{IsOpen, Counts, cause_of, held_of, state_ids}
use Rattle.djq_run_laws.specs.Course.{Outside, Course}
use Rattle.djq_run.specs.declared.status.Status.{Status}
use Rattle.djq_run.specs.declared.status.Status.TheVariants.{Done, NoMemory, SessionEnded}
use Rattle.djq_run.specs.declared.status.Status.TheVariants.{WriteFault as StatusWriteFault}
use Rattle.djq_run.specs.declared.session.Served.{Served}
use Rattle.djq_run.specs.declared.session.Served.TheVariants.{AwaitsInput, Ended, WriteFault}
use Rattle.djq_run.specs.Ends.{Awaits, StatusStands, ReadsCount, StatusCount, is_write_fault}

-- Session 1 is the only open one, and no session sent `stop` unless it has ended.
pub record IsAlone (st : State) : Type 0 where
  pub only : state_ids st ≡ 1 ∷ []
  pub going : cause_of st 1 ≡ None → st.stopped ≡ false

-- the outside, with other writes, faults of the sink, and counts
abbrev pub with_sink : Outside → Option (List Write) → ℕ → Counts → Outside
with_sink o writing faults counted = record o { writing = writing; write_faults = faults; counted = counted }

-- There is a course, after which a write failed or, by this, didn't.
abbrev pub GoesTo : Bool → State → Outside → Outside → State → Type 0
GoesTo failed start before now state = (course : Course start before now state) × (course.failed ≡ failed)

-- What is left pending by a flush: nothing if all was written, and else something.
abbrev pub LeavesPending : Bool → Bytes → Type 0
LeavesPending true pending = pending ≡ []
LeavesPending false pending = 0 < length pending

-- The count of the sink's faults rises at a failed flush alone.
abbrev pub FlushCounts : Bool → ℕ → ℕ → Type 0
FlushCounts true before now = now ≡ before
FlushCounts false before now = Counted before now

-- A flush changes nothing of the session but what is pending.
pub record Flushed (whole : Bool) (told : Option (List Write)) (count : ℕ) (old : State)
    (told' : Option (List Write)) (count' : ℕ) (new : State) : Type 0 where
  pub course : (o : Outside) → GoesTo (not whole) old (with_sink o told count o.counted)
      (with_sink o told' count' o.counted) new
  pub is_open : IsOpen new 1
  pub held : held_of new 1 ≡ held_of old 1
  pub cause : cause_of new 1 ≡ cause_of old 1
  pub pending : LeavesPending whole (pending_of new 1)
  pub faults : FlushCounts whole count count'

-- The session's state afterwards. Running lines doesn't end its input.
abbrev pub ServedTo : Served → State → State → Type 0
ServedTo AwaitsInput old new = Awaits new
ServedTo (Ended c) old new = (cause_of new 1 ≡ Some c) × (pending_of new 1 ≡ [])
    × (c ≡ Input → cause_of old 1 ≡ Some Input)
ServedTo WriteFault old new = (0 < length (pending_of new 1))
    × (cause_of new 1 ≡ Some Input → cause_of old 1 ≡ Some Input)

-- whether a write failed
abbrev pub write_failed : Served → Bool
write_failed WriteFault = true
write_failed _ = false

-- The count of the sink's faults rises only if a write failed.
abbrev pub ServedCount : Served → ℕ → ℕ → Type 0
ServedCount WriteFault before now = Counted before now
ServedCount _ before now = now ≡ before

-- the status of a session that was served so, if the run ends by it
abbrev pub status_of : Served → Option Status
status_of AwaitsInput = None
status_of (Ended Input) = Some Done
status_of (Ended Quit) = Some Done
status_of (Ended Stop) = Some Done
status_of (Ended Long) = Some SessionEnded
status_of (Ended Slow) = Some SessionEnded
status_of (Ended Memory) = Some NoMemory
status_of WriteFault = Some StatusWriteFault

-- whether a read ended the run by a write that failed
abbrev pub failed_by : Option Status → Bool
failed_by None = false
failed_by (Some status) = is_write_fault status

-- A read leads to a state in which input may arrive, with a byte fed at least and no fault; or it
-- ends the run.
abbrev pub RunGoesOn : Option Status → Bytes → Outside → Outside → State → Type 0
RunGoesOn None fed before now new = Awaits new × (1 ≤ length fed)
    × (now.read_faults ≡ before.read_faults) × (now.write_faults ≡ before.write_faults)
RunGoesOn (Some status) fed before now new = StatusStands status fed now.reading new
    × ReadsCount status before.read_faults now.read_faults
    × StatusCount status before.write_faults now.write_faults

-- The result of a read.
pub record ReadEnds (status : Option Status) (before now : Outside) (old new : State) : Type 0 where
  pub course : Course old before now new
  pub failed : course.failed ≡ failed_by status
  pub goes_on : RunGoesOn status (all_fed 1 course.done) before now new
