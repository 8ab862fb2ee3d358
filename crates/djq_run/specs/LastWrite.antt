-- What a run has done if a write of it failed.
use Rattle.std.specs.Prelude.{List, [], ◌∷◌, ◌++◌, ◌≡◌}
use Rattle.djq_io.specs.Sink.{bytes_of}
use Rattle.djq_io.specs.declared.sink.Write.{Write}
use Rattle.djq_io.specs.declared.sink.Wrote.TheVariants.{Failed}
use Rattle.djq_machine.specs.State.{State}
use Rattle.djq_machine.specs.Run.{out}
use Rattle.djq_run_laws.specs.Course.{Outside, RunDoes, last_write}
use Rattle.djq_run.specs.declared.status.Status.{Status}
use Rattle.djq_run.specs.declared.status.Status.TheVariants.{WriteFault}
use Rattle.djq_run.specs.Ends.{RunEnds}

-- Of the writes of a run, in order, one failed: these precede it, and these follow it.
abbrev pub HasFailedWrite : (status : Status) (before now : Outside) (start state : State)
    → RunEnds status before now start state → List Write → Write → List Write → Type 0
HasFailedWrite status before now start state ends earlier failed later =
    (ends.course.writes ++ last_write ends.course.failed state ≡ earlier ++ failed ∷ later)
    × (failed.answer ≡ Failed)

-- Then it was the last write, and the last thing that was done, and the status reports it. All that
-- was done was done by the writes before it, one for each time that bytes of the session were sent:
-- so if each of them accepted the whole piece that it was offered, what they wrote is the replies of
-- as many flushes. And what they wrote, and then what the failed write was offered, is all that was
-- queued.
pub record BreaksOff (status : Status) (before now : Outside) (start state : State)
    (ends : RunEnds status before now start state) (earlier : List Write) (failed : Write)
    (later : List Write) : Type 0 where
  pub last : later ≡ []
  pub is : status ≡ WriteFault
  pub does : RunDoes start ends.course.done earlier state
  pub queued : bytes_of earlier ++ failed.piece ≡ out 1 ends.course.done

-- **A write that fails ends the run.**
abbrev pub FailedWriteIsLast : Type 0
FailedWriteIsLast = (status : Status) (before now : Outside) (start state : State)
    (ends : RunEnds status before now start state)
    → (earlier : List Write) (failed : Write) (later : List Write)
    → HasFailedWrite status before now start state ends earlier failed later → start.sessions ≡ []
    → BreaksOff status before now start state ends earlier failed later
