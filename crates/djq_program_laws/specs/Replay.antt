-- How `replay` ends: a schedule is read whole, its hub is served, and what was sent is written.
use Rattle.std.specs.Prelude.{ℕ, List, [], false, ◌≡◌, ◌+◌, ◌<◌, ◌≤◌, ◌⊎◌, Option, Some, length}
use Rattle.std.specs.Prelude.{take, drop, Result, Ok, Err}
use Rattle.djq_io.specs.Faults.{Counted}
use Rattle.djq_io.specs.Hub.{Ids, no_ids}
use Rattle.djq_io.specs.Script.{Script}
use Rattle.djq_io.specs.Written.{GainsBytes, FailsBehind}
use Rattle.djq_io.specs.declared.sink.Write.{Write}
use Rattle.djq_io.specs.Source.{SourceReading}
use Rattle.djq_io.specs.SteadyHub.{has_gone}
use Rattle.djq_io.specs.declared.hub.Coming.{Coming}
use Rattle.djq_io.specs.declared.hub.Told.{Told}
use Rattle.djq_io.specs.Given.{Gave}
use Rattle.djq_model.specs.Data.{Bytes}
use Rattle.djq_machine.specs.State.{State}
use Rattle.djq_machine.specs.Run.{Group}
use Rattle.djq_machine.specs.Call.{Counts}
use Rattle.djq_io.specs.declared.limits.TheConstants.{MOST_READS}
use Rattle.djq_run_laws.specs.Course.{Outside}
use Rattle.djq_run.specs.declared.status.Status.{Status}
use Rattle.djq_run.specs.declared.status.Status.TheVariants.{ReadFault, WriteFault, TurnsUsed}
use Rattle.djq_run.specs.declared.status.Status.TheVariants.{NoMemory, Schedule, DiskFault, LogFull}
use Rattle.djq_run.specs.Ends.{IsAtEnd}
use Rattle.djq_schedule.specs.Schedule.{schedule_lines}
use Rattle.djq_schedule.specs.Made.{turns_of}
use Rattle.djq_schedule.specs.Sent.{sent_text, outside_line}
use Rattle.djq_serve.specs.declared.served.Served.{Served}
use Rattle.djq_serve.specs.declared.served.Served.TheVariants.{TurnsUsed as AllTaken, HubFault as HubFailed}
use Rattle.djq_serve.specs.Told.{Shown, hub_shown}
use Rattle.djq_serve.specs.Server.{all_logged}
use Rattle.djq_serve.specs.Logged.{UnkeptIsSilent}
use Rattle.djq_serve.specs.Ends.{ServeEnds}
use Rattle.djq_program_laws.specs.Logged.{LogSeen, IsUnasked, served_status, Begins, Logs, IsStored, NeverBegins}

-- It gave these bytes, has nothing left, and no read failed.
pub record SourceReadsWhole (before now : Option SourceReading) (faults faults' : ℕ) (bytes : Bytes)
    : Type 0 where
  pub gave : Gave before now bytes
  pub at_end : IsAtEnd now
  pub no_fault : faults' ≡ faults

-- Why reading stopped before the source's end: a read failed, as many were made as may be, or
-- memory was wanted.
abbrev pub ReadingStopsFor : Status → Bytes → ℕ → ℕ → Type 0
ReadingStopsFor ReadFault bytes faults faults' = Counted faults faults'
ReadingStopsFor TurnsUsed bytes faults faults' = (MOST_READS ≤ length bytes) × (faults' ≡ faults)
ReadingStopsFor NoMemory bytes faults faults' = faults' ≡ faults
ReadingStopsFor _ bytes faults faults' = ⊥

-- Reading stopped so.
pub record StopsReading (status : Status) (before now : Option SourceReading) (faults faults' : ℕ)
    : Type 0 where
  pub bytes : Bytes
  pub gave : Gave before now bytes
  pub stops : ReadingStopsFor status bytes faults faults'

-- a hub that was asked nothing yet, with these turns left
abbrev pub hub_of : List Coming → Shown
hub_of turns = hub_shown (Some []) (Some (record { blocked = []; turns = turns })) no_ids

-- whether serving ended as the hub was over, a session sent `stop`, or the log failed
abbrev pub ServedWhole : Served → Type 0
ServedWhole AllTaken = ⊥
ServedWhole HubFailed = ⊥
ServedWhole _ = Unit {0}

-- The lines of the log were loaded, a batch that they left open was ended, and the hub of these turns
-- was served from what they gave on, until it was over, a session sent `stop`, or the log failed: by
-- moves that are a run of the join machine, which counted no more of listings than it may cost, with
-- each session sent what is its, and each turn a round of its own. What the run logs is in the log. The hub
-- shows what is left of its turns, so each turn that was read is the next of these. At the end it shows this past.
pub record Plays (log : Option LogSeen) (turns : List Coming) (most : ℕ) (counted counted' : Counts)
    (past : Option (List Told)) : Type 0 where
  pub found : List Bytes
  pub first : List Group
  pub start : State
  pub loaded : Counts
  pub begins : Begins log found first counted start loaded
  pub left : Script
  pub ids : Ids
  pub state : State
  pub answer : Served
  pub ends : ServeEnds answer most 1 (hub_of turns) loaded start (hub_shown past (Some left) ids)
      counted' state
  pub logs : Logs log found first answer (all_logged ends.goes.moves)
  pub stored : IsStored log found first ends.goes.moves
  pub silent : UnkeptIsSilent answer ends.goes.moves
  pub whole : ServedWhole answer

-- **The theorem of `replay`.** The hub of these turns was served, and shows all calls that it was asked. No send
-- among them found its session closed: so each accepted all that was offered, unless the session was blocked. This
-- text is the lines that were sent, and this the status that reports why serving ended.
pub record Replays (log : Option LogSeen) (turns : List Coming) (most : ℕ) (counted counted' : Counts)
    (text : Bytes) (status : Status) : Type 0 where
  pub told : List Told
  pub plays : Plays log turns most counted counted' (Some told)
  pub none_gone : has_gone told ≡ false
  pub sent : text ≡ sent_text told
  pub is : status ≡ served_status plays.answer

-- What is to be written for a schedule, and the status once it is: the line that reports which of its lines is the
-- first outside the grammar, and nothing is loaded or run; or what was sent, if none is. It is served for one turn
-- more than it has lines.
abbrev pub ReplayComesTo : Option LogSeen → Result (List Coming) ℕ → Bytes → Counts → Counts → Bytes → Status → Type 0
ReplayComesTo log (Err n) bytes counted counted' text status = (text ≡ outside_line n)
    × (status ≡ Schedule n) × (counted' ≡ counted) × IsUnasked log
ReplayComesTo log (Ok turns) bytes counted counted' text status =
    Replays log turns (length (schedule_lines bytes) + 1) counted counted' text status

-- the status if two things failed: that of the log, if it failed as the schedule was run, and
-- else that of what failed later
abbrev pub first_fault : Status → Status → Status
first_fault DiskFault later = DiskFault
first_fault LogFull later = LogFull
first_fault _ later = later

-- What was sent couldn't be written, for want of memory.
pub record Untold (log : Option LogSeen) (status : Status) (turns : List Coming) (most : ℕ)
    (counted counted' : Counts) : Type 0 where
  pub past : Option (List Told)
  pub plays : Plays log turns most counted counted' past
  pub is : status ≡ first_fault (served_status plays.answer) NoMemory

-- What was done for a schedule of which nothing is to be written: nothing began, as the log wasn't
-- loaded or memory was wanted; or its hub was served all the same, and what was sent couldn't be written.
abbrev pub ComesToNothing : Option LogSeen → Status → Result (List Coming) ℕ → Bytes → Counts → Counts → Type 0
ComesToNothing log status (Err n) bytes counted counted' = (status ≡ NoMemory) × (counted' ≡ counted)
    × IsUnasked log
ComesToNothing log status (Ok turns) bytes counted counted' =
    NeverBegins log status counted counted'
    ⊎ Untold log status turns (length (schedule_lines bytes) + 1) counted counted'

-- The sink accepted all of the text, and the status is this; or it accepted a first part that isn't the
-- whole, and then a write failed, which was the last.
abbrev pub Wrote : Status → Status → Bytes → Option (List Write) → ℕ → Option (List Write) → ℕ
    → Type 0
Wrote status whole text writing faults writing' faults' =
    ((status ≡ whole) × GainsBytes writing writing' text × (faults' ≡ faults))
    ⊎ ((status ≡ first_fault whole WriteFault) × (n : ℕ) × (n < length text)
    × FailsBehind writing writing' (take n text) (drop n text) × Counted faults faults')

-- What is to be written for a schedule was written; or nothing is, and nothing was. In both cases no
-- more was counted of listings than the run of the schedule may cost.
abbrev pub WritesFor : Option LogSeen → Status → Bytes → Option (List Write) → ℕ → Counts
    → Option (List Write) → ℕ → Counts → Type 0
WritesFor log status bytes writing faults counted writing' faults' counted' =
    ((text : Bytes) × (whole : Status) × ReplayComesTo log (turns_of bytes) bytes counted counted' text whole
    × Wrote status whole text writing faults writing' faults')
    ⊎ (ComesToNothing log status (turns_of bytes) bytes counted counted'
    × (writing' ≡ writing) × (faults' ≡ faults))

-- The whole schedule was read, and then written of.
pub record WritesWhole (log : Option LogSeen) (status : Status) (before now : Outside) : Type 0 where
  pub bytes : Bytes
  pub reads : SourceReadsWhole before.reading now.reading before.read_faults now.read_faults bytes
  pub writes : WritesFor log status bytes before.writing before.write_faults before.counted now.writing
      now.write_faults now.counted

-- Reading stopped before the end: nothing is loaded, run or written.
pub record ReadingStops (log : Option LogSeen) (status : Status) (before now : Outside) : Type 0 where
  pub reading : StopsReading status before.reading now.reading before.read_faults now.read_faults
  pub writing : now.writing ≡ before.writing
  pub no_fault : now.write_faults ≡ before.write_faults
  pub none_counted : now.counted ≡ before.counted
  pub unasked : IsUnasked log

-- How `replay` ends.
abbrev pub ReplayEnds : Option LogSeen → Status → Outside → Outside → Type 0
ReplayEnds log status before now = WritesWhole log status before now ⊎ ReadingStops log status before now
