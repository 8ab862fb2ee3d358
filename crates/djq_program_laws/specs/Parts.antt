-- What the parts of the program promise that open a log and write what was sent.
use Rattle.std.specs.Prelude.{ℕ, List, [], ◌≡◌, ◌⊎◌, false, Option, None, Some, IsSome, IfSome, Result, MatchResult}
use Rattle.djq_io.specs.Faults.{Counted}
use Rattle.djq_io.specs.SteadyHub.{has_gone}
use Rattle.djq_io.specs.declared.hub.Told.{Told}
use Rattle.djq_disk.specs.History.{History, WhereHistoryTold}
use Rattle.djq_log_file.specs.Opening.{IsUnbegun}
use Rattle.djq_log.specs.Lines.{IsIdleAt}
use Rattle.djq_log.specs.Keeping.{IsKeeping, WasKeeping}
use Rattle.djq_log.specs.Logging.{Overfull}
use Rattle.djq_log.specs.declared.end.LogEnd.{LogEnd}
use Rattle.djq_model.specs.Data.{Bytes}
use Rattle.djq_machine.specs.State.{State, opening}
use Rattle.djq_machine.specs.Run.{Group, lines_in}
use Rattle.djq_machine.specs.Call.{Counts}
use Rattle.djq_machine.specs.Loading.{Loading, loading, Loads}
use Rattle.djq_run.specs.declared.status.Status.{Status}
use Rattle.djq_run.specs.declared.status.Status.TheVariants.{NoMemory, DiskFault, LogFull}
use Rattle.djq_schedule.specs.Sent.{sent_text}
use Rattle.djq_program_laws.specs.Logged.{DiskSeen, LogSeen, LogIsMade, IsOlder, abandoning, first_kept}
use Rattle.djq_program_laws.specs.Logged.{UnloadedFor, Begins, FoundIn, NeverBegins}
use Rattle.djq_program_laws.specs.Replay.{first_fault}

-- All lines of a log were loaded, and nothing was written. The log ends here.
pub record LoadsLines (log : LogEnd) (end : Loading) (state : State) (before now : DiskSeen) (listing listing' : ℕ)
    : Type 0 where
  pub found : List Bytes
  pub loads : Loads (loading opening.store) found end
  pub fresh : state ≡ record opening { store = state.store }
  pub idle : IfSome now.told (λ h. IsIdleAt found log h.file)
  pub same : WhereHistoryTold before.told now.told (λ o n. n ≡ o)
  pub faults : now.faults ≡ before.faults
  pub unlisted : listing' ≡ listing

-- Loading stopped before the end, and nothing was written.
pub record StopsLoading (status : Status) (before now : DiskSeen) (listing listing' : ℕ) : Type 0 where
  pub caused : UnloadedFor status before.faults now
  pub same : WhereHistoryTold before.told now.told (λ o n. n ≡ o)
  pub unlisted : listing' ≡ listing

-- An older log of these lines was opened, in a file in which it was begun.
abbrev pub ReadsOlder : Bytes → List Bytes → History → History → Type 0
ReadsOlder path found old new = IsOlder path found old new × (IsUnbegun old.file.bytes → ⊥)

-- A log was made, or an older one was opened and read to its end; it has these lines, and ends here.
abbrev pub FindsAll : Bytes → List Bytes → LogEnd → History → History → Type 0
FindsAll path found log old new =
    (LogIsMade path found old new ⊎ ReadsOlder path found old new) × IsIdleAt found log new.file

-- A log was opened, and all lines found in it were loaded.
pub record ReadsLog (log : LogSeen) (ends : LogEnd) (end : Loading) (state : State) (listing listing' : ℕ) : Type 0
  where
    pub found : List Bytes
    pub loads : Loads (loading opening.store) found end
    pub fresh : state ≡ record opening { store = state.store }
    pub faults : log.now.faults ≡ log.before.faults
    pub finds : WhereHistoryTold log.before.told log.now.told (FindsAll log.path found ends)
    pub unlisted : listing' ≡ listing

-- After lines that left a batch open `abandon` was loaded and appended, and after others nothing was done.
pub record EndsBatch (ends : LogEnd) (log : Option LogEnd) (old new : Loading) (before now : DiskSeen) : Type 0 where
  pub loads : Loads old (lines_in (first_kept old.batch)) new
  pub closed : new.batch ≡ None
  pub after : LogEnd
  pub at : log ≡ Some after
  pub kept : (found : List Bytes) → WhereHistoryTold before.told now.told (λ o n. (start : History)
      → IsKeeping found [] ends start o → IsKeeping found (first_kept old.batch) after start n)
  pub faults : now.faults ≡ before.faults

-- They left one open, and `abandon` couldn't be appended: the disk failed, or there was no room.
abbrev pub CantEnd : Status → LogEnd → Loading → DiskSeen → DiskSeen → Type 0
CantEnd DiskFault ends old before now = IsSome old.batch × Counted before.faults now.faults
    × ((found : List Bytes) → WhereHistoryTold before.told now.told (λ o n. (start : History)
    → IsKeeping found [] ends start o → WasKeeping found [] abandoning start n))
CantEnd LogFull ends old before now = IsSome old.batch × (now.faults ≡ before.faults)
    × Overfull (Some ends) abandoning
    × ((found : List Bytes) → WhereHistoryTold before.told now.told (λ o n. (start : History)
    → IsKeeping found [] ends start o → n ≡ o))
CantEnd _ ends old before now = ⊥

-- The result of opening a log and loading its lines, if one is asked for: a state to start from, and the
-- end of the log; or the status for which nothing begins.
abbrev pub OpensLog : Option LogSeen → Result (Option LogEnd) Status → State → Counts → Counts → Type 0
OpensLog log result state counted loaded = MatchResult result
    (λ end. (found : List Bytes) × (first : List Group) × Begins log found first counted state loaded
    × FoundIn log found first end)
    (λ status. NeverBegins log status counted loaded)

-- What a hub that never fails was sent, and the status with it.
pub record TellsWhole (text : Bytes) (status : Status) (past : Option (List Told)) (whole : Status) : Type 0 where
  pub told : List Told
  pub is_told : past ≡ Some told
  pub none_gone : has_gone told ≡ false
  pub sent : text ≡ sent_text told
  pub is : status ≡ whole

-- It is returned; or there is no memory for it.
abbrev pub TellsNone : Status → Status → Type 0
TellsNone status whole = status ≡ first_fault whole NoMemory
