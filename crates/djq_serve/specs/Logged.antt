-- What is in the log of the groups of lines that it was handed.
use Rattle.std.specs.Prelude.{ℕ, List, [], ◌∷◌, ◌++◌, ◌≡◌, Option, None, Some, All}
use Rattle.djq_io.specs.Faults.{Counted}
use Rattle.djq_io.specs.declared.hub.Told.{Told}
use Rattle.djq_io.specs.declared.hub.Told.TheVariants.{Closing}
use Rattle.djq_disk.specs.History.{History, WhereHistoryTold}
use Rattle.djq_log.specs.Keeping.{WasKeeping}
use Rattle.djq_log.specs.Logging.{HasKeptGroups, Overfull}
use Rattle.djq_log.specs.declared.end.LogEnd.{LogEnd}
use Rattle.djq_model.specs.Data.{Bytes}
use Rattle.djq_machine.specs.State.{State}
use Rattle.djq_machine.specs.Step.{Event, closed}
use Rattle.djq_machine.specs.Run.{Walk, Did, Group, groups_of, lines_in}
use Rattle.djq_machine.specs.Call.{Counts}
use Rattle.djq_serve.specs.declared.served.Served.{Served}
use Rattle.djq_serve.specs.declared.served.Served.TheVariants.{Stopped, Over, TurnsUsed, HubFault, DiskFault, LogFull}
use Rattle.djq_serve.specs.Told.{Shown}
use Rattle.djq_serve.specs.Server.{Move, all_told, all_done, all_logged}
use Rattle.djq_serve.specs.Goes.{log_place, LogsMove}
use Rattle.djq_serve.specs.Ends.{ServeEnds}

-- All these groups are in the log after those that it had, whatever these were and whenever it began.
abbrev pub AllKept : Option LogEnd → Option LogEnd → List Group → Option History → Option History → Type 0
AllKept end end' groups old new =
    WhereHistoryTold old new (λ a b. (found : List Bytes) (had : List Group) (start : History)
    → HasKeptGroups end found had start a → HasKeptGroups end' found (had ++ groups) start b)

-- All but the last are in the log. The disk failed as that was appended, so a crash leaves it whole or not at all.
pub record LastLost (end : Option LogEnd) (groups : List Group) (old new : Option History) : Type 0 where
  pub whole : List Group
  pub last : Group
  pub cut : groups ≡ whole ++ last ∷ []
  pub kept : WhereHistoryTold old new (λ a b. (found : List Bytes) (had : List Group) (start : History)
      → HasKeptGroups end found had start a → WasKeeping found (had ++ whole) last start b)

-- All but the last are in the log, which has no room for that.
pub record LastLeft (end : Option LogEnd) (groups : List Group) (old new : Option History) : Type 0 where
  pub whole : List Group
  pub last : Group
  pub cut : groups ≡ whole ++ last ∷ []
  pub end' : Option LogEnd
  pub full : Overfull end' last
  pub kept : AllKept end end' whole old new

-- what the log has, by the answer; there is none if serving continues
abbrev pub KeepsBy : Option Served → Option LogEnd → Option LogEnd → List Group → Option History → Option History
    → Type 0
KeepsBy None end end' groups old new = AllKept end end' groups old new
KeepsBy (Some Stopped) end end' groups old new = AllKept end end' groups old new
KeepsBy (Some Over) end end' groups old new = AllKept end end' groups old new
KeepsBy (Some TurnsUsed) end end' groups old new = AllKept end end' groups old new
KeepsBy (Some HubFault) end end' groups old new = AllKept end end' groups old new
KeepsBy (Some DiskFault) end end' groups old new = LastLost end groups old new
KeepsBy (Some LogFull) end end' groups old new = LastLeft end groups old new

-- The disk's count of faults rises if the answer is a fault of it, and stays otherwise.
abbrev pub DiskCounts : Option Served → ℕ → ℕ → Type 0
DiskCounts (Some DiskFault) before now = Counted before now
DiskCounts _ before now = now ≡ before

-- answers that aren't of the disk
abbrev pub IsNotOfDisk : Served → Type 0
IsNotOfDisk DiskFault = ⊥
IsNotOfDisk LogFull = ⊥
IsNotOfDisk _ = Unit {0}

-- so it is if serving may continue
abbrev pub IsPlainAnswer : Option Served → Type 0
IsPlainAnswer None = Unit {0}
IsPlainAnswer (Some answer) = IsNotOfDisk answer

-- a call of the hub that closes a session
abbrev pub IsClose : Told → Type 0
IsClose (Closing s) = Unit {0}
IsClose _ = ⊥

-- an event of the machine by which one is closed
abbrev pub IsClosed : Event → Type 0
IsClosed (closed s bytes) = Unit {0}
IsClosed _ = ⊥

-- **What isn't logged isn't answered.** The last group is of the lines that the steps of the last commit log,
-- and the log had been handed all others before. From the first step of this commit on the hub is asked for
-- nothing but to close sessions, and after its last step the machine makes none but by these. So nothing that
-- any of its steps queued is sent, of those that log nothing neither; no turn is read and no line is run after
-- it.
pub record Unanswered (last : Group) (moves : List Move) : Type 0 where
  pub before : List Move
  pub commit : List Move
  pub behind : List Move
  pub cut : moves ≡ before ++ (commit ++ behind)
  pub keeps : lines_in (groups_of (all_done commit)) ≡ last
  pub earlier : all_logged moves ≡ all_logged before ++ last ∷ []
  pub told : All IsClose (all_told (commit ++ behind))
  pub done : All (λ (d : Did). IsClosed d.event) (all_done behind)

-- So it is if the disk ends the serving.
abbrev pub Silent : Served → Group → List Move → Type 0
Silent DiskFault last moves = Unanswered last moves
Silent LogFull last moves = Unanswered last moves
Silent _ last moves = Unit {0}

-- What the log was handed last is silent, if the disk ends the serving.
abbrev pub UnkeptIsSilent : Served → List Move → Type 0
UnkeptIsSilent answer moves = (whole : List Group) (last : Group)
    → all_logged moves ≡ whole ++ last ∷ [] → Silent answer last moves

-- What the log was handed in the first commits is what the first groups of the steps are.
pub record FirstOf (groups whole : List Group) : Type 0 where
  pub first : List Group
  pub later : List Group
  pub cut : groups ≡ first ++ later
  pub lines : lines_in first ≡ lines_in whole

-- **How serving with a log ends.** As without one; and of the groups that the log was handed, one a commit
-- and in order, all are in the log; or all but the last, and to that commit nothing was answered.
pub record ServeLogs (answer : Served) (turns most : ℕ) (hub : Shown) (counted : Counts) (old : State)
    (hub' : Shown) (counted' : Counts) (new : State) (end end' : Option LogEnd)
    (disk disk' : Option History) : Type 0 where
  pub ends : ServeEnds answer turns most hub counted old hub' counted' new
  pub logs : Walk LogsMove (log_place end disk) ends.goes.moves (log_place end' disk')
  pub kept : KeepsBy (Some answer) end end' (all_logged ends.goes.moves) disk disk'
  pub silent : UnkeptIsSilent answer ends.goes.moves
