-- How the log of a program is opened and loaded, and what it has of the run that follows.
use Rattle.std.specs.Prelude.{ℕ, List, [], ◌∷◌, ◌++◌, ◌≡◌, ◌⊎◌, Option, None, Some, IsSome, IfSome, codes}
use Rattle.std.specs.Borrow.{Bor}
use Rattle.djq_io.specs.Faults.{Counted}
use Rattle.djq_disk.specs.History.{History, WhereHistoryTold}
use Rattle.djq_log_file.specs.Opening.{IsUnbegun, synced_history}
use Rattle.djq_log.specs.Lines.{LogOpensToLines, IsIdleAt}
use Rattle.djq_log.specs.Reading.{IsNoLog, IsBadAt, IsNextAt}
use Rattle.djq_log.specs.Keeping.{IsKeeping, WasKeeping}
use Rattle.djq_log.specs.Logging.{Overfull}
use Rattle.djq_log.specs.declared.end.LogEnd.{LogEnd}
use Rattle.djq_model.specs.Data.{Bytes}
use Rattle.djq_store_spec.specs.Held.{HeldTransaction}
use Rattle.djq_machine.specs.State.{State, opening}
use Rattle.djq_machine.specs.Run.{Walk, Group, lines_in}
use Rattle.djq_machine.specs.Call.{Counts}
use Rattle.djq_machine.specs.declared.machine.Loaded.TheVariants.{Refused as refused}
use Rattle.djq_machine.specs.Loading.{Loading, loading, LoadStep, Loads}
use Rattle.djq_run.specs.declared.status.Status.{Status}
use Rattle.djq_run.specs.declared.status.Status.TheVariants.{Done, NoMemory, HubFault, TurnsUsed}
use Rattle.djq_run.specs.declared.status.Status.TheVariants.{DiskFault, LogFull, BadLog}
use Rattle.djq_serve.specs.declared.served.Served.{Served}
use Rattle.djq_serve.specs.declared.served.Served.TheVariants.{Stopped, Over, TurnsUsed as AllTaken}
use Rattle.djq_serve.specs.declared.served.Served.TheVariants.{HubFault as HubFailed}
use Rattle.djq_serve.specs.declared.served.Served.TheVariants.{DiskFault as DiskFailed}
use Rattle.djq_serve.specs.declared.served.Served.TheVariants.{LogFull as Full}
use Rattle.djq_serve.specs.Server.{Move}
use Rattle.djq_serve.specs.Goes.{log_place, LogsMove}
use Rattle.djq_serve.specs.Logged.{DiskCounts, IsNotOfDisk}

-- A disk, as the program shows it: its history, if it records one, and its count of faults.
pub record DiskSeen : Type 0 where
  pub told : Option History
  pub faults : ℕ

-- a disk of this history, if it records one, with this count of faults
abbrev pub disk_seen : Option History → ℕ → DiskSeen
disk_seen told faults = record { told = told; faults = faults }

-- A log, as the program shows it: the path by which it is asked for, and the disk as it was and as it
-- is then.
pub record LogSeen : Type 0 where
  pub path : Bytes
  pub before : DiskSeen
  pub now : DiskSeen

-- the log that is asked for by a path, on a disk that was and now is so
abbrev pub log_seen_at : Bytes → DiskSeen → DiskSeen → LogSeen
log_seen_at path before now = record { path = path; before = before; now = now }

-- the log that is asked for, if one is
abbrev pub log_seen : Option (Bor Bytes) → DiskSeen → DiskSeen → Option LogSeen
log_seen None before now = None
log_seen (Some path) before now = Some (log_seen_at path.now before now)

-- nothing was asked of its disk
abbrev pub IsUnasked : Option LogSeen → Type 0
IsUnasked None = Unit {0}
IsUnasked (Some log) = log.now ≡ log.before

-- the status for the answer of the loop
abbrev pub served_status : Served → Status
served_status Stopped = Done
served_status Over = Done
served_status AllTaken = TurnsUsed
served_status HubFailed = HubFault
served_status DiskFailed = DiskFault
served_status Full = LogFull

-- the history after an open of the file at this path, whatever it answered
abbrev pub asked_for : Bytes → History → History
asked_for path h = record h { paths = h.paths ++ path ∷ [] }

-- A log without lines was made, in a file in which none was begun.
pub record LogIsMade (path : Bytes) (found : List Bytes) (old since : History) : Type 0 where
  pub unbegun : IsUnbegun old.file.bytes
  pub none : found ≡ []
  pub paths : since.paths ≡ old.paths ++ path ∷ []

-- An older log was opened, which has these lines. All that was asked of the disk is a sync.
pub record IsOlder (path : Bytes) (found : List Bytes) (old since : History) : Type 0 where
  pub lines : LogOpensToLines found old.file.bytes
  pub is : since ≡ synced_history (asked_for path old)

-- One file was opened, by this path. Its log was made, or an older one of these lines was
-- opened, and this holds of the moment when that was done.
pub record SinceOpened (path : Bytes) (found : List Bytes) (P : History → Type 0) (old : History) : Type 0 where
  pub since : History
  pub begins : LogIsMade path found old since ⊎ IsOlder path found old since
  pub holds : P since

-- the group that ends a batch which the lines found leave open
abbrev pub abandoning : Group
abandoning = codes "abandon" ∷ []

-- what is appended before anything is served: nothing, if the lines found leave no batch open; and
-- `abandon`, if they leave one open
abbrev pub first_kept : Option HeldTransaction → List Group
first_kept None = []
first_kept (Some held) = abandoning ∷ []

-- The log has these lines, and after them these groups, and ends here then; and at each moment
-- since it was opened a crash leaves the lines and whole groups, the first ones.
abbrev pub FindsLines : Bytes → List Bytes → List Group → LogEnd → History → History → Type 0
FindsLines path found first end old new = SinceOpened path found (λ since. IsKeeping found first end since new) old

-- All but the last of some groups were appended after the first ones, and that may be.
pub record LostLast (found : List Bytes) (first groups : List Group) (since new : History) : Type 0 where
  pub whole : List Group
  pub last : Group
  pub cut : groups ≡ whole ++ last ∷ []
  pub kept : WasKeeping found (first ++ whole) last since new

-- All but the last of some groups are in the log after the first ones, and for that there is no room.
pub record LeftLast (found : List Bytes) (first groups : List Group) (since new : History) : Type 0 where
  pub whole : List Group
  pub last : Group
  pub cut : groups ≡ whole ++ last ∷ []
  pub end : LogEnd
  pub full : Overfull (Some end) last
  pub kept : IsKeeping found (first ++ whole) end since new

-- What the log has of groups after the lines found and what was appended first, by the answer of the loop: at
-- each moment since a crash leaves whole groups, the first ones; and in the end all of them, or all but
-- the last.
abbrev pub KeptAs : Served → List Bytes → List Group → List Group → History → History → Type 0
KeptAs DiskFailed found first groups since new = LostLast found first groups since new
KeptAs Full found first groups since new = LeftLast found first groups since new
KeptAs _ found first groups since new = (end : LogEnd) × IsKeeping found (first ++ groups) end since new

-- What serving leaves in the log that is asked for, if one is: after the lines found what was appended
-- first, and the groups of lines that the machine's steps logged. Without one it doesn't end by the disk.
abbrev pub Logs : Option LogSeen → List Bytes → List Group → Served → List Group → Type 0
Logs None found first answer groups = IsNotOfDisk answer
Logs (Some log) found first answer groups = DiskCounts (Some answer) log.before.faults log.now.faults
    × WhereHistoryTold log.before.told log.now.told
    (λ o n. SinceOpened log.path found (λ since. KeptAs answer found first groups since n) o)

-- The log that is asked for, if one is, has these lines and what was appended first, and nothing else was
-- done: it ends here.
abbrev pub FoundIn : Option LogSeen → List Bytes → List Group → Option LogEnd → Type 0
FoundIn None found first end = end ≡ None
FoundIn (Some log) found first None = ⊥
FoundIn (Some log) found first (Some end) = (log.now.faults ≡ log.before.faults)
    × WhereHistoryTold log.before.told log.now.told (FindsLines log.path found first end)

-- If a log is asked for, it ended after the lines found and what was appended first, and then each move
-- did to it what the move describes.
abbrev pub IsStored : Option LogSeen → List Bytes → List Group → List Move → Type 0
IsStored None found first moves = Unit {0}
IsStored (Some log) found first moves = (end : LogEnd) × (end' : Option LogEnd) × (mid : Option History)
    × WhereHistoryTold log.before.told mid (FindsLines log.path found first end)
    × Walk LogsMove (log_place (Some end) mid) moves (log_place end' log.now.told)

-- What loading counts: no lookup or link of a listing. If no log is asked for no line is found,
-- and nothing is counted.
abbrev pub LoadCounts : Option LogSeen → List Bytes → Counts → Counts → Type 0
LoadCounts None found counted loaded = (found ≡ []) × (loaded ≡ counted)
LoadCounts (Some log) found counted loaded = loaded.listing ≡ counted.listing

-- Lines are loaded into a machine in which nothing has happened, with this result; and so what is appended first is
-- this.
pub record KeepsFirst (found : List Bytes) (first : List Group) : Type 0 where
  pub end : Loading
  pub loads : Loads (loading opening.store) found end
  pub is : first ≡ first_kept end.batch

-- The state to start from, and what was counted until then: the lines found and what was appended first,
-- loaded one after another into a machine in which nothing has happened, give its store, and nothing
-- else of it; and leave no batch open.
pub record Begins (log : Option LogSeen) (found : List Bytes) (first : List Group) (counted : Counts) (start : State)
    (loaded : Counts) : Type 0 where
  pub keeps : KeepsFirst found first
  pub loads : Loads (loading opening.store) (found ++ lines_in first) (loading start.store)
  pub fresh : start ≡ record opening { store = start.store }
  pub counts : LoadCounts log found counted loaded

-- A file in which a log was begun, or something else, was opened, by this path, and read after a sync. Nothing was
-- written.
pub record IsOnlyRead (path : Bytes) (old new : History) : Type 0 where
  pub some : IsUnbegun old.file.bytes → ⊥
  pub is : new ≡ synced_history (asked_for path old)

-- A file was to be opened, by this path, and to be read after a sync. Nothing was written.
abbrev pub IsUnwritten : Bytes → History → History → Type 0
IsUnwritten path old new = (new ≡ asked_for path old) ⊎ (new ≡ synced_history (asked_for path old))

-- A log was to be made, in a file in which none was begun.
pub record IsUnmade (path : Bytes) (old new : History) : Type 0 where
  pub unbegun : IsUnbegun old.file.bytes
  pub paths : new.paths ≡ old.paths ++ path ∷ []

-- These lines, loaded, leave a batch open.
pub record LeavesOpen (found : List Bytes) : Type 0 where
  pub end : Loading
  pub loads : Loads (loading opening.store) found end
  pub is_open : IsSome end.batch

-- The lines found leave a batch open, and `abandon` failed to be appended: at each moment since
-- the log was opened a crash leaves them, with it or without.
pub record IsUnended (path : Bytes) (old new : History) : Type 0 where
  pub found : List Bytes
  pub leaves : LeavesOpen found
  pub lost : SinceOpened path found (λ since. WasKeeping found [] abandoning since new) old

-- What is left of the file if nothing begins, by the status. Of a log that is bad or full all that it
-- was, and one was begun; so too if memory was wanted, unless nothing was asked of the disk. If the
-- disk failed: all that it was; or what was to become a log, in a file in which none was begun; or its lines, with
-- `abandon` after them, or without.
abbrev pub LeavesUnloaded : Status → Bytes → History → History → Type 0
LeavesUnloaded DiskFault path old new = IsUnwritten path old new ⊎ (IsUnmade path old new ⊎ IsUnended path old new)
LeavesUnloaded NoMemory path old new = (new ≡ old) ⊎ IsOnlyRead path old new
LeavesUnloaded _ path old new = IsOnlyRead path old new

-- the file is no log, of either format; the place is its first
abbrev pub IsNoLogFrom : ℕ → History → Type 0
IsNoLogFrom at h = (at ≡ 0) × IsNoLog h.file.bytes

-- The next line after those whose loading has this result, in the record whose gate is at a place, is refused.
pub record IsRefusedAt (at : ℕ) (found : List Bytes) (end : Loading) (told : Option History) : Type 0 where
  pub line : Bytes
  pub same : Loading
  pub refuses : LoadStep end line refused same
  pub stands : IfSome told (λ h. IsNextAt found line at h.file)

-- The lines before are loaded, and then the file is bad at a place, or the next line there is refused.
pub record IsBadAfter (at : ℕ) (told : Option History) : Type 0 where
  pub found : List Bytes
  pub end : Loading
  pub loads : Loads (loading opening.store) found end
  pub bad : IfSome told (λ h. IsBadAt found at h.file) ⊎ IsRefusedAt at found end told

-- Why a log is bad from this place on, as far as the disk records a history.
abbrev pub IsBadFrom : ℕ → Option History → Type 0
IsBadFrom at told = IfSome told (IsNoLogFrom at) ⊎ IsBadAfter at told

-- The lines found leave a batch open, and the log, which ends after them, has no room for `abandon`.
pub record LacksRoom (told : Option History) : Type 0 where
  pub found : List Bytes
  pub leaves : LeavesOpen found
  pub end : LogEnd
  pub full : Overfull (Some end) abandoning
  pub idle : IfSome told (λ h. IsIdleAt found end h.file)

-- The causes of the statuses with which loading ends, by the count of the disk's faults before.
abbrev pub UnloadedFor : Status → ℕ → DiskSeen → Type 0
UnloadedFor DiskFault faults now = Counted faults now.faults
UnloadedFor LogFull faults now = (now.faults ≡ faults) × LacksRoom now.told
UnloadedFor (BadLog at) faults now = (now.faults ≡ faults) × IsBadFrom at now.told
UnloadedFor NoMemory faults now = now.faults ≡ faults
UnloadedFor _ faults now = ⊥

-- The log wasn't loaded to its end, or a batch that its lines leave open couldn't be ended: the disk
-- failed, the log is full or bad, or memory was wanted. No lookup or link of a listing was counted.
pub record Unloaded (log : LogSeen) (status : Status) (counted counted' : Counts) : Type 0 where
  pub caused : UnloadedFor status log.before.faults log.now
  pub leaves : WhereHistoryTold log.before.told log.now.told (LeavesUnloaded status log.path)
  pub unlisted : counted'.listing ≡ counted.listing

-- So nothing began; without a log memory was wanted, before anything was done.
abbrev pub NeverBegins : Option LogSeen → Status → Counts → Counts → Type 0
NeverBegins None status counted counted' = (status ≡ NoMemory) × (counted' ≡ counted)
NeverBegins (Some log) status counted counted' = Unloaded log status counted counted'
