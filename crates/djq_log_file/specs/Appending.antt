-- What an append of a group leaves, at each moment and in the end.
use Rattle.std.specs.Prelude.{◌≡◌, ℕ, ◌+◌, ◌<◌, ◌≤◌, ◌⊎◌, List, [], ◌∷◌, ◌++◌, length}
use Rattle.std.specs.List.{AllByRecursion}
use Rattle.djq_io.specs.Faults.{Counted}
use Rattle.djq_disk.specs.File.{IsSettled, File}
use Rattle.djq_disk.specs.History.{History}
use Rattle.djq_disk.specs.Leaving.{LeavesSince}
use Rattle.djq_disk.specs.declared.disk.DiskDid.{DiskDid}
use Rattle.djq_disk.specs.declared.disk.DiskDid.TheVariants.{Done as Did, Failed as Failing}
use Rattle.djq_log_format.specs.Encoding.{Measured, measured}
use Rattle.djq_log_format.specs.Format.{IsLogLine, record_body, digest_behind}
use Rattle.djq_log_file.specs.Places.{LogEndPlace}
use Rattle.djq_log_file.specs.Standing.{HoldsGroups, IsLogEndAt}
use Rattle.djq_log_file.specs.Laying.{HasGoneOn}
use Rattle.djq_log_file.specs.declared.writer.LogAppended.{LogAppended}
use Rattle.djq_log_file.specs.declared.writer.LogAppended.TheVariants.{Done, Failed, Full}
use Rattle.djq_log_file.specs.declared.limits.TheConstants.{LAST_LOG_GATE}

-- what a log accepts as a line
abbrev pub FitsLogLine : List ℕ → Type 0
FitsLogLine line = (1 ≤ length line) × (length line ≤ 65535)

-- A group is measured at a gate: the place of the gate after it, which isn't past the last place; its body; and its lines
-- are those of a log.
abbrev pub IsMeasured : ℕ → ℕ → List (List ℕ) → ℕ → Measured → Type 0
IsMeasured gate digest lines end measure = (end ≡ gate + 17 + length (record_body lines)) × (end ≤ LAST_LOG_GATE)
    × (measure ≡ measured digest lines) × AllByRecursion IsLogLine lines

-- A log of these groups ends here, in a file in which all is synced.
pub record IsIdleLog (groups : List (List (List ℕ))) (place : LogEndPlace) (file : File) : Type 0 where
  pub ends : IsLogEndAt groups place file.bytes
  pub still : IsSettled file

-- the end of a log after a group that is appended at this one
abbrev pub end_behind : LogEndPlace → List (List ℕ) → LogEndPlace
end_behind place group =
    record { at = place.at + 17 + length (record_body group); digest = digest_behind place.digest group }

-- A file has the groups before an append, or those and the new one, whole.
abbrev pub HasOldOrNew : List (List (List ℕ)) → List (List ℕ) → List ℕ → Type 0
HasOldOrNew groups group file = HoldsGroups groups file ⊎ HoldsGroups (groups ++ group ∷ []) file

-- How an append of a group changes a log: it ends after the group; at each moment a crash leaves the groups before, or
-- those and the new one; and if it is full, nothing changes.
abbrev pub AppendsGroup : LogAppended → List (List (List ℕ)) → List (List ℕ) → History → History → Type 0
AppendsGroup (Done place) groups group old new = IsIdleLog (groups ++ group ∷ []) place new.file
    × LeavesSince (HasOldOrNew groups group) old new
AppendsGroup Failed groups group old new = LeavesSince (HasOldOrNew groups group) old new
AppendsGroup Full groups group old new = new ≡ old

-- So it is whatever groups were before. If the end isn't known the disk moves on by moments all the same.
pub record AppendsAfter (answer : LogAppended) (place : LogEndPlace) (group : List (List ℕ)) (old new : History) : Type 0
  where
    pub passed : HasGoneOn old new
    pub appends : (groups : List (List (List ℕ))) → IsIdleLog groups place old.file → AppendsGroup answer groups group old new

-- a write and a sync of a record and its gate, done or failed
abbrev pub AppendsBy : DiskDid → LogEndPlace → List (List (List ℕ)) → List (List ℕ) → History → History → Type 0
AppendsBy Did place groups group old new = IsIdleLog (groups ++ group ∷ []) (end_behind place group) new.file
    × LeavesSince (HasOldOrNew groups group) old new
AppendsBy Failing place groups group old new = LeavesSince (HasOldOrNew groups group) old new

pub record AppendsHere (did : DiskDid) (place : LogEndPlace) (group : List (List ℕ)) (old new : History) : Type 0 where
  pub passed : HasGoneOn old new
  pub appends : (groups : List (List (List ℕ))) → IsIdleLog groups place old.file → AppendsBy did place groups group old new

-- A log is full if and only if the gate after the group would be past the last place.
abbrev pub HasRoomToAppend : LogAppended → LogEndPlace → List (List ℕ) → Type 0
HasRoomToAppend (Done next) place group = (next ≡ end_behind place group) × (next.at ≤ LAST_LOG_GATE)
HasRoomToAppend Failed place group = (end_behind place group).at ≤ LAST_LOG_GATE
HasRoomToAppend Full place group = LAST_LOG_GATE < (end_behind place group).at

-- The disk's count of faults rises if an append fails, and else stays.
abbrev pub CountsLogAppended : LogAppended → ℕ → ℕ → Type 0
CountsLogAppended (Done place) old new = new ≡ old
CountsLogAppended Failed old new = Counted old new
CountsLogAppended Full old new = new ≡ old
