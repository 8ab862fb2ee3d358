-- A log that is made record by record, in a file whose bytes don't count until it is finished.
use Rattle.std.specs.Prelude.{◌≡◌, ℕ, ◌+◌, ◌<◌, ◌≤◌, ◌⊎◌, List, [], ◌∷◌, ◌++◌, length, drop}
use Rattle.std.specs.List.{AllByRecursion}
use Rattle.djq_io.specs.Faults.{Counted}
use Rattle.djq_disk.specs.File.{File, settled}
use Rattle.djq_disk.specs.History.{History, with_next}
use Rattle.djq_disk.specs.declared.disk.DiskDid.{DiskDid}
use Rattle.djq_disk.specs.declared.disk.DiskDid.TheVariants.{Done as Did, Failed as Failing}
use Rattle.djq_log_format.specs.Format.{RecordStored, IsRecordStored, IsClosedWhole, log_header, log_front}
use Rattle.djq_log_format.specs.Format.{record_body, seed, digest_after}
use Rattle.djq_log_file.specs.Places.{LogEndPlace}
use Rattle.djq_log_file.specs.Standing.{stored_groups}
use Rattle.djq_log_file.specs.Laying.{HasGoneOn}
use Rattle.djq_log_file.specs.Appending.{IsIdleLog, end_behind}
use Rattle.djq_log_file.specs.declared.maker.LogBegun.{LogBegun}
use Rattle.djq_log_file.specs.declared.maker.LogBegun.TheVariants.{Begun, Failed as Unbegun}
use Rattle.djq_log_file.specs.declared.maker.GroupPut.{GroupPut}
use Rattle.djq_log_file.specs.declared.maker.GroupPut.TheVariants.{Put, Failed as Unput, Full}
use Rattle.djq_log_file.specs.declared.maker.LogMade.{LogMade}
use Rattle.djq_log_file.specs.declared.maker.LogMade.TheVariants.{Made, Failed as Unmade}
use Rattle.djq_log_file.specs.declared.limits.TheConstants.{LAST_LOG_GATE}

-- A file begins as a log of these groups does, up to the place of the gate after them. That gate isn't there yet: the rest
-- is what the file had.
pub record IsMadeUpTo (groups : List (List (List ℕ))) (place : LogEndPlace) (rest file : List ℕ) : Type 0 where
  pub stored : List RecordStored
  pub are_stored : AllByRecursion IsRecordStored stored
  pub are : groups ≡ stored_groups stored
  pub is : file ≡ log_front stored ++ rest
  pub is_at : place.at ≡ length (log_front stored)
  pub is_digest : place.digest ≡ digest_after seed stored

-- the place of the first record of a log
abbrev pub first_record_place : LogEndPlace
first_record_place = record { at = 8; digest = seed }

-- A log without groups is begun, whatever the file has.
abbrev pub BeginsLog : LogBegun → History → History → Type 0
BeginsLog (Begun place) old new =
    HasGoneOn old new × (place ≡ first_record_place) × IsMadeUpTo [] place (drop 8 old.file.bytes) new.file.bytes
BeginsLog Unbegun old new = HasGoneOn old new

-- These bytes are written after some others and over the first of the rest.
abbrev pub StandsBehind : DiskDid → List ℕ → List ℕ → List ℕ → List ℕ → Type 0
StandsBehind Did before bytes rest file = file ≡ (before ++ bytes) ++ drop (length bytes) rest
StandsBehind Failing before bytes rest file = Unit {0}

pub record WritesBehind (did : DiskDid) (start : ℕ) (bytes : List ℕ) (old new : History) : Type 0 where
  pub passed : HasGoneOn old new
  pub stands : (before rest : List ℕ) → old.file.bytes ≡ before ++ rest → start ≡ length before
      → StandsBehind did before bytes rest new.file.bytes

-- A group more is in a log that is being made. If there is no room for it, nothing changes.
abbrev pub PutsGroup : GroupPut → List (List (List ℕ)) → List (List ℕ) → List ℕ → History → History → Type 0
PutsGroup (Put place) groups group rest old new =
    IsMadeUpTo (groups ++ group ∷ []) place (drop (17 + length (record_body group)) rest) new.file.bytes
PutsGroup Unput groups group rest old new = Unit {0}
PutsGroup Full groups group rest old new = new ≡ old

-- So it is whatever groups were put before.
pub record PutsAfter (answer : GroupPut) (place : LogEndPlace) (group : List (List ℕ)) (old new : History) : Type 0
  where
    pub passed : HasGoneOn old new
    pub puts : (groups : List (List (List ℕ))) (rest : List ℕ) → IsMadeUpTo groups place rest old.file.bytes
        → PutsGroup answer groups group rest old new

-- There is no room if and only if the gate after the group would be past the last place.
abbrev pub HasRoomToPut : GroupPut → LogEndPlace → List (List ℕ) → Type 0
HasRoomToPut (Put next) place group = (next ≡ end_behind place group) × (next.at ≤ LAST_LOG_GATE)
HasRoomToPut Unput place group = (end_behind place group).at ≤ LAST_LOG_GATE
HasRoomToPut Full place group = LAST_LOG_GATE < (end_behind place group).at

-- A log of these groups is closed whole.
pub record IsWholeLogOf (groups : List (List (List ℕ))) (file : List ℕ) : Type 0 where
  pub stored : List RecordStored
  pub closed : IsClosedWhole stored file
  pub are : groups ≡ stored_groups stored

-- A log that was made is one of all the groups that were put, and ends after them; a crash leaves just these from then on.
-- It is closed whole if no bytes were left after its end.
abbrev pub MakesLog : LogMade → List (List (List ℕ)) → LogEndPlace → List ℕ → History → Type 0
MakesLog (Made end) groups place left new = (end ≡ place) × IsIdleLog groups end new.file
    × (left ≡ [] → IsWholeLogOf groups new.file.bytes)
MakesLog Unmade groups place left new = Unit {0}

pub record MakesAfter (answer : LogMade) (place : LogEndPlace) (old new : History) : Type 0 where
  pub passed : HasGoneOn old new
  pub makes : (groups : List (List (List ℕ))) (rest : List ℕ) → IsMadeUpTo groups place rest old.file.bytes
      → MakesLog answer groups place (drop 1 rest) new

-- A log without groups is the whole file, and all of it is synced.
pub record IsNewLog (file : File) : Type 0 where
  pub idle : IsIdleLog [] first_record_place file
  pub whole : IsWholeLogOf [] file.bytes

-- the next file is written, whether the file is replaced by it or not
abbrev pub WritesNewLog : DiskDid → History → History → Type 0
WritesNewLog Did old new = new ≡ with_next (settled (log_header ++ 0 ∷ [])) old
WritesNewLog Failing old new = (next : File) × (new ≡ with_next next old)

-- A log without groups is created beside the file, and replaces it in one step. So at each moment a crash leaves the
-- file as it was, or that log.
pub record CreatesLog (answer : LogMade) (old new : History) : Type 0 where
  pub passed : HasGoneOn old new
  pub each : AllByRecursion (λ (file : File). file ≡ old.file) passed.moments
  pub leaves : (new.file ≡ old.file) ⊎ IsNewLog new.file
  pub makes : MakesLog answer [] first_record_place [] new

-- The disk's count of faults rises if a log isn't begun, and else stays;
abbrev pub CountsLogBegun : LogBegun → ℕ → ℕ → Type 0
CountsLogBegun (Begun place) old new = new ≡ old
CountsLogBegun Unbegun old new = Counted old new

-- so it is for a group that is put,
abbrev pub CountsGroupPut : GroupPut → ℕ → ℕ → Type 0
CountsGroupPut (Put place) old new = new ≡ old
CountsGroupPut Unput old new = Counted old new
CountsGroupPut Full old new = new ≡ old

-- and for a log that is made.
abbrev pub CountsLogMade : LogMade → ℕ → ℕ → Type 0
CountsLogMade (Made end) old new = new ≡ old
CountsLogMade Unmade old new = Counted old new
