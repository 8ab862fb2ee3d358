-- The place of a reader in a log and what it has read, and the place at which a log ends.
use Rattle.std.specs.Prelude.{◌≡◌, ℕ, ◌<◌, ◌≤◌, List, [], ◌∷◌, ◌++◌, length, take, map}
use Rattle.std.specs.List.{flat_map, AllByRecursion}
use Rattle.djq_io.specs.Faults.{Counted}
use Rattle.djq_log_format.specs.Format.{RecordStored, IsRecordStored, IsLogLine, LogOpensTo, IsLogRecord, IsBadLog, log_front}
use Rattle.djq_log_format.specs.Format.{record_body}
use Rattle.djq_log_format.specs.Format.{seed, digest_after}
use Rattle.djq_log_file.specs.Damaged.{HasDamage}
use Rattle.djq_log_file.specs.Places.{ReadingPlace, LogEndPlace}
use Rattle.djq_log_file.specs.declared.damage.Damage.{Damage}
use Rattle.djq_log_file.specs.declared.record.Found.{Found}
use Rattle.djq_log_file.specs.declared.record.Found.TheVariants.{End as Ends, Group, Bad, Failed as Unfound}
use Rattle.djq_log_file.specs.declared.reader.LogLine.{LogLine}
use Rattle.djq_log_file.specs.declared.reader.LogLine.TheVariants.{Got, End, Damaged, Failed}

-- the lines of records, one after another
abbrev pub stored_lines : List RecordStored → List (List ℕ)
stored_lines stored = flat_map (λ record_of. record_of.lines) stored

-- the groups of lines that records store
abbrev pub stored_groups : List RecordStored → List (List (List ℕ))
stored_groups stored = map (λ record_of. record_of.lines) stored

-- A file has these groups of lines: it opens to their records.
pub record HoldsGroups (groups : List (List (List ℕ))) (file : List ℕ) : Type 0 where
  pub stored : List RecordStored
  pub opens : LogOpensTo stored file
  pub are : groups ≡ stored_groups stored

-- A log of these groups ends here, at the closed gate after their records.
pub record IsLogEndAt (groups : List (List (List ℕ))) (place : LogEndPlace) (file : List ℕ) : Type 0 where
  pub stored : List RecordStored
  pub opens : LogOpensTo stored file
  pub are : groups ≡ stored_groups stored
  pub is_at : place.at ≡ length (log_front stored)
  pub is_digest : place.digest ≡ digest_after seed stored

-- These lines are those of all records before the last one, whose gate is at a place, and the first of that one.
pub record IsWithinRecord (stored : List RecordStored) (lines to_come : List (List ℕ)) (gate : ℕ) : Type 0 where
  pub earlier : List RecordStored
  pub current : RecordStored
  pub part : List (List ℕ)
  pub are_records : stored ≡ earlier ++ current ∷ []
  pub are_lines : current.lines ≡ part ++ to_come
  pub are_read : lines ≡ stored_lines earlier ++ part
  pub is_gate : gate ≡ length (log_front earlier)

-- A reader has read these lines of a log: those of whole records, but for the last lines of the last record, which
-- are still to be read.
pub record HasRead (lines : List (List ℕ)) (place : ReadingPlace) (file : List ℕ) : Type 0 where
  pub stored : List RecordStored
  pub are_stored : AllByRecursion IsRecordStored stored
  pub rest : List ℕ
  pub is : file ≡ log_front stored ++ rest
  pub before : List ℕ
  pub to_come : List (List ℕ)
  pub front : log_front stored ≡ before ++ record_body to_come
  pub are : stored_lines stored ≡ lines ++ to_come
  pub is_at : place.at ≡ length before
  pub is_left : place.left ≡ length (record_body to_come)
  pub is_digest : place.digest ≡ digest_after seed stored
  pub within : 1 ≤ place.left → IsWithinRecord stored lines to_come place.gate

-- The last of these lines is in the record whose gate is at a place, and those before it are those of the records
-- before, and the first of this one.
pub record IsLastInRecord (lines : List (List ℕ)) (at : ℕ) (file : List ℕ) : Type 0 where
  pub stored : List RecordStored
  pub are_stored : AllByRecursion IsRecordStored stored
  pub rest : List ℕ
  pub is : file ≡ log_front stored ++ rest
  pub is_at : at ≡ length (log_front stored)
  pub group : List (List ℕ)
  pub stands : IsLogRecord (digest_after seed stored) group rest
  pub part : List (List ℕ)
  pub line : List ℕ
  pub later : List (List ℕ)
  pub cut : group ≡ part ++ line ∷ later
  pub are : lines ≡ stored_lines stored ++ (part ++ line ∷ [])

-- The log ends here, and these lines are all of its groups.
pub record EndsRead (lines : List (List ℕ)) (place : LogEndPlace) (file : List ℕ) : Type 0 where
  pub groups : List (List (List ℕ))
  pub ends : IsLogEndAt groups place file
  pub are : lines ≡ flat_map (λ group. group) groups

-- These lines are those of whole records, and at the gate after them the log is bad for this reason.
pub record IsDamagedAt (lines : List (List ℕ)) (at : ℕ) (reason : Damage) (file : List ℕ) : Type 0 where
  pub stored : List RecordStored
  pub are_stored : AllByRecursion IsRecordStored stored
  pub are : lines ≡ stored_lines stored
  pub rest : List ℕ
  pub is : file ≡ log_front stored ++ rest
  pub is_at : at ≡ length (log_front stored)
  pub bad : IsBadLog (digest_after seed stored) rest
  pub damage : HasDamage reason (digest_after seed stored) rest

-- What follows these lines: the next one, which is read then, and the reader knows the gate of its record; or the end
-- of the log; or a gate at which it is bad.
abbrev pub ReadsLine : LogLine → List (List ℕ) → ReadingPlace → List ℕ → List ℕ → Type 0
ReadsLine (Got n) lines place buf file = HasRead (lines ++ take n buf ∷ []) place file
    × IsLastInRecord (lines ++ take n buf ∷ []) place.gate file
ReadsLine (End end) lines place buf file = HasRead lines place file × EndsRead lines end file
ReadsLine (Damaged at reason) lines place buf file = HasRead lines place file × IsDamagedAt lines at reason file
ReadsLine Failed lines place buf file = HasRead lines place file

-- So it is if a reader is before the next line of a record that is whole.
abbrev pub EntersRecord : Found → List (List ℕ) → ReadingPlace → List ℕ → Type 0
EntersRecord (Group size after) lines place file = HasRead lines place file
EntersRecord Ends lines place file =
    HasRead lines place file × EndsRead lines (record { at = place.at; digest = place.digest }) file
EntersRecord (Bad reason) lines place file = HasRead lines place file × IsDamagedAt lines place.at reason file
EntersRecord Unfound lines place file = HasRead lines place file

-- if a line follows, bytes of a body are left
abbrev pub EntersFits : Found → ReadingPlace → Type 0
EntersFits (Group size after) place = 1 ≤ place.left
EntersFits Ends place = Unit {0}
EntersFits (Bad reason) place = Unit {0}
EntersFits Unfound place = Unit {0}

-- What was read is a line in the buffer, whether the disk records a history or not.
abbrev pub LogLineFits : LogLine → List ℕ → Type 0
LogLineFits (Got n) buf = IsLogLine (take n buf) × (n ≤ length buf)
LogLineFits (End end) buf = Unit {0}
LogLineFits (Damaged at reason) buf = Unit {0}
LogLineFits Failed buf = Unit {0}

-- A line that was read ends after the place of the reader, at a place that a number names.
abbrev pub ReadsOnward : LogLine → ℕ → ℕ → Type 0
ReadsOnward (Got n) old new = (old < new) × (new ≤ 18446744073709551615)
ReadsOnward (End end) old new = Unit {0}
ReadsOnward (Damaged at reason) old new = Unit {0}
ReadsOnward Failed old new = Unit {0}

-- The disk's count of faults rises if a line can't be read, and else stays.
abbrev pub CountsLogLine : LogLine → ℕ → ℕ → Type 0
CountsLogLine (Got n) old new = new ≡ old
CountsLogLine (End end) old new = new ≡ old
CountsLogLine (Damaged at reason) old new = new ≡ old
CountsLogLine Failed old new = Counted old new
