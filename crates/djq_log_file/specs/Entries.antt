-- What a reader finds from a place of a file on: an entry, a body, the head of a record, and a record.
use Rattle.std.specs.Prelude.{◌≡◌, ℕ, ◌+◌, ◌*◌, ◌<◌, ◌≤◌, List, ◌∷◌, ◌++◌, length, take, drop}
use Rattle.std.specs.List.{AllByRecursion}
use Rattle.std.specs.Int.{to_be_bytes, w64}
use Rattle.djq_io.specs.Faults.{Counted}
use Rattle.djq_log_format.specs.Format.{IsLogLine, line_entry, record_body, digest_behind, IsLogRecord, IsLogEnd, IsBadLog}
use Rattle.djq_log_file.specs.Damaged.{HasDamage, HasNoLines}
use Rattle.djq_log_file.specs.declared.entry.Entry.{Entry}
use Rattle.djq_log_file.specs.declared.entry.Entry.TheVariants.{Line, NoLine, Short, Failed}
use Rattle.djq_log_file.specs.declared.body.Body.{Body}
use Rattle.djq_log_file.specs.declared.body.Body.TheVariants.{Lines, NoLines, Short as ShortBody, Failed as UnreadBody}
use Rattle.djq_log_file.specs.declared.head.Head.{Head}
use Rattle.djq_log_file.specs.declared.head.Head.TheVariants.{Closed, Record, Damaged, Failed as UnreadHead}
use Rattle.djq_log_file.specs.declared.record.Found.{Found}
use Rattle.djq_log_file.specs.declared.record.Found.TheVariants.{End, Group, Bad, Failed as Unfound}

-- The entry of a line is here, within so many bytes; or no line's is; or the file ends before them.
abbrev pub IsEntry : Entry → ℕ → List ℕ → List ℕ → Type 0
IsEntry (Line n) left buf rest = rest ≡ line_entry (take n buf) ++ drop (2 + n) rest
IsEntry NoLine left buf rest = (line behind : List ℕ) → IsLogLine line → 2 + length line ≤ left
    → rest ≡ line_entry line ++ behind → ⊥
IsEntry Short left buf rest = length rest < left
IsEntry Failed left buf rest = Unit {0}

-- A line that was read is one, and its entry ends within so many bytes, whether the disk records a history or not.
abbrev pub EntryFits : Entry → ℕ → ℕ → List ℕ → Type 0
EntryFits (Line n) at left buf = IsLogLine (take n buf) × (length (take n buf) ≡ n) × (2 + n ≤ left)
    × (at + (2 + n) ≤ 18446744073709551615)
EntryFits NoLine at left buf = Unit {0}
EntryFits Short at left buf = Unit {0}
EntryFits Failed at left buf = Unit {0}

-- A body of this size is here, of lines after which this is the digest; or no lines have one; or the file ends
-- in it.
abbrev pub IsBody : Body → ℕ → ℕ → List ℕ → Type 0
IsBody (Lines after) digest size rest = (lines : List (List ℕ)) × AllByRecursion IsLogLine lines
    × (length (record_body lines) ≡ size) × (after ≡ digest_behind digest lines)
    × (rest ≡ record_body lines ++ drop size rest)
IsBody NoLines digest size rest = HasNoLines size rest
IsBody ShortBody digest size rest = length rest < size
IsBody UnreadBody digest size rest = Unit {0}

-- A closed gate is here; or an open one, and the head of a record; or neither.
abbrev pub IsRecordHead : Head → List ℕ → Type 0
IsRecordHead Closed rest = IsLogEnd rest
IsRecordHead (Record size digest) rest = (gate : ℕ) × (1 ≤ gate)
    × (rest ≡ gate ∷ to_be_bytes w64 (size * 257) ++ to_be_bytes w64 digest ++ drop 17 rest)
IsRecordHead (Damaged reason) rest = (IsLogEnd rest → ⊥) × ((digest : ℕ) → HasDamage reason digest rest)
IsRecordHead UnreadHead rest = Unit {0}

-- the length and the digest that a head stores have eight bytes, no body is empty, and the head ends at a place that a
-- number names
abbrev pub RecordHeadFits : Head → ℕ → Type 0
RecordHeadFits Closed at = Unit {0}
RecordHeadFits (Record size digest) at = (1 ≤ size) × (size * 257 < 18446744073709551616)
    × (digest < 18446744073709551616) × (at + 17 ≤ 18446744073709551615)
RecordHeadFits (Damaged reason) at = Unit {0}
RecordHeadFits UnreadHead at = Unit {0}

-- What is at a gate after this digest: the end of the list; or the record of a group, with the length of its body and
-- the digest after it; or neither, for this reason.
abbrev pub StandsAtGate : Found → ℕ → List ℕ → Type 0
StandsAtGate End digest rest = IsLogEnd rest
StandsAtGate (Group size after) digest rest = (lines : List (List ℕ)) × IsLogRecord digest lines rest
    × (size ≡ length (record_body lines)) × (after ≡ digest_behind digest lines)
StandsAtGate (Bad reason) digest rest = IsBadLog digest rest × HasDamage reason digest rest
StandsAtGate Unfound digest rest = Unit {0}

-- the body of a group that was found isn't empty, and begins at a place that a number names
abbrev pub GateFits : Found → ℕ → Type 0
GateFits End at = Unit {0}
GateFits (Group size after) at = (1 ≤ size) × (at + 17 ≤ 18446744073709551615)
GateFits (Bad reason) at = Unit {0}
GateFits Unfound at = Unit {0}

-- The disk's count of faults rises if an entry can't be read, and else stays;
abbrev pub CountsEntry : Entry → ℕ → ℕ → Type 0
CountsEntry (Line n) old new = new ≡ old
CountsEntry NoLine old new = new ≡ old
CountsEntry Short old new = new ≡ old
CountsEntry Failed old new = Counted old new

-- so it is for a body,
abbrev pub CountsBody : Body → ℕ → ℕ → Type 0
CountsBody (Lines after) old new = new ≡ old
CountsBody NoLines old new = new ≡ old
CountsBody ShortBody old new = new ≡ old
CountsBody UnreadBody old new = Counted old new

-- a head,
abbrev pub CountsRecordHead : Head → ℕ → ℕ → Type 0
CountsRecordHead Closed old new = new ≡ old
CountsRecordHead (Record size digest) old new = new ≡ old
CountsRecordHead (Damaged reason) old new = new ≡ old
CountsRecordHead UnreadHead old new = Counted old new

-- and a record.
abbrev pub CountsFound : Found → ℕ → ℕ → Type 0
CountsFound End old new = new ≡ old
CountsFound (Group size after) old new = new ≡ old
CountsFound (Bad reason) old new = new ≡ old
CountsFound Unfound old new = Counted old new
