-- The second format of the log: which bytes a log of groups has, and what a file opens to.
use Rattle.std.specs.Prelude.{◌≡◌, ℕ, ◌*◌, ◌/◌, ◌%◌, ◌<◌, ◌≤◌, List, [], ◌∷◌, ◌++◌, length}
use Rattle.std.specs.List.{flat_map, AllByRecursion}
use Rattle.std.specs.Int.{to_be_bytes, w64}
use Rattle.djq_log_format.specs.Digest.{chained}

-- the bytes of "DJQLOG2" and LF
abbrev pub log_header : List ℕ
log_header = 68 ∷ 74 ∷ 81 ∷ 76 ∷ 79 ∷ 71 ∷ 50 ∷ 10 ∷ []

-- the digest before the first group
abbrev pub seed : ℕ
seed = 1442695040888963407

-- A line of a log has 1 to 65,535 bytes, so its length has two.
pub record IsLogLine (line : List ℕ) : Type 0 where
  pub some : 1 ≤ length line
  pub short : length line ≤ 65535
  pub are_bytes : AllByRecursion (λ byte. byte < 256) line

-- a line after its length
abbrev pub line_entry : List ℕ → List ℕ
line_entry line = length line / 256 ∷ length line % 256 ∷ line

-- the body of a record: the lines of its group
abbrev pub record_body : List (List ℕ) → List ℕ
record_body lines = flat_map line_entry lines

-- A group of lines has at least one, and the length of its body fits a record's length.
pub record IsGroup (lines : List (List ℕ)) : Type 0 where
  pub some : 1 ≤ length lines
  pub are_lines : AllByRecursion IsLogLine lines
  pub short : length (record_body lines) * 257 < 18446744073709551616

-- the head of a record of this body: 257 times its length, and the digest carried on over it
abbrev pub record_head : ℕ → List ℕ → List ℕ
record_head digest body = to_be_bytes w64 (length body * 257) ++ to_be_bytes w64 (chained digest body)

-- what follows a record's gate, if this is the digest of what precedes it
abbrev pub content_of : ℕ → List (List ℕ) → List ℕ
content_of digest lines = record_head digest (record_body lines) ++ record_body lines

-- A group as it is stored: after a gate that is open, which any byte but 0 is.
pub record RecordStored : Type 0 where
  pub gate : ℕ
  pub lines : List (List ℕ)

pub record IsRecordStored (stored : RecordStored) : Type 0 where
  pub gate_open : 1 ≤ stored.gate
  pub is_group : IsGroup stored.lines

-- the digest after a group, if this is the one before it
abbrev pub digest_behind : ℕ → List (List ℕ) → ℕ
digest_behind digest lines = chained digest (record_body lines)

-- the records of groups, if this is the digest before them
unfoldable pub records : ℕ → List RecordStored → List ℕ
records digest [] = []
records digest (stored ∷ later) =
    stored.gate ∷ content_of digest stored.lines ++ records (digest_behind digest stored.lines) later

-- the digest after groups
unfoldable pub digest_after : ℕ → List RecordStored → ℕ
digest_after digest [] = digest
digest_after digest (stored ∷ later) = digest_after (digest_behind digest stored.lines) later

-- a log up to the gate after these groups
abbrev pub log_front : List RecordStored → List ℕ
log_front groups = log_header ++ records seed groups

-- A file opens to these groups: it is the header, their records, a closed gate, and anything after that.
pub record LogOpensTo (groups : List RecordStored) (file : List ℕ) : Type 0 where
  pub are_stored : AllByRecursion IsRecordStored groups
  pub behind : List ℕ
  pub is : file ≡ log_front groups ++ 0 ∷ behind

-- A log is closed whole: its last byte is its closed gate.
pub record IsClosedWhole (groups : List RecordStored) (file : List ℕ) : Type 0 where
  pub are_stored : AllByRecursion IsRecordStored groups
  pub is : file ≡ log_front groups ++ 0 ∷ []

-- A record of these lines follows an open gate.
pub record IsLogRecord (digest : ℕ) (lines : List (List ℕ)) (rest : List ℕ) : Type 0 where
  pub is_group : IsGroup lines
  pub gate : ℕ
  pub gate_open : 1 ≤ gate
  pub behind : List ℕ
  pub is : rest ≡ gate ∷ content_of digest lines ++ behind

-- The list of groups ends at a closed gate.
pub record IsLogEnd (rest : List ℕ) : Type 0 where
  pub behind : List ℕ
  pub is : rest ≡ 0 ∷ behind

-- A file is bad at a gate's place: the list doesn't end there, and there is no record.
pub record IsBadLog (digest : ℕ) (rest : List ℕ) : Type 0 where
  pub no_end : IsLogEnd rest → ⊥
  pub no_record : (lines : List (List ℕ)) → IsLogRecord digest lines rest → ⊥
