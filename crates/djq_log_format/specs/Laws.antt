-- What the format makes sure: what a file opens to, a file that is cut, and a record with a changed byte.
use Rattle.std.specs.Prelude.{◌≡◌, ℕ, ◌<◌, ◌≤◌, List, ◌∷◌, ◌++◌, length, take}
use Rattle.djq_log_format.specs.Format.{RecordStored, IsGroup, LogOpensTo, IsClosedWhole, IsLogRecord, IsLogEnd, IsBadLog}
use Rattle.djq_log_format.specs.Format.{log_front, seed, digest_after, content_of}

-- A file opens to one list of groups. So two lists have different bytes.
abbrev pub LogOpensOnce : Type 0
LogOpensOnce = (groups others : List RecordStored) (file : List ℕ) → LogOpensTo groups file → LogOpensTo others file
    → groups ≡ others

-- At a gate's place there is one record at most, and if there is one the list doesn't end.
pub record RecordStandsOnce (digest : ℕ) (rest : List ℕ) : Type 0 where
  pub one : (lines others : List (List ℕ)) → IsLogRecord digest lines rest → IsLogRecord digest others rest → lines ≡ others
  pub no_end : (lines : List (List ℕ)) → IsLogRecord digest lines rest → IsLogEnd rest → ⊥

-- A file begins with a first part of these groups, whole, and is bad at the gate after them.
pub record EndsBadly (groups : List RecordStored) (file : List ℕ) : Type 0 where
  pub whole : List RecordStored
  pub later : List RecordStored
  pub cut : groups ≡ whole ++ later
  pub rest : List ℕ
  pub is : file ≡ log_front whole ++ rest
  pub bad : IsBadLog (digest_after seed whole) rest

-- Of a log that is closed whole each cut after the header leaves a first part of its groups, and is seen
-- at the gate after them.
abbrev pub CutIsSeen : Type 0
CutIsSeen = (groups : List RecordStored) (file : List ℕ) (n : ℕ) → IsClosedWhole groups file → 8 ≤ n → n < length file
    → EndsBadly groups (take n file)

-- If a byte of a record is changed, after its gate, the file is bad at that gate, whatever follows the
-- record.
abbrev pub ChangeIsSeen : Type 0
ChangeIsSeen = (digest gate : ℕ) (lines : List (List ℕ)) (before : List ℕ) (byte other : ℕ) (after behind : List ℕ)
    → digest < 18446744073709551616 → 1 ≤ gate → IsGroup lines → content_of digest lines ≡ before ++ byte ∷ after
    → other < 256 → (byte ≡ other → ⊥) → IsBadLog digest (gate ∷ (before ++ other ∷ after) ++ behind)

-- If its gate is changed, and stays open, the same record is there.
abbrev pub OpenGateIsFree : Type 0
OpenGateIsFree = (digest gate other : ℕ) (lines : List (List ℕ)) (rest : List ℕ) → 1 ≤ other
    → IsLogRecord digest lines (gate ∷ rest) → IsLogRecord digest lines (other ∷ rest)
