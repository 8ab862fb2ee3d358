-- Which log a file is.
use Rattle.std.specs.Prelude.{◌≡◌, ℕ, ◌≤◌, ◌⊎◌, List, [], ◌∷◌, ◌++◌, length}
use Rattle.djq_io.specs.Faults.{Counted}
use Rattle.djq_disk.specs.File.{settled}
use Rattle.djq_disk.specs.History.{History, moved_to}
use Rattle.djq_log_format.specs.Format.{log_header}
use Rattle.djq_log_file.specs.Standing.{HasRead}
use Rattle.djq_log_file.specs.declared.opening.LogOpened.{LogOpened}
use Rattle.djq_log_file.specs.declared.opening.LogOpened.TheVariants.{Unbegun, First, Second, Unknown, Failed}

-- the bytes of "DJQLOG1" and LF, with which a log of the first format begins
abbrev pub first_log_header : List ℕ
first_log_header = 68 ∷ 74 ∷ 81 ∷ 76 ∷ 79 ∷ 71 ∷ 49 ∷ 10 ∷ []

-- A file is an unbegun log: it has at most 8 bytes, with which a header begins.
pub record IsUnbegun (file : List ℕ) : Type 0 where
  pub few : length file ≤ 8
  pub behind : List ℕ
  pub is : (file ++ behind ≡ log_header) ⊎ (file ++ behind ≡ first_log_header)

-- A file begins with this header, and has bytes after it.
pub record BeginsWith (header_of : List ℕ) (file : List ℕ) : Type 0 where
  pub gate : ℕ
  pub behind : List ℕ
  pub is : file ≡ header_of ++ gate ∷ behind

-- Which log a file is. A reader of the second format has read nothing yet.
abbrev pub IsLogOf : LogOpened → List ℕ → Type 0
IsLogOf Unbegun file = IsUnbegun file
IsLogOf First file = BeginsWith first_log_header file
IsLogOf (Second place) file = BeginsWith log_header file × HasRead [] place file
IsLogOf Unknown file = (IsUnbegun file → ⊥) × (BeginsWith first_log_header file → ⊥) × (BeginsWith log_header file → ⊥)
IsLogOf Failed file = Unit {0}

-- the history after a sync that was done
abbrev pub synced_history : History → History
synced_history h = moved_to (settled h.file.bytes) h

-- A log is opened after a sync, so that what is read outlives a crash. If the disk failed nothing else changed.
abbrev pub OpensLogFile : LogOpened → History → History → Type 0
OpensLogFile Failed old new = (new ≡ old) ⊎ (new ≡ synced_history old)
OpensLogFile answer old new = (new ≡ synced_history old) × IsLogOf answer old.file.bytes

-- Which log the file is, and nothing changes.
abbrev pub Identifies : LogOpened → History → History → Type 0
Identifies answer old new = (new ≡ old) × IsLogOf answer old.file.bytes

-- A file is one of these alone: unbegun, and one with either header.
pub record OneLogAlone (file : List ℕ) : Type 0 where
  pub no_first : IsUnbegun file → BeginsWith first_log_header file → ⊥
  pub no_second : IsUnbegun file → BeginsWith log_header file → ⊥
  pub not_both : BeginsWith first_log_header file → BeginsWith log_header file → ⊥

-- The disk's count of faults rises if a log can't be opened, and else stays.
abbrev pub CountsLogOpened : LogOpened → ℕ → ℕ → Type 0
CountsLogOpened Unbegun old new = new ≡ old
CountsLogOpened First old new = new ≡ old
CountsLogOpened (Second place) old new = new ≡ old
CountsLogOpened Unknown old new = new ≡ old
CountsLogOpened Failed old new = Counted old new
