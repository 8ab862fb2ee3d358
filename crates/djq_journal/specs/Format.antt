-- The file of a journal: a header, and after it a gate. An open gate is followed by a length in two
-- bytes, a line of that many bytes, and the next gate; any other gate ends the list of lines.
use Rattle.std.specs.Prelude.{◌≡◌, ◌≢◌, ℕ, ◌+◌, ◌*◌, ◌/◌, ◌%◌, ◌<◌, ◌≤◌, ◌⊎◌, List, [], ◌∷◌, ◌++◌, length}
use Rattle.std.specs.List.{flat_map, AllByRecursion}
use Rattle.djq_journal.specs.declared.limits.TheConstants.{LINE_BYTES}

-- the 8 bytes that a journal begins with: `DJQLOG1` and the end of a line
abbrev pub header : List ℕ
header = 68 ∷ 74 ∷ 81 ∷ 76 ∷ 79 ∷ 71 ∷ 49 ∷ 10 ∷ []

-- what a journal stores as a line
abbrev pub IsJournalLine : List ℕ → Type 0
IsJournalLine line = (1 ≤ length line) × (length line ≤ LINE_BYTES)

-- a line after its length
abbrev pub body_of : List ℕ → List ℕ
body_of line = length line / 256 ∷ length line % 256 ∷ line

-- a line's record: its open gate, its length and itself
abbrev pub record_of : List ℕ → List ℕ
record_of line = 1 ∷ body_of line

-- the file up to the gate after these lines
abbrev pub front : List (List ℕ) → List ℕ
front lines = header ++ flat_map record_of lines

-- A file opens to these lines: it is the header, their records, a gate that isn't open, and
-- anything after that.
pub record FileOpensTo (lines : List (List ℕ)) (file : List ℕ) : Type 0 where
  pub are_lines : AllByRecursion IsJournalLine lines
  pub gate : ℕ
  pub behind : List ℕ
  pub is : file ≡ front lines ++ gate ∷ behind
  pub shut : gate ≢ 1

-- From a gate's place on the list of lines ends: there is a gate that isn't open.
abbrev pub IsEnd : List ℕ → Type 0
IsEnd [] = ⊥
IsEnd (gate ∷ behind) = gate ≢ 1

-- There is a record.
pub record IsRecord (line : List ℕ) (rest : List ℕ) : Type 0 where
  pub is_line : IsJournalLine line
  pub behind : List ℕ
  pub is : rest ≡ record_of line ++ behind

-- The file is bad there: there is no gate; or an open one, and after it no length from 1 to
-- 4096, or the file ends in the record.
abbrev pub IsBad : List ℕ → Type 0
IsBad [] = Unit {0}
IsBad (gate ∷ []) = gate ≡ 1
IsBad (gate ∷ high ∷ []) = gate ≡ 1
IsBad (gate ∷ high ∷ low ∷ rest) =
    (gate ≡ 1) × ((high * 256 + low < 1) ⊎ (LINE_BYTES < high * 256 + low) ⊎ (length rest < high * 256 + low))

-- A file opens to one list of lines.
abbrev pub FileOpensOnce : Type 0
FileOpensOnce = (lines others : List (List ℕ)) (file : List ℕ) → FileOpensTo lines file → FileOpensTo others file
    → lines ≡ others

-- A place is one of these alone.
pub record OneOfThree (rest : List ℕ) : Type 0 where
  pub no_end : IsBad rest → IsEnd rest → ⊥
  pub no_record : (line : List ℕ) → IsBad rest → IsRecord line rest → ⊥
  pub no_line : (line : List ℕ) → IsEnd rest → IsRecord line rest → ⊥
