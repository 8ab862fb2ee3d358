-- What the calls of a journal that read it answer, and what they make of the disk.
use Rattle.std.specs.Prelude.{◌≡◌, ◌≢◌, ◌↔◌, ℕ, ◌≤◌, List, [], ◌∷◌, ◌++◌, take, drop}
use Rattle.djq_io.specs.Faults.{Counted}
use Rattle.djq_disk.specs.File.{File}
use Rattle.djq_journal.specs.Format.{IsEnd, IsBad}
use Rattle.djq_journal.specs.Standing.{IsAtGate, IsIdle}
use Rattle.djq_journal.specs.declared.line.Line.{Line}
use Rattle.djq_journal.specs.declared.line.Line.TheVariants.{Got, End, BadLog as BadLine, Failed as Unread}
use Rattle.djq_journal.specs.declared.limits.TheConstants.{LINE_BYTES}

-- What is at the place of a journal after these lines: the next line, after which it is then; or
-- the gate that ends them, at which it stays; or a bad place.
abbrev pub JournalReads : Line → List (List ℕ) → ℕ → ℕ → List ℕ → File → Type 0
JournalReads (Got n) lines gate gate' buf file = IsAtGate (lines ++ take n buf ∷ []) gate' file
JournalReads End lines gate gate' buf file = IsIdle lines gate file × (gate' ≡ gate)
JournalReads (BadLine at) lines gate gate' buf file = (at ≡ gate) × IsBad (drop gate file.bytes) × (gate' ≡ gate)
JournalReads Unread lines gate gate' buf file = gate' ≡ gate

-- a line that was read has 1 to 4096 bytes, shown or not
abbrev pub LineFits : Line → Type 0
LineFits (Got n) = (1 ≤ n) × (n ≤ LINE_BYTES)
LineFits End = Unit {0}
LineFits (BadLine at) = Unit {0}
LineFits Unread = Unit {0}

-- Whenever a line is asked for and nothing fails, the answer is the end if and only if there is a
-- gate that isn't open, and that the file is bad if and only if it is.
abbrev pub ReadsExactly : Type 0
ReadsExactly = (answer : Line) (lines : List (List ℕ)) (gate gate' : ℕ) (buf : List ℕ) (file : File)
    → IsAtGate lines gate file → JournalReads answer lines gate gate' buf file → answer ≢ Unread
    → ((answer ≡ End) ↔ IsEnd (drop gate file.bytes)) × ((answer ≡ BadLine gate) ↔ IsBad (drop gate file.bytes))

-- The disk's count of faults rises if a line can't be read, and else stays.
abbrev pub CountsLine : Line → ℕ → ℕ → Type 0
CountsLine (Got n) old new = new ≡ old
CountsLine End old new = new ≡ old
CountsLine (BadLine at) old new = new ≡ old
CountsLine Unread old new = Counted old new
