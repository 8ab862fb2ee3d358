-- Which log a file is, and what is read of its lines.
use Rattle.std.specs.Prelude.{◌≡◌, ℕ, ◌<◌, ◌≤◌, ◌⊎◌, List, [], ◌∷◌, ◌++◌, take, drop, length}
use Rattle.djq_io.specs.Faults.{Counted}
use Rattle.djq_disk.specs.File.{File, IsSettled}
use Rattle.djq_disk.specs.History.{History}
use Rattle.djq_journal.specs.Format.{IsBad}
use Rattle.djq_journal.specs.Standing.{IsAtGate}
use Rattle.djq_log_format.specs.Format.{log_header}
use Rattle.djq_log_file.specs.Opening.{IsUnbegun, BeginsWith, first_log_header, synced_history}
use Rattle.djq_log_file.specs.Standing.{HasRead, IsDamagedAt, IsLastInRecord}
use Rattle.djq_log_file.specs.Window.{WindowHolds}
use Rattle.djq_log_file.specs.declared.damage.Damage.{Damage}
use Rattle.djq_log.specs.Lines.{IsIdleAt}
use Rattle.djq_log.specs.declared.source.LogSource.{LogSource}
use Rattle.djq_log.specs.declared.source.LogSource.TheVariants.{First, Second}
use Rattle.djq_log.specs.declared.source.NextLine.{NextLine}
use Rattle.djq_log.specs.declared.source.NextLine.TheVariants.{Got, End, Bad, Failed}
use Rattle.djq_log.specs.declared.opening.LogFound.{LogFound}
use Rattle.djq_log.specs.declared.opening.LogFound.TheVariants.{Made, Ready, Unknown, Failed as Unopened}

-- These lines of a log were read, in a file in which all is synced.
abbrev pub HasReadLines : List (List ℕ) → LogSource → File → Type 0
HasReadLines lines (First gate) file = IsAtGate lines gate file
HasReadLines lines (Second place part) file =
    HasRead lines place file.bytes × WindowHolds part file.bytes × IsSettled file

-- After these lines a log is bad at a place: there is no gate, or an open one and no record after it.
abbrev pub IsBadAt : List (List ℕ) → ℕ → File → Type 0
IsBadAt lines at file = (IsAtGate lines at file × IsBad (drop at file.bytes))
    ⊎ ((reason : Damage) × IsDamagedAt lines at reason file.bytes)

-- After these lines there is one more, in the record whose gate is at a place.
abbrev pub IsNextAt : List (List ℕ) → List ℕ → ℕ → File → Type 0
IsNextAt lines line at file = (IsAtGate lines at file × ((next : ℕ) × IsAtGate (lines ++ line ∷ []) next file))
    ⊎ IsLastInRecord (lines ++ line ∷ []) at file.bytes

-- What follows these lines: the next one, which is read then; or the end of the log; or a place at which it is bad.
abbrev pub ReadsNext : NextLine → List (List ℕ) → List ℕ → File → Type 0
ReadsNext (Got source n at) lines buf file = HasReadLines (lines ++ take n buf ∷ []) source file
    × IsNextAt lines (take n buf) at file
ReadsNext (End end) lines buf file = IsIdleAt lines end file
ReadsNext (Bad at) lines buf file = IsBadAt lines at file
ReadsNext Failed lines buf file = Unit {0}

-- A line that was read is in the buffer, whether the disk records a history or not.
abbrev pub NextLineFits : NextLine → List ℕ → Type 0
NextLineFits (Got source n at) buf = (1 ≤ n) × (n ≤ length buf)
NextLineFits (End end) buf = Unit {0}
NextLineFits (Bad at) buf = Unit {0}
NextLineFits Failed buf = Unit {0}

-- the place of the next gate or line of a source
abbrev pub source_place : LogSource → ℕ
source_place (First gate) = gate
source_place (Second place part) = place.at

-- A line that was read ends after the place of the source, at a place that a number names.
abbrev pub SourceGoesOn : NextLine → LogSource → Type 0
SourceGoesOn (Got next n at) source =
    (source_place source < source_place next) × (source_place next ≤ 18446744073709551615)
SourceGoesOn (End end) source = Unit {0}
SourceGoesOn (Bad at) source = Unit {0}
SourceGoesOn Failed source = Unit {0}

-- The disk's count of faults rises if a line can't be read, and else stays.
abbrev pub CountsNextLine : NextLine → ℕ → ℕ → Type 0
CountsNextLine (Got source n at) old new = new ≡ old
CountsNextLine (End end) old new = new ≡ old
CountsNextLine (Bad at) old new = new ≡ old
CountsNextLine Failed old new = Counted old new

-- A file is no log, of either format, and none was begun in it.
pub record IsNoLog (file : List ℕ) : Type 0 where
  pub begun : IsUnbegun file → ⊥
  pub no_first : BeginsWith first_log_header file → ⊥
  pub no_second : BeginsWith log_header file → ⊥

-- A log was to be made, in a file in which none was begun.
pub record MakesFirst (old new : History) : Type 0 where
  pub unbegun : IsUnbegun old.file.bytes
  pub paths : new.paths ≡ old.paths

-- A log is opened after a sync, so that what is read outlives a crash: it is made if none was begun, and has no
-- lines then; or it is ready before its first line, and nothing but the sync was done; or the file is none.
abbrev pub OpensLogLines : LogFound → History → History → Type 0
OpensLogLines (Made end) old new = MakesFirst old new × IsIdleAt [] end new.file
OpensLogLines (Ready source) old new = (new ≡ synced_history old) × (IsUnbegun old.file.bytes → ⊥)
    × HasReadLines [] source new.file
OpensLogLines Unknown old new = (new ≡ synced_history old) × IsNoLog old.file.bytes
OpensLogLines Unopened old new = (new ≡ old) ⊎ ((new ≡ synced_history old) ⊎ MakesFirst old new)

-- The disk's count of faults rises if a log can't be opened, and else stays.
abbrev pub CountsLogFound : LogFound → ℕ → ℕ → Type 0
CountsLogFound (Made end) old new = new ≡ old
CountsLogFound (Ready source) old new = new ≡ old
CountsLogFound Unknown old new = new ≡ old
CountsLogFound Unopened old new = Counted old new
