-- The next line of a log of either format.
use Rattle.std.proofs.Common.{◌≡◌, ℕ, inl, inr, List, [], drop, sym, subst}
use Rattle.djq_disk.specs.History.{History}
use Rattle.djq_journal.specs.Format.{IsBad}
use Rattle.djq_journal.specs.Standing.{IsAtGate, IsIdle}
use Rattle.djq_journal.specs.Calls.{JournalReads}
use Rattle.djq_journal.specs.declared.line.Line.TheVariants.{Got as GotFirst, End as EndFirst, BadLog as BadFirst}
use Rattle.djq_journal.specs.declared.line.Line.TheVariants.{Failed as FailedFirst}
use Rattle.djq_log_file.specs.Places.{ReadingPlace}
use Rattle.djq_log_file.specs.Window.{FilePart, ReadsThrough}
use Rattle.djq_log_file.specs.Standing.{HasRead, ReadsLine}
use Rattle.djq_log_file.specs.declared.damage.Damage.{Damage}
use Rattle.djq_log_file.specs.declared.reader.LogLine.TheVariants.{Damaged}
use Rattle.djq_log.specs.Reading.{HasReadLines, ReadsNext}
use Rattle.djq_log.specs.declared.end.LogEnd.TheVariants.{First as FirstEnd}
use Rattle.djq_log.specs.declared.source.LogSource.{LogSource}
use Rattle.djq_log.specs.declared.source.LogSource.TheVariants.{First, Second}
use Rattle.djq_log.specs.declared.source.NextLine.{NextLine}
use Rattle.djq_log.specs.declared.source.NextLine.TheVariants.{Got, End, Bad, Failed}

-- What an answer says of a log from which these lines were read, whatever they are. The file stays as it is.
abbrev pub ReadsOn : NextLine → LogSource → List ℕ → History → History → Type 0
ReadsOn answer source buf o n =
    (n ≡ o) × ((lines : List (List ℕ)) → HasReadLines lines source o.file → ReadsNext answer lines buf o.file)

pub first_got : (gate gate' n : ℕ) (buf : List ℕ) (o h : History)
    → ((lines : List (List ℕ)) → (h ≡ o)
    × (IsAtGate lines gate o.file → JournalReads (GotFirst n) lines gate gate' buf o.file))
    → ReadsOn (Got (First gate') n gate) (First gate) buf o h
first_got gate gate' n buf o h reads =
    ((reads []).0, λ lines at. let next = (reads lines).1 at in (next, inl (at, (gate', next))))

pub first_end : (gate gate' : ℕ) (buf : List ℕ) (o h : History)
    → ((lines : List (List ℕ)) → (h ≡ o)
    × (IsAtGate lines gate o.file → JournalReads EndFirst lines gate gate' buf o.file))
    → ReadsOn (End (FirstEnd gate')) (First gate) buf o h
first_end gate gate' buf o h reads = (
  (reads []).0,
  λ lines at.
      let ends = (reads lines).1 at in
      subst (λ (place : ℕ). IsIdle lines place o.file) (sym ends.1) ends.0,
)

pub first_bad : (gate gate' at : ℕ) (buf : List ℕ) (o h : History)
    → ((lines : List (List ℕ)) → (h ≡ o)
    × (IsAtGate lines gate o.file → JournalReads (BadFirst at) lines gate gate' buf o.file))
    → ReadsOn (Bad at) (First gate) buf o h
first_bad gate gate' at buf o h reads = (
  (reads []).0,
  λ lines here.
      let bad = (reads lines).1 here in
      inl
      (subst (λ (place : ℕ). IsAtGate lines place o.file × IsBad (drop place o.file.bytes)) (sym bad.0)
      (here, bad.1)),
)

pub first_failed : (gate gate' : ℕ) (buf : List ℕ) (o h : History)
    → ((lines : List (List ℕ)) → (h ≡ o)
    × (IsAtGate lines gate o.file → JournalReads FailedFirst lines gate gate' buf o.file))
    → ReadsOn Failed (First gate) buf o h
first_failed gate gate' buf o h reads = ((reads []).0, λ lines at. tt)

pub second_bad : (place place' : ReadingPlace) (part part' : FilePart) (at : ℕ) (reason : Damage) (buf : List ℕ)
    (o h : History)
    → ReadsThrough
    (λ file. (lines : List (List ℕ)) → HasRead lines place file → ReadsLine (Damaged at reason) lines place' buf file)
    part part' o h
    → ReadsOn (Bad at) (Second place part) buf o h
second_bad place place' part part' at reason buf o h reads =
    (reads.0, λ lines read. let bad = (reads.1 read.1).1 lines read.0 in inr (reason, bad.1))
