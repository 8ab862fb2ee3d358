use Rattle.std.specs.Prelude.{◌≡◌, ◌==◌, ℕ, Bool, if◌then◌else◌, List, [], ◌∷◌, ◌++◌, length, take, drop, reverse}
use Rattle.std.specs.Prelude.{Option, Some, None, option_and_then, slice_index_or}
use Rattle.std.specs.Str.{bytes_eq}
use Rattle.djq_io.specs.Faults.{one_more}
use Rattle.djq_io.specs.Source.{SourceReading}
use Rattle.djq_io.specs.declared.source.Read.{Read}
use Rattle.djq_io.specs.declared.source.Read.TheVariants.{Got, End, Failed}
use Rattle.djq_system.specs.Notes.{Noted}

-- The count of faults of a reader of the system: a failed read is one fault, every other is none.
abbrev pub CountsOneRead : Read → ℕ → ℕ → Type 0
CountsOneRead (Got n) old new = new ≡ old
CountsOneRead End old new = new ≡ old
CountsOneRead Failed old new = new ≡ one_more old

-- A read with its answer, and the bytes that it gave.
pub record ReadDone : Type 0 where
  pub answer : Read
  pub gave : List ℕ

-- What a reader of the system shows: its reads with their answers, and how many faults it has met.
pub record ShownByReader : Type 0 where
  pub reads : List ReadDone
  pub faults : ℕ

-- the bytes that a read gave to a buffer
abbrev pub bytes_given : Read → List ℕ → List ℕ
bytes_given (Got n) buf = take n buf
bytes_given End buf = []
bytes_given Failed buf = []

-- the answer of a read that these numbers note: which it is, and how many bytes it gave
abbrev pub got_noted : ℕ → ℕ → Read
got_noted answer n = if answer == 0 then Got n else if answer == 1 then End else Failed

-- the read that these numbers and bytes note
abbrev pub source_read_noted : Noted → ReadDone
source_read_noted noted =
    record { answer = got_noted (slice_index_or noted.0 0 0) (slice_index_or noted.0 1 0); gave = noted.1 }

-- the reading, if something is so
abbrev pub reading_if : Bool → SourceReading → Option SourceReading
reading_if so r = if so then Some r else None

-- The reading after a read, if a reader whose reading was this one may answer so: a piece is what is left first, and
-- the end is found if nothing is left.
abbrev pub reading_answered : Read → List ℕ → SourceReading → Option SourceReading
reading_answered (Got n) piece r = reading_if (bytes_eq piece (take (length piece) r.left))
    (record { left = drop (length piece) r.left; given = r.given ++ piece ∷ [] })
reading_answered End piece r = reading_if (bytes_eq r.left []) r
reading_answered Failed piece r = Some r

-- the reading after these reads, of which the last one comes first
abbrev pub reading_back : List ℕ → List ReadDone → Option SourceReading
reading_back input [] = Some (record { left = input; given = [] })
reading_back input (read ∷ earlier) = option_and_then (reading_answered read.answer read.gave) (reading_back input earlier)

-- What a reader of these bytes shows after these reads; none if such a reader doesn't answer so.
abbrev pub reading_of_reads : List ℕ → List ReadDone → Option SourceReading
reading_of_reads input reads = reading_back input (reverse reads)
