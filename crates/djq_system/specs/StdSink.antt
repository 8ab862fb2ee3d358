use Rattle.std.specs.Prelude.{◌≡◌, ℕ, List, [], ◌∷◌}
use Rattle.djq_io.specs.Faults.{one_more}
use Rattle.djq_io.specs.declared.sink.Write.{Write}
use Rattle.djq_io.specs.declared.sink.Wrote.{Wrote}
use Rattle.djq_io.specs.declared.sink.Wrote.TheVariants.{Took, Failed}
use Rattle.djq_system.specs.Notes.{Noted}

-- The count of faults of a writer of the system: a failed write is one fault, every other is none.
abbrev pub CountsOneWrite : Wrote → ℕ → ℕ → Type 0
CountsOneWrite (Took n) old new = new ≡ old
CountsOneWrite Failed old new = new ≡ one_more old

-- What a writer of the system shows: its writes with their answers, and how many faults it has met.
pub record ShownByWriter : Type 0 where
  pub writes : List Write
  pub faults : ℕ

-- the answer of a write that is noted by how many bytes it accepted, or by no number
abbrev pub wrote_noted : List ℕ → Wrote
wrote_noted [] = Failed
wrote_noted (n ∷ _) = Took n

-- the write that is noted by its answer and its piece
abbrev pub write_noted : Noted → Write
write_noted noted = record { piece = noted.1; answer = wrote_noted noted.0 }
