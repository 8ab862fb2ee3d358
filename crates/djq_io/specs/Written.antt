use Rattle.std.specs.Prelude.{◌≡◌, ℕ, ◌<◌, List, [], ◌∷◌, ◌++◌, length, take, drop, Option}
use Rattle.djq_io.specs.Faults.{Counted}
use Rattle.djq_io.specs.Sink.{Gains, bytes_of, NoneFailed}
use Rattle.djq_io.specs.declared.sink.Wrote.TheVariants.{Failed as WriteFailed}
use Rattle.djq_io.specs.declared.sink.Write.{Write}
use Rattle.djq_io.specs.declared.sink.Written.{Written}
use Rattle.djq_io.specs.declared.sink.Written.TheVariants.{All, Failed}

-- From one state of a sink to a later one these bytes were written, by writes of which none failed.
pub record GainsBytes (old new : Option (List Write)) (bytes : List ℕ) : Type 0 where
  pub writes : List Write
  pub told : Gains old new writes
  pub well : NoneFailed writes
  pub all : bytes ≡ bytes_of writes

-- These bytes were written so, and then a write failed, which was offered this rest. It was the
-- last: no write followed.
pub record FailsBehind (old new : Option (List Write)) (bytes rest : List ℕ) : Type 0 where
  pub writes : List Write
  pub told : Gains old new (writes ++ record { piece = rest; answer = WriteFailed } ∷ [])
  pub well : NoneFailed writes
  pub all : bytes ≡ bytes_of writes

-- How much of a piece a sink accepted, from what it showed before to what it shows after: all of
-- it, or a first part of it that isn't the whole, after which a write failed.
abbrev pub WritesAll : Written → Option (List Write) → Option (List Write) → List ℕ → Type 0
WritesAll All old new piece = GainsBytes old new piece
WritesAll (Failed n) old new piece = (n < length piece) × FailsBehind old new (take n piece) (drop n piece)

-- The count of faults rises if a write failed, and stays if all was accepted.
abbrev pub CountsWritten : Written → ℕ → ℕ → Type 0
CountsWritten All old new = new ≡ old
CountsWritten (Failed n) old new = Counted old new
