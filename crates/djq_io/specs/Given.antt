use Rattle.std.specs.Prelude.{◌≡◌, ℕ, List, Option}
use Rattle.std.specs.List.{concat}
use Rattle.djq_io.specs.Source.{SourceReading, SourceGives}

-- The source gave these bytes, in pieces.
pub record Gave (before now : Option SourceReading) (bytes : List ℕ) : Type 0 where
  pub pieces : List (List ℕ)
  pub told : SourceGives before now pieces
  pub all : bytes ≡ concat pieces
