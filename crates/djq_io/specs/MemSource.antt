use Rattle.std.specs.Prelude.{ℕ, List, [], ◌∷◌, length, min, Option, if◌then◌else◌}
use Rattle.std.specs.Option.{option_map}
use Rattle.djq_io.specs.Failing.{is_failing}
use Rattle.djq_io.specs.Source.{SourceReading}
use Rattle.djq_io.specs.declared.source.Read.{Read}
use Rattle.djq_io.specs.declared.source.Read.TheVariants.{Got, End, Failed}

-- A source in memory: the bytes left, the pieces given, unless it lost count of them, the greatest
-- number that a read gives, and the reads that are to fail.
pub record MemSourceInside : Type 0 where
  pub left : List ℕ
  pub given : Option (List (List ℕ))
  pub most : ℕ
  pub to_fail : List ℕ

-- what a source in memory shows
abbrev pub source_reading : MemSourceInside → Option SourceReading
source_reading held = option_map (λ given. record { left = held.left; given = given }) held.given

-- how much a read of these bytes gives, with this greatest number and this much room
abbrev pub part_of : List ℕ → ℕ → ℕ → Read
part_of [] most room = End
part_of (byte ∷ bytes) most room = Got (min (min most room) (length (byte ∷ bytes)))

-- how many bytes a read gives
abbrev pub bytes_read : Read → ℕ
bytes_read (Got n) = n
bytes_read End = 0
bytes_read Failed = 0

-- what a read answers, with this much room
abbrev pub read_of : MemSourceInside → ℕ → Read
read_of held room = if is_failing held.to_fail then Failed else part_of held.left held.most room
