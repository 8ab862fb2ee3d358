-- What the splitter's answer means for the bytes.
use Rattle.std.specs.Prelude.{ℕ, ◌≡◌, ◌≢◌, ◌≤◌, ◌<◌, length, take, drop, slice_index}
use Rattle.djq_model.specs.Data.{Bytes}
use Rattle.djq_protocol.specs.Line.{dry, too_long, a_line, front_of}
use Rattle.djq_parser.specs.declared.splitter.Front.{Front}
use Rattle.djq_parser.specs.declared.splitter.Front.TheVariants.{Line, Dry, Long}

-- The answer is the front of the bytes; of a line it has its end, and the place of what follows it.
abbrev pub IsFront : Bytes → Front → Type 0
IsFront held (Line end rest) = (front_of held ≡ a_line (take end held) (drop rest held)) × (end ≤ rest)
    × (rest ≤ length held) × (0 < rest)
IsFront held Dry = front_of held ≡ dry
IsFront held Long = front_of held ≡ too_long

-- the first LF is at this place
pub record IsFirstLf (bytes : Bytes) (at : ℕ) : Type 0 where
  pub within : at < length bytes
  pub lf : slice_index bytes at ≡ 10
  pub before : (k : ℕ) → k < at → slice_index bytes k ≢ 10

-- there is no LF
abbrev pub HasNoLineEnd : Bytes → Type 0
HasNoLineEnd bytes = (k : ℕ) → k < length bytes → slice_index bytes k ≢ 10
