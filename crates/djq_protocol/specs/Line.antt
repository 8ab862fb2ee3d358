-- How a session's bytes are cut into lines.
use Rattle.std.specs.Prelude.{[], ◌∷◌, ◌==◌, ◌+◌, ◌-◌, ◌&&◌, ◌||◌, Bool, not, nat_le, Option, None}
use Rattle.std.specs.Prelude.{Some, if◌then◌else◌, length, take, slice_index}
use Rattle.std.specs.List.{list_all}
use Rattle.djq_model.specs.Data.{Bytes}
use Rattle.djq_protocol.specs.declared.limits.TheConstants.{LINE_BYTES}

-- the bytes before the first LF, or all if there is none
abbrev pub before_lf : Bytes → Bytes
before_lf [] = []
before_lf (b ∷ bs) = if b == 10 then [] else b ∷ before_lf bs

-- the bytes after the first LF, if there is one
abbrev pub behind_lf : Bytes → Option Bytes
behind_lf [] = None
behind_lf (b ∷ bs) = if b == 10 then Some bs else behind_lf bs

-- without one CR at the end
abbrev pub without_cr : Bytes → Bytes
without_cr bs = if slice_index bs (length bs - 1) == 13 then take (length bs - 1) bs else bs

-- whether bytes are too many for a line: bytes without LF are long if they have a prefix of 4,097 bytes that
-- doesn't end in CR, or 4,098 bytes.
abbrev pub is_long : Bytes → Bool
is_long bs = nat_le (LINE_BYTES + 2) (length bs) ||
    (nat_le (LINE_BYTES + 1) (length bs) && not (slice_index bs LINE_BYTES == 13))

-- The front of a session's bytes: no whole line, a line that is too long, or a line and what follows it.
pub data Front : Type 0 where
  dry : Front
  too_long : Front
  a_line : Bytes → Bytes → Front

-- a line with the bytes after its end; no whole line if it has no end
abbrev pub line_or_dry : Bytes → Option Bytes → Front
line_or_dry line None = dry
line_or_dry line (Some rest) = a_line line rest

-- the front of a session's bytes
abbrev pub front_of : Bytes → Front
front_of held = if is_long (before_lf held) then too_long else line_or_dry (without_cr (before_lf held))
    (behind_lf held)

-- a line of spaces alone, or of nothing
abbrev pub is_blank : Bytes → Bool
is_blank line = list_all (λ b. b == 32) line
