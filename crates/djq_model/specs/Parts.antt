-- The parts of bytes between signs.
use Rattle.std.specs.Prelude.{ℕ, List, [], ◌∷◌, ◌==◌, Option, None, Some, if◌then◌else◌}
use Rattle.djq_model.specs.Data.{Bytes}

-- the bytes before the first of a sign, or all
abbrev pub before : ℕ → Bytes → Bytes
before sign [] = []
before sign (b ∷ bytes) = if b == sign then [] else b ∷ before sign bytes

-- the bytes after it, if there is one
abbrev pub behind : ℕ → Bytes → Option Bytes
behind sign [] = None
behind sign (b ∷ bytes) = if b == sign then Some bytes else behind sign bytes

-- parts with one more byte in front of the first of them
abbrev pub with_first : ℕ → List Bytes → List Bytes
with_first b [] = (b ∷ []) ∷ []
with_first b (p ∷ ps) = (b ∷ p) ∷ ps
