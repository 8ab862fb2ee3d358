-- Values as they are printed, read from the bytes.
use Rattle.std.specs.Prelude.{ℕ, zero, suc, [], ◌∷◌, ◌++◌, ◌==◌, ◌&&◌, Bool, true, false, Option}
use Rattle.std.specs.Prelude.{None, Some, if◌then◌else◌, length}
use Rattle.djq_model.specs.declared.value.Value.{Value}
use Rattle.djq_model.specs.Data.{Bytes, bytes_eq}
use Rattle.djq_value.specs.ReadValue.{literal_at}
use Rattle.djq_value.specs.ValueText.{value_text}
use Rattle.djq_mirror.specs.Replies.{is_cell}

-- what follows a literal that was read in front of these bytes, if it is printed so
abbrev pub behind_value : Bytes → Option (Value × Bytes) → Option Bytes
behind_value bytes None = None
behind_value bytes (Some p) =
    if is_cell p.0 && bytes_eq (value_text p.0 ++ p.1) bytes then Some p.1 else None

-- what follows a space and a value in front of these bytes, if they are there
abbrev pub behind_cell : Bytes → Option Bytes
behind_cell [] = None
behind_cell (b ∷ bs) = if b == 32 then behind_value bs (literal_at bs) else None

-- a test of the bytes that are left, which fails if there are none
abbrev pub or_false : (Bytes → Bool) → Option Bytes → Bool
or_false f None = false
or_false f (Some bytes) = f bytes

-- Each value has a byte at least, so the number of bytes is enough for all.
abbrev pub cells_within : ℕ → Bytes → Bool
cells_within n [] = true
cells_within zero (b ∷ bs) = false
cells_within (suc n) (b ∷ bs) = or_false (cells_within n) (behind_cell (b ∷ bs))

-- whether bytes are values, each after a space
unfoldable pub are_cells_in : Bytes → Bool
are_cells_in bytes = cells_within (length bytes) bytes
