-- How writing a text into bytes changes them: from a place on, over what was there.
use Rattle.std.specs.Prelude.{◌≡◌, ℕ, ◌+◌, ◌++◌, ◌≤◌, Option, None, Some, length, take}
use Rattle.djq_model.specs.Data.{Bytes}

-- A text is in bytes from a place on, up to an end. What precedes the place stays.
pub record Written (old new : Bytes) (at : ℕ) (text : Bytes) (end : ℕ) : Type 0 where
  pub ends : end ≡ at + length text
  pub within : end ≤ length new
  pub items : take end new ≡ take at old ++ text

-- A text is written, and its end is known; or none is, and what is before the place stays.
abbrev pub Writes : Bytes → Bytes → ℕ → Bytes → Option ℕ → Type 0
Writes old new at text (Some end) = Written old new at text end
Writes old new at text None = take at new ≡ take at old
