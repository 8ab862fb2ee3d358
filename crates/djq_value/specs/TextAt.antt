-- The text after an opening quote.
use Rattle.std.specs.Prelude.{◌≡◌, ◌≤◌, ℕ, [], true, false, Option, None, Some, is_some, drop, length}
use Rattle.djq_model.specs.Data.{Bytes}
use Rattle.djq_value.specs.Token.{text_in}

-- a text that was found, without what follows it; nothing if none was
abbrev pub found_text : Option (Bytes × Bytes) → Bytes
found_text None = []
found_text (Some r) = r.0

-- the text up to its closing quote; nothing if there is none
abbrev pub text_at : Bytes → Bytes
text_at bs = found_text (text_in false bs)

-- There is a text of so many bytes.
abbrev pub HasText : Bytes → ℕ → Type 0
HasText bs n = (is_some (text_in false bs) ≡ true) × (length (text_at bs) ≡ n)

-- There is a text of so many bytes, and this is the place after its closing quote.
abbrev pub EndsAt : Bytes → ℕ → ℕ → Type 0
EndsAt bs end n = (text_in false bs ≡ Some (text_at bs, drop end bs)) × (length (text_at bs) ≡ n) × (end ≤ length bs)

-- The end of the text and how many bytes it has; none if there is no text.
abbrev pub TextEnds : Bytes → Option (ℕ × ℕ) → Type 0
TextEnds bs None = text_in false bs ≡ None
TextEnds bs (Some r) = EndsAt bs r.0 r.1
