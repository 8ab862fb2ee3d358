-- What printing a line piece by piece does to the output.
use Rattle.std.specs.Prelude.{◌≡◌, ◌+◌, ◌<◌, ◌≤◌, Result, Ok, Err, length, take}
use Rattle.bytes.specs.Filled.{Filled}
use Rattle.djq_model.specs.Data.{Bytes}
use Rattle.djq_value.specs.Output.{Put}

-- The room was too small for a text, and some of it follows what was there.
pub record Cut (old new : Filled) (text : Bytes) : Type 0 where
  pub stays : take (length old.items) new.items ≡ old.items
  pub within : length old.items ≤ length new.items
  pub room : length old.items + old.spare ≤ length new.items + new.spare
  pub lacks : old.spare < length text + 32

-- A text is appended whole; or a part of it, if the room was too small for it.
abbrev pub AppendsPart : {A E : Type 0} → Filled → Filled → Bytes → Result A E → Type 0
AppendsPart old new text (Ok a) = Put old new text
AppendsPart old new text (Err e) = Cut old new text
