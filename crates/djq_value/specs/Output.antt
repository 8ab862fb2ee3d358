-- What printing does to the output: its bytes, and the room after them.
use Rattle.std.specs.Prelude.{◌≡◌, ◌+◌, ◌++◌, ◌<◌, ◌≤◌, Result, Ok, Err, length}
use Rattle.bytes.specs.Filled.{Filled}
use Rattle.djq_model.specs.Data.{Bytes}
use Rattle.djq_value.specs.declared.output.TheConstants.{KEPT}

-- A text is appended whole, and 32 bytes of room are left. The room with what is in it doesn't fall.
pub record Put (old new : Filled) (text : Bytes) : Type 0 where
  pub items : new.items ≡ old.items ++ text
  pub kept : KEPT ≤ new.spare
  pub room : old.spare ≤ new.spare + length text

-- The room was too small for a text, and all is as before.
pub record Lacks (old new : Filled) (text : Bytes) : Type 0 where
  pub items : new.items ≡ old.items
  pub room : old.spare ≤ new.spare
  pub lacks : old.spare < length text + KEPT

-- A text is appended whole; or the room was too small for it.
abbrev pub Puts : {A E : Type 0} → Filled → Filled → Bytes → Result A E → Type 0
Puts old new text (Ok a) = Put old new text
Puts old new text (Err e) = Lacks old new text

-- A text is appended in the room that there is.
pub record Says (old new : Filled) (text : Bytes) : Type 0 where
  pub items : new.items ≡ old.items ++ text
  pub spare : new.spare + length text ≡ old.spare
