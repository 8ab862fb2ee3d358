-- The room of an output, to be written into.
use Rattle.std.specs.Prelude.{◌≡◌, ℕ, ◌+◌, ◌<◌, ◌≤◌, length, take}
use Rattle.bytes.specs.Filled.{Filled}

-- From a place on, after what was there, all room but 32 bytes is used; none if there was less.
pub record RoomIsTaken (old new : Filled) (start : ℕ) : Type 0 where
  pub begins : start ≡ length old.items
  pub stays : take start new.items ≡ old.items
  pub room : length new.items + new.spare ≡ length old.items + old.spare
  pub within : start ≤ length new.items
  pub kept : start < length new.items → 32 ≤ new.spare
