-- The cursors of one union, in their slots.
pub use Rattle.djq_cursors.specs.Slots.{
  slot_at,
  are_vacant,
  IsOpen,
  IsOpenIn,
  SetsSlot,
  OpensSlot,
  outdated_progress,
  outdated_slots,
}
use Rattle.std.specs.Prelude.{List, Option}
use Rattle.djq_enumeration.specs.declared.cursor.Cursor.{Cursor}
use Rattle.djq_cursors.specs.declared.progress.Progress.{Progress as ProgressOf}

-- how far a cursor of a union is
abbrev pub UnionProgress : Type 0
UnionProgress = ProgressOf (List (Option Cursor))
