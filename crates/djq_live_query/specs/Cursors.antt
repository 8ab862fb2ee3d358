-- The cursors of one query, in their slots.
pub use Rattle.djq_cursors.specs.Slots.{
  slot_at,
  are_vacant,
  IsOpen,
  HasOpen,
  IsOpenIn,
  SetsSlot,
  OpensSlot,
  outdated_progress,
  outdated_slots,
}
use Rattle.djq_enumeration.specs.declared.cursor.Cursor.{Cursor}
use Rattle.djq_cursors.specs.declared.progress.Progress.{Progress as ProgressOf}

-- how far a cursor of a query is
abbrev pub Progress : Type 0
Progress = ProgressOf Cursor
