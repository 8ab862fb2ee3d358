-- A note tells that there is no entry.
use Rattle.djq_forest.proofs.SlotChanges.{length-tuples, note_sound, free_seen}
use Rattle.djq_forest.proofs.slots.Slots.free.Goals as goal

pub set_note-requires : goal.set_note-requires
set_note-requires c = rw (← c.self.view_is, length-tuples) at c.requires

pub invariant_of-self : goal.invariant_of-self
invariant_of-self c = note_sound c.self.inside.width c.self.inside.cells.items c.self.inside.notes.items _ c.args.slot _
    c.self.invariant c.set_note.ensures

pub returns : goal.returns
returns c = rw (← c.self.view_is)
    (free_seen c.self.inside.width c.self.inside.cells.items c.self.inside.notes.items _ c.args.slot
    (rw (← c.self.view_is, length-tuples) at c.requires) c.set_note.ensures)
