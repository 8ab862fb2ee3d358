-- The numbers of an entry change, and its tuple stays.
use Rattle.djq_forest.proofs.SlotChanges.{taken, note_sound, numbers_seen}
use Rattle.djq_forest.proofs.slots.Slots.set.Goals as goal

pub set_note-requires : goal.set_note-requires
set_note-requires c = (taken c.self.inside.width c.self.inside.cells.items c.self.inside.notes.items c.args.slot
    (rw (← c.self.view_is) at c.requires.taken)).within

pub invariant_of-self : goal.invariant_of-self
invariant_of-self c = note_sound c.self.inside.width c.self.inside.cells.items c.self.inside.notes.items _ c.args.slot _
    c.self.invariant c.set_note.ensures

pub returns : goal.returns
returns c = rw (← c.self.view_is)
    (numbers_seen c.self.inside.width c.self.inside.cells.items c.self.inside.notes.items _ c.args.slot c.args.note
    (taken c.self.inside.width c.self.inside.cells.items c.self.inside.notes.items c.args.slot
    (rw (← c.self.view_is) at c.requires.taken)) c.requires.some c.set_note.ensures)
