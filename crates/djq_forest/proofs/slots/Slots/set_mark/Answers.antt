-- The change is written, and the other numbers as they were read.
use Rattle.std.proofs.Common.{refl}
use Rattle.djq_forest.proofs.SlotChanges.{taken, note_sound, read_some, mark_seen}
use Rattle.djq_forest.proofs.slots.Slots.set_mark.Goals as goal

pub note_of-missing-requires : goal.note_of-missing-requires
note_of-missing-requires c = (taken c.self.inside.width c.self.inside.cells.items c.self.inside.notes.items c.args.slot
    (rw (← c.self.view_is) at c.requires)).within

pub set_note-requires : goal.set_note-requires
set_note-requires c = (taken c.self.inside.width c.self.inside.cells.items c.self.inside.notes.items c.args.slot
    (rw (← c.self.view_is) at c.requires)).within

pub invariant_of-self : goal.invariant_of-self
invariant_of-self c = note_sound c.self.inside.width c.self.inside.cells.items c.self.inside.notes.items _ c.args.slot _
    c.self.invariant c.set_note.ensures

pub returns : goal.returns
returns c = rw (← c.self.view_is)
    (mark_seen c.self.inside.width c.self.inside.cells.items c.self.inside.notes.items _ c.args.slot c.args.change
    c.note_of-missing.result _
    (record {
      taken = taken c.self.inside.width c.self.inside.cells.items c.self.inside.notes.items c.args.slot
          (rw (← c.self.view_is) at c.requires);
      some = read_some c.self.inside.width c.self.inside.cells.items c.self.inside.notes.items c.args.slot
          c.note_of-missing.result (taken c.self.inside.width c.self.inside.cells.items c.self.inside.notes.items c.args.slot
          (rw (← c.self.view_is) at c.requires)) c.note_of-missing.ensures;
      read = c.note_of-missing.ensures;
      written = c.set_note.ensures;
    })
    refl refl refl)
