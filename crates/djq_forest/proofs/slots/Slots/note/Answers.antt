-- What is read of a note is what is seen of the slot.
use Rattle.djq_forest.proofs.SlotChanges.{length-tuples, note_missing, note_refs, note_mark}
use Rattle.djq_forest.proofs.slots.Slots.note.Goals as goal

pub note_of-requires : goal.note_of-requires
note_of-requires c = rw (← c.self.view_is, length-tuples) at c.requires

pub returns-clause-missing : goal.returns-clause-missing
returns-clause-missing c = rw (← c.self.view_is)
    (note_missing c.self.inside.notes.items c.args.slot c.note_of.result
    (rw (← c.self.view_is, length-tuples) at c.requires) c.note_of.ensures)

pub returns-clause-refs : goal.returns-clause-refs
returns-clause-refs c = rw (← c.self.view_is)
    (note_refs c.self.inside.notes.items c.args.slot c.note_of.result
    (rw (← c.self.view_is, length-tuples) at c.requires) c.note_of.ensures)

pub returns-clause-mark : goal.returns-clause-mark
returns-clause-mark c = rw (← c.self.view_is)
    (note_mark c.self.inside.notes.items c.args.slot c.note_of.result
    (rw (← c.self.view_is, length-tuples) at c.requires) c.note_of.ensures)
