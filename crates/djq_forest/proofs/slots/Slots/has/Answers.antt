-- A slot has an entry exactly where its note has a number of unmet needs.
use Rattle.djq_forest.proofs.SlotChanges.{length-tuples, has_is}
use Rattle.djq_forest.proofs.slots.Slots.has.Goals as goal

pub note_of-requires : goal.note_of-requires
note_of-requires c = rw (← c.self.view_is, length-tuples) at c.requires

pub returns : goal.returns
returns c = rw (← c.self.view_is, c.note_of.ensures)
    (has_is c.self.inside.width c.self.inside.cells.items c.self.inside.notes.items c.args.slot
    (rw (← c.self.view_is, length-tuples) at c.requires))
