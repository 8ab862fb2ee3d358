-- Each note has its numbers, and each slot its cells.
use Rattle.djq_forest.proofs.SlotChanges.{laws}
use Rattle.djq_forest.proofs.slots.Slots.laws.Goals as goal

pub returns : goal.returns
returns c = rw (← c.self.view_is)
    (laws c.self.inside.width c.self.inside.cells.items c.self.inside.notes.items c.self.invariant)
