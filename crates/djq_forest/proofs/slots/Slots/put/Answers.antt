-- The cells of the slot are written, and those of all others stay.
use Rattle.std.proofs.Common.{arith}
use Rattle.djq_forest.proofs.SlotChanges.{length-tuples, entry_fits, put_sound, put_seen}
use Rattle.djq_forest.proofs.slots.Slots.put.Goals as goal

pub overflow_mul-slot : goal.overflow_mul-slot
overflow_mul-slot c =
    let fits = entry_fits c.self.inside.width c.self.inside.cells.items c.self.inside.notes.items c.args.slot _
    c.self.invariant (rw (← c.self.view_is, length-tuples) at c.requires.within)
    (rw (← c.self.view_is) at c.requires.wide) in
    grind (arith, fits)

pub overwrite-requires : goal.overwrite-requires
overwrite-requires c = entry_fits c.self.inside.width c.self.inside.cells.items c.self.inside.notes.items c.args.slot _
    c.self.invariant (rw (← c.self.view_is, length-tuples) at c.requires.within) (rw (← c.self.view_is) at c.requires.wide)

pub set_note-requires : goal.set_note-requires
set_note-requires c = rw (← c.self.view_is, length-tuples) at c.requires.within

pub invariant_of-self : goal.invariant_of-self
invariant_of-self c = put_sound c.self.inside.width c.self.inside.cells.items _ c.self.inside.notes.items _ c.args.slot
    c.args.tuple.now _ c.self.invariant (rw (← c.self.view_is, length-tuples) at c.requires.within)
    (rw (← c.self.view_is) at c.requires.wide) c.overwrite.ensures c.set_note.ensures

pub returns : goal.returns
returns c = rw (← c.self.view_is)
    (put_seen c.self.inside.width c.self.inside.cells.items _ c.self.inside.notes.items _ c.args.slot c.args.tuple.now
    c.args.missing c.self.invariant (rw (← c.self.view_is, length-tuples) at c.requires.within)
    (rw (← c.self.view_is) at c.requires.wide) c.requires.some c.overwrite.ensures c.set_note.ensures)
