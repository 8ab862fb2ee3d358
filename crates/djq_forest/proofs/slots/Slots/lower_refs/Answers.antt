-- One entry less is tied: the number that was read is one less.
use Rattle.std.proofs.Common.{◌-◌, ◌==◌, refl, ap, arith, ℕ, slice_index}
use Rattle.djq_forest.specs.Slots.{refs_in}
use Rattle.djq_forest.proofs.SlotChanges.{taken, note_sound, note_refs, read_some, refs_seen}
use Rattle.djq_forest.proofs.slots.Slots.lower_refs.Goals as goal

pub note_of-missing-requires : goal.note_of-missing-requires
note_of-missing-requires c = (taken c.self.inside.width c.self.inside.cells.items c.self.inside.notes.items c.args.slot
    (rw (← c.self.view_is) at c.requires.taken)).within

pub overflow_sub-left : goal.overflow_sub-left
overflow_sub-left c =
    let now = note_refs c.self.inside.notes.items c.args.slot c.note_of-missing.result (taken c.self.inside.width c.self.inside.cells.items c.self.inside.notes.items c.args.slot
    (rw (← c.self.view_is) at c.requires.taken)).within
    c.note_of-missing.ensures in
    let some = rw (← c.self.view_is) at c.requires.some in
    omega (arith, now, some)

pub set_note-requires : goal.set_note-requires
set_note-requires c = (taken c.self.inside.width c.self.inside.cells.items c.self.inside.notes.items c.args.slot
    (rw (← c.self.view_is) at c.requires.taken)).within

pub invariant_of-self : goal.invariant_of-self
invariant_of-self c = note_sound c.self.inside.width c.self.inside.cells.items c.self.inside.notes.items _ c.args.slot _
    c.self.invariant c.set_note.ensures

pub returns-clause-lowered : goal.returns-clause-lowered
returns-clause-lowered c =
    let now = note_refs c.self.inside.notes.items c.args.slot c.note_of-missing.result (taken c.self.inside.width c.self.inside.cells.items c.self.inside.notes.items c.args.slot
    (rw (← c.self.view_is) at c.requires.taken)).within
    c.note_of-missing.ensures in
    rw (← c.self.view_is)
    (refs_seen c.self.inside.width c.self.inside.cells.items c.self.inside.notes.items _ c.args.slot
    (slice_index (refs_in c.self.inside.notes.items) c.args.slot - 1) c.note_of-missing.result _
    (record {
      taken = taken c.self.inside.width c.self.inside.cells.items c.self.inside.notes.items c.args.slot
          (rw (← c.self.view_is) at c.requires.taken);
      some = read_some c.self.inside.width c.self.inside.cells.items c.self.inside.notes.items c.args.slot
          c.note_of-missing.result (taken c.self.inside.width c.self.inside.cells.items c.self.inside.notes.items c.args.slot
          (rw (← c.self.view_is) at c.requires.taken)) c.note_of-missing.ensures;
      read = c.note_of-missing.ensures;
      written = c.set_note.ensures;
    })
    (ap (λ (n : ℕ). n - 1) now) refl refl)

pub returns-clause-none : goal.returns-clause-none
returns-clause-none c =
    let now = note_refs c.self.inside.notes.items c.args.slot c.note_of-missing.result (taken c.self.inside.width c.self.inside.cells.items c.self.inside.notes.items c.args.slot
    (rw (← c.self.view_is) at c.requires.taken)).within
    c.note_of-missing.ensures in
    rw (← c.self.view_is) (ap (λ (n : ℕ). n - 1 == 0) now)
