-- One need more isn't met: the number that was read is one more.
use Rattle.std.proofs.Common.{◌+◌, ◌==◌, refl, ap, arith, ℕ, slice_index}
use Rattle.djq_forest.specs.Slots.{missing_in}
use Rattle.djq_forest.proofs.SlotChanges.{taken, note_sound, note_missing, unmet_seen}
use Rattle.djq_forest.proofs.slots.Slots.raise_missing.Goals as goal

pub note_of-missing-requires : goal.note_of-missing-requires
note_of-missing-requires c = (taken c.self.inside.width c.self.inside.cells.items c.self.inside.notes.items c.args.slot
    (rw (← c.self.view_is) at c.requires.taken)).within

pub overflow_add-more : goal.overflow_add-more
overflow_add-more c =
    let now = note_missing c.self.inside.notes.items c.args.slot c.note_of-missing.result (taken c.self.inside.width c.self.inside.cells.items c.self.inside.notes.items c.args.slot
    (rw (← c.self.view_is) at c.requires.taken)).within
    c.note_of-missing.ensures in
    let few = rw (← c.self.view_is) at c.requires.few in
    omega (arith, now, few)

pub set_note-requires : goal.set_note-requires
set_note-requires c = (taken c.self.inside.width c.self.inside.cells.items c.self.inside.notes.items c.args.slot
    (rw (← c.self.view_is) at c.requires.taken)).within

pub invariant_of-self : goal.invariant_of-self
invariant_of-self c = note_sound c.self.inside.width c.self.inside.cells.items c.self.inside.notes.items _ c.args.slot _
    c.self.invariant c.set_note.ensures

pub returns-clause-raised : goal.returns-clause-raised
returns-clause-raised c =
    let now = note_missing c.self.inside.notes.items c.args.slot c.note_of-missing.result (taken c.self.inside.width c.self.inside.cells.items c.self.inside.notes.items c.args.slot
    (rw (← c.self.view_is) at c.requires.taken)).within
    c.note_of-missing.ensures in
    let few = rw (← c.self.view_is) at c.requires.few in
    rw (← c.self.view_is)
    (unmet_seen c.self.inside.width c.self.inside.cells.items c.self.inside.notes.items _ c.args.slot
    (slice_index (missing_in c.self.inside.notes.items) c.args.slot + 1) c.note_of-missing.result _
    (record {
      taken = taken c.self.inside.width c.self.inside.cells.items c.self.inside.notes.items c.args.slot
          (rw (← c.self.view_is) at c.requires.taken);
      some = λ h. omega (arith, h, now, few);
      read = c.note_of-missing.ensures;
      written = c.set_note.ensures;
    })
    (ap (λ (n : ℕ). n + 1) now) refl refl)

pub returns-clause-all : goal.returns-clause-all
returns-clause-all c =
    let now = note_missing c.self.inside.notes.items c.args.slot c.note_of-missing.result (taken c.self.inside.width c.self.inside.cells.items c.self.inside.notes.items c.args.slot
    (rw (← c.self.view_is) at c.requires.taken)).within
    c.note_of-missing.ensures in
    rw (← c.self.view_is) (ap (λ (n : ℕ). n == 0) now)
