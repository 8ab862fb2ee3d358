-- The note has the entry's supports, below the bound; with its head and mark kept, groups and marks stay.
use Rattle.std.proofs.Common.{◌≡◌, ◌<◌, ◌+◌, refl, ◌∙◌, ap, ℕ, arith}
use Rattle.djq_index.specs.declared.raw.Note.{Note}
use Rattle.djq_index.specs.declared.raw.Raw.{Raw}
use Rattle.djq_index.specs.Entries.{supports_of}
use Rattle.djq_index.specs.Raw.{note_at, entries_of}
use Rattle.djq_index.proofs.Parts.{note_supports}
use Rattle.djq_index.proofs.Removals.{find_row, its_room, supports_changed, renoted_raw, renoted_supported}
use Rattle.djq_index.proofs.Tables.{raw_table}
use Rattle.djq_index.proofs.table.Table.raise.Goals as goal

abbrev raised : Note → Note
raised n = record { supports = n.supports + 1; head = n.head; marked = n.marked }

pub note_of-note-requires : goal.note_of-note-requires
note_of-note-requires g c =
    let can = rw (← c.self.view_is) at c.requires in
    let f = find_row c.self.inside.raw c.args.place can.tuple can.is_at in
    rw c.slot-slot.ensures (omega (
      arith,
      its_room c.self.inside.raw c.args.place can.tuple c.self.invariant.bare f,
      c.self.invariant.bare.notes,
    ))

pub overflow_add-raised : goal.overflow_add-raised
overflow_add-raised g c =
    let can = rw (← c.self.view_is) at c.requires in
    let s : c.note_of-note.result.supports ≡ supports_of (entries_of c.self.inside.raw) can.tuple =
    ap (λ (n : Note). n.supports)
    (c.note_of-note.ensures ∙ ap (note_at c.self.inside.raw.notes.items) c.slot-slot.ensures)
    ∙ note_supports c.self.inside.raw c.args.place can.tuple c.self.invariant.bare can.is_at in
    let below : c.note_of-note.result.supports < 4294967295 = omega (arith, s, can.room) in grind (arith, below)

pub set_note-requires : goal.set_note-requires
set_note-requires g c =
    let can = rw (← c.self.view_is) at c.requires in
    let f = find_row c.self.inside.raw c.args.place can.tuple can.is_at in
    rw c.slot-slot.ensures (omega (
      arith,
      its_room c.self.inside.raw c.args.place can.tuple c.self.invariant.bare f,
      c.self.invariant.bare.notes,
    ))

pub invariant_of-self : goal.invariant_of-self
invariant_of-self g c =
    let can = rw (← c.self.view_is) at c.requires in
    let b : Raw = record c.self.inside.raw { notes = c.set_note.new.notes } in
    renoted_raw c.self.inside.raw b c.args.place can.tuple (raised c.note_of-note.result) c.self.invariant.bare
    (find_row c.self.inside.raw c.args.place can.tuple can.is_at)
    (supports_changed c.self.inside.raw b _ _ c.note_of-note.result (raised c.note_of-note.result) refl
    c.note_of-note.ensures c.slot-slot.ensures refl refl c.set_note.ensures)
    c.self.invariant.heads

pub returns-clause-raised : goal.returns-clause-raised
returns-clause-raised g c = rw (← c.self.view_is) (
    λ u at.
    let b : Raw = record c.self.inside.raw { notes = c.set_note.new.notes } in
    let n : c.note_of-note.result ≡ note_at c.self.inside.raw.notes.items c.args.place.slot =
    c.note_of-note.ensures ∙ ap (note_at c.self.inside.raw.notes.items) c.slot-slot.ensures in
    let s : (note_at c.self.inside.raw.notes.items c.args.place.slot).supports
    ≡ supports_of (entries_of c.self.inside.raw) u = note_supports c.self.inside.raw c.args.place u
    c.self.invariant.bare at in
    renoted_supported c.self.inside.raw b c.args.place u (raised c.note_of-note.result) c.self.invariant.bare
    (find_row c.self.inside.raw c.args.place u at)
    (supports_changed c.self.inside.raw b _ _ c.note_of-note.result (raised c.note_of-note.result) refl
    c.note_of-note.ensures c.slot-slot.ensures refl refl c.set_note.ensures)
    (supports_of (entries_of c.self.inside.raw) u) (supports_of (entries_of c.self.inside.raw) u + 1) s
    (ap (λ (k : ℕ). k + 1) (ap (λ (m : Note). m.supports) n ∙ s)))

pub returns-clause-table : goal.returns-clause-table
returns-clause-table g c =
    let can = rw (← c.self.view_is) at c.requires in
    let b : Raw = record c.self.inside.raw { notes = c.set_note.new.notes } in
    raw_table b
    (renoted_raw c.self.inside.raw b c.args.place can.tuple (raised c.note_of-note.result) c.self.invariant.bare
    (find_row c.self.inside.raw c.args.place can.tuple can.is_at)
    (supports_changed c.self.inside.raw b _ _ c.note_of-note.result (raised c.note_of-note.result) refl
    c.note_of-note.ensures c.slot-slot.ensures refl refl c.set_note.ensures)
    c.self.invariant.heads)
