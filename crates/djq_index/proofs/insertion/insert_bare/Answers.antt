-- A tuple laid last, marked or with no mark before it, leaves the marks last; refused, the entries stay.
use Rattle.std.proofs.Common.{◌<◌, refl, sym, subst, ℕ}
use Rattle.djq_index.specs.declared.place.Place.{Place}
use Rattle.djq_index.specs.declared.raw.Raw.{Raw}
use Rattle.djq_index.specs.Table.{IsAt}
use Rattle.djq_index.specs.Raw.{entries_of, IsNoted}
use Rattle.djq_index.proofs.Insertions.{slot_notes, came_bare, came_inserted, came_at, unlaid_refuses, refused_bare}
use Rattle.djq_index.proofs.Insertions.{refused_entries}
use Rattle.djq_arena.proofs.Slots.{on_err}
use Rattle.djq_index.proofs.Tables.{entries_length}
use Rattle.djq_index.proofs.insertion.insert_bare.Goals as goal

pub append_row-requires : goal.append_row-requires
append_row-requires c = record {
  ready = record {
    rows_law = c.requires.raw.rows;
    wide = c.requires.wide;
    few = subst (λ (n : ℕ). n < 4294967295) (entries_length c.args.raw.now) c.requires.few;
    room_notes = c.requires.raw.notes;
  };
}

pub returns-in_err-slot-clause-raw : goal.returns-in_err-slot-clause-raw
returns-in_err-slot-clause-raw c =
    let b : Raw = record c.args.raw.now { rows = c.append_row.new.rows; notes = c.append_row.new.notes } in
    let r = unlaid_refuses c.args.raw.now b c.in_err-slot.ensures.refused refl refl refl in
    refused_bare c.args.raw.now b c.requires.raw r

pub returns-in_err-slot-clause-refused : goal.returns-in_err-slot-clause-refused
returns-in_err-slot-clause-refused c =
    let b : Raw = record c.args.raw.now { rows = c.append_row.new.rows; notes = c.append_row.new.notes } in
    let r = unlaid_refuses c.args.raw.now b c.in_err-slot.ensures.refused refl refl refl in
    on_err c.from_residual.result _ (refused_entries c.args.raw.now b r)

pub init_note-requires : goal.init_note-requires
init_note-requires c =
    slot_notes c.args.raw.now c.append_row.new.rows c.append_row.new.notes.items c.in_ok-slot.slot
    c.args.tuple.now c.in_ok-slot.ensures.laid

pub returns-clause-raw : goal.returns-clause-raw
returns-clause-raw c =
    let s = c.init_note.ensures.noted in
    let n : IsNoted c.args.marked c.args.raw.now c.init_note.new.raw c.append_row.new.rows c.append_row.new.notes.items
    c.in_ok-slot.slot 0 = record {
      kind = s.kind;
      key = s.key;
      rows_are = s.rows_are;
      notes_are = s.notes_are;
      marked = s.marked;
    } in
    came_bare c.args.marked c.args.raw.now c.init_note.new.raw c.append_row.new.rows c.append_row.new.notes.items
    c.in_ok-slot.slot 0 c.args.tuple.now c.requires.raw c.requires.plain c.requires.absent c.in_ok-slot.ensures.laid n

pub returns-clause-inserted : goal.returns-clause-inserted
returns-clause-inserted c =
    let s = c.init_note.ensures.noted in
    let n : IsNoted c.args.marked c.args.raw.now c.init_note.new.raw c.append_row.new.rows c.append_row.new.notes.items
    c.in_ok-slot.slot 0 = record {
      kind = s.kind;
      key = s.key;
      rows_are = s.rows_are;
      notes_are = s.notes_are;
      marked = s.marked;
    } in
    came_inserted c.args.marked c.args.raw.now c.init_note.new.raw c.append_row.new.rows c.append_row.new.notes.items
    c.in_ok-slot.slot 0 c.args.tuple.now c.requires.raw c.requires.plain c.requires.absent c.in_ok-slot.ensures.laid n

pub returns-clause-at : goal.returns-clause-at
returns-clause-at c =
    let s = c.init_note.ensures.noted in
    let n : IsNoted c.args.marked c.args.raw.now c.init_note.new.raw c.append_row.new.rows c.append_row.new.notes.items
    c.in_ok-slot.slot 0 = record {
      kind = s.kind;
      key = s.key;
      rows_are = s.rows_are;
      notes_are = s.notes_are;
      marked = s.marked;
    } in
    subst (λ (p : Place). IsAt (entries_of c.init_note.new.raw) p c.args.tuple.now) (sym c.new.ensures)
    (came_at c.args.marked c.args.raw.now c.init_note.new.raw c.append_row.new.rows c.append_row.new.notes.items
    c.in_ok-slot.slot 0 c.args.tuple.now c.requires.raw c.requires.plain c.requires.absent c.in_ok-slot.ensures.laid n)
