-- There are no more heads than tuples, by the groups; refused a head, the row laid last goes out again.
use Rattle.std.proofs.Common.{◌<◌, [], refl, sym, ◌∙◌, subst, ℕ, List, arith}
use Rattle.std.proofs.lemmas.List.{append-nil}
use Rattle.djq_index.specs.declared.place.Place.{Place}
use Rattle.djq_index.specs.declared.raw.Raw.{Raw}
use Rattle.djq_index.specs.Tuple.{pick}
use Rattle.djq_index.specs.Table.{IsAt}
use Rattle.djq_index.specs.Raw.{entries_of, IsLaidInto, IsNoted, IsSeat}
use Rattle.djq_index.proofs.Insertions.{slot_notes, slot_links, slot_number, head_ends, last_links, came_bare}
use Rattle.djq_index.proofs.Insertions.{came_heads, came_inserted, came_at, Refuses, unlaid_refuses, RefusesHead}
use Rattle.djq_index.proofs.Insertions.{refused_bare, refused_heads, refused_entries}
use Rattle.djq_arena.proofs.Slots.{on_err}
use Rattle.djq_index.proofs.Tables.{entries_length, few_heads}
use Rattle.djq_index.proofs.insertion.insert_keyed.Goals as goal

pub append_linked_row-requires-clause-ready : goal.append_linked_row-requires-clause-ready
append_linked_row-requires-clause-ready c = record {
  rows_law = c.requires.raw.rows;
  wide = c.requires.wide;
  few = subst (λ (n : ℕ). n < 4294967295) (entries_length c.args.raw.now) c.requires.few;
  room_notes = c.requires.raw.notes;
}

pub find_or_make_head-requires-clause-few : goal.find_or_make_head-requires-clause-few
find_or_make_head-requires-clause-few c = omega (arith, few_heads c.args.raw.now c.requires.heads, c.requires.few)

pub returns-in_err-slot-clause-raw : goal.returns-in_err-slot-clause-raw
returns-in_err-slot-clause-raw c =
    let b : Raw = record c.args.raw.now {
      rows = c.append_linked_row.new.rows;
      notes = c.append_linked_row.new.notes;
      links = c.append_linked_row.new.links;
    } in
    let r = unlaid_refuses c.args.raw.now b c.in_err-slot.ensures.refused refl refl refl in
    refused_bare c.args.raw.now b c.requires.raw r

pub returns-in_err-slot-clause-heads : goal.returns-in_err-slot-clause-heads
returns-in_err-slot-clause-heads c =
    let b : Raw = record c.args.raw.now {
      rows = c.append_linked_row.new.rows;
      notes = c.append_linked_row.new.notes;
      links = c.append_linked_row.new.links;
    } in
    let r = unlaid_refuses c.args.raw.now b c.in_err-slot.ensures.refused refl refl refl in
    let h : RefusesHead c.args.raw.now b = record {
      room_links = c.in_err-slot.ensures.links;
      same_links = c.in_err-slot.ensures.same_links;
      keys_law = c.requires.heads.keys;
      keys_width = refl;
      keys = refl;
      room_ends = c.requires.heads.ends;
      same_ends =
          (λ k. refl);
    } in
    refused_heads c.args.raw.now b c.requires.heads r h

pub returns-in_err-slot-clause-refused : goal.returns-in_err-slot-clause-refused
returns-in_err-slot-clause-refused c =
    let b : Raw = record c.args.raw.now {
      rows = c.append_linked_row.new.rows;
      notes = c.append_linked_row.new.notes;
      links = c.append_linked_row.new.links;
    } in
    let r = unlaid_refuses c.args.raw.now b c.in_err-slot.ensures.refused refl refl refl in
    on_err c.from_residual.result _ (refused_entries c.args.raw.now b r)

pub returns-in-Err-clause-raw : goal.returns-in-Err-clause-raw
returns-in-Err-clause-raw c =
    let b : Raw = record c.args.raw.now {
      rows = c.remove.new.self;
      notes = c.append_linked_row.new.notes;
      links = c.append_linked_row.new.links;
      keys = c.find_or_make_head.new.keys;
      ends = c.find_or_make_head.new.ends;
      cells = c.find_or_make_head.new.cells;
    } in
    let r : Refuses c.args.raw.now b = record {
      kind = refl;
      key = refl;
      rows_law = c.laws.ensures;
      width = c.remove.ensures.width
          ∙ c.in_ok-slot.ensures.laid.width;
      rows = c.remove.ensures.removed c.args.raw.now.rows.rows
          (record {
            slot = c.in_ok-slot.slot;
            cells = c.args.tuple.now;
          }) [] c.in_ok-slot.ensures.laid.laid refl
          ∙ append-nil c.args.raw.now.rows.rows;
      room_notes = rw c.remove.ensures.room c.in_ok-slot.ensures.laid.room_notes;
      same_notes = c.in_ok-slot.ensures.laid.same_notes;
      marked = refl;
    } in
    refused_bare c.args.raw.now b c.requires.raw r

pub returns-in-Err-clause-heads : goal.returns-in-Err-clause-heads
returns-in-Err-clause-heads c =
    let b : Raw = record c.args.raw.now {
      rows = c.remove.new.self;
      notes = c.append_linked_row.new.notes;
      links = c.append_linked_row.new.links;
      keys = c.find_or_make_head.new.keys;
      ends = c.find_or_make_head.new.ends;
      cells = c.find_or_make_head.new.cells;
    } in
    let r : Refuses c.args.raw.now b = record {
      kind = refl;
      key = refl;
      rows_law = c.laws.ensures;
      width = c.remove.ensures.width
          ∙ c.in_ok-slot.ensures.laid.width;
      rows = c.remove.ensures.removed c.args.raw.now.rows.rows
          (record {
            slot = c.in_ok-slot.slot;
            cells = c.args.tuple.now;
          }) [] c.in_ok-slot.ensures.laid.laid refl
          ∙ append-nil c.args.raw.now.rows.rows;
      room_notes = rw c.remove.ensures.room c.in_ok-slot.ensures.laid.room_notes;
      same_notes = c.in_ok-slot.ensures.laid.same_notes;
      marked = refl;
    } in
    let h : RefusesHead c.args.raw.now b = record {
      room_links = rw c.remove.ensures.room
          c.in_ok-slot.ensures.links;
      same_links = c.in_ok-slot.ensures.same_links;
      keys_law = c.in-Err.ensures.rows;
      keys_width = c.in-Err.ensures.width;
      keys = c.in-Err.ensures.refused;
      room_ends = c.in-Err.ensures.ends;
      same_ends = c.in-Err.ensures.refused_ends;
    } in
    refused_heads c.args.raw.now b c.requires.heads r h

pub returns-in-Err-clause-refused : goal.returns-in-Err-clause-refused
returns-in-Err-clause-refused c =
    let b : Raw = record c.args.raw.now {
      rows = c.remove.new.self;
      notes = c.append_linked_row.new.notes;
      links = c.append_linked_row.new.links;
      keys = c.find_or_make_head.new.keys;
      ends = c.find_or_make_head.new.ends;
      cells = c.find_or_make_head.new.cells;
    } in
    let r : Refuses c.args.raw.now b = record {
      kind = refl;
      key = refl;
      rows_law = c.laws.ensures;
      width = c.remove.ensures.width
          ∙ c.in_ok-slot.ensures.laid.width;
      rows = c.remove.ensures.removed c.args.raw.now.rows.rows
          (record {
            slot = c.in_ok-slot.slot;
            cells = c.args.tuple.now;
          }) [] c.in_ok-slot.ensures.laid.laid refl
          ∙ append-nil c.args.raw.now.rows.rows;
      room_notes = rw c.remove.ensures.room c.in_ok-slot.ensures.laid.room_notes;
      same_notes = c.in_ok-slot.ensures.laid.same_notes;
      marked = refl;
    } in
    refused_entries c.args.raw.now b r

pub init_note-requires : goal.init_note-requires
init_note-requires c =
    slot_notes c.args.raw.now c.append_linked_row.new.rows c.append_linked_row.new.notes.items c.in_ok-slot.slot
    c.args.tuple.now c.in_ok-slot.ensures.laid

pub join-requires-clause-slot : goal.join-requires-clause-slot
join-requires-clause-slot c =
    let r : IsLaidInto c.args.raw.now c.append_linked_row.new.rows c.append_linked_row.new.notes.items
    c.append_linked_row.new.links.items c.find_or_make_head.new.keys c.find_or_make_head.new.ends.items
    c.in_ok-slot.slot
    c.in-Ok.head c.args.tuple.now = record {
      laid = c.in_ok-slot.ensures.laid;
      room_links = c.in_ok-slot.ensures.links;
      same_links = c.in_ok-slot.ensures.same_links;
      longer = c.in_ok-slot.ensures.longer;
      keys_law = c.in-Ok.ensures.rows;
      keys_width = c.in-Ok.ensures.width;
      room_ends = c.in-Ok.ensures.ends;
      seat = subst (λ (key : List ℕ). IsSeat c.args.raw.now.keys.rows c.find_or_make_head.new.keys.rows
          c.args.raw.now.ends.items c.find_or_make_head.new.ends.items c.in-Ok.head
          (pick key c.args.tuple.now)) c.as_slice.ensures c.in-Ok.ensures.seated;
    } in
    slot_links c.args.raw.now c.append_linked_row.new.rows c.append_linked_row.new.notes.items
    c.append_linked_row.new.links.items c.find_or_make_head.new.keys c.find_or_make_head.new.ends.items
    c.in_ok-slot.slot
    c.in-Ok.head c.args.tuple.now c.requires.heads r

pub join-requires-clause-number : goal.join-requires-clause-number
join-requires-clause-number c =
    slot_number c.args.raw.now c.append_linked_row.new.rows c.append_linked_row.new.notes.items
    c.in_ok-slot.slot c.args.tuple.now c.in_ok-slot.ensures.laid

pub join-requires-clause-head : goal.join-requires-clause-head
join-requires-clause-head c =
    let r : IsLaidInto c.args.raw.now c.append_linked_row.new.rows c.append_linked_row.new.notes.items
    c.append_linked_row.new.links.items c.find_or_make_head.new.keys c.find_or_make_head.new.ends.items
    c.in_ok-slot.slot
    c.in-Ok.head c.args.tuple.now = record {
      laid = c.in_ok-slot.ensures.laid;
      room_links = c.in_ok-slot.ensures.links;
      same_links = c.in_ok-slot.ensures.same_links;
      longer = c.in_ok-slot.ensures.longer;
      keys_law = c.in-Ok.ensures.rows;
      keys_width = c.in-Ok.ensures.width;
      room_ends = c.in-Ok.ensures.ends;
      seat = subst (λ (key : List ℕ). IsSeat c.args.raw.now.keys.rows c.find_or_make_head.new.keys.rows
          c.args.raw.now.ends.items c.find_or_make_head.new.ends.items c.in-Ok.head
          (pick key c.args.tuple.now)) c.as_slice.ensures c.in-Ok.ensures.seated;
    } in
    head_ends c.args.raw.now c.append_linked_row.new.rows c.append_linked_row.new.notes.items
    c.append_linked_row.new.links.items c.find_or_make_head.new.keys c.find_or_make_head.new.ends.items
    c.in_ok-slot.slot
    c.in-Ok.head c.args.tuple.now c.requires.heads r

pub join-requires-clause-last : goal.join-requires-clause-last
join-requires-clause-last c =
    let r : IsLaidInto c.args.raw.now c.append_linked_row.new.rows c.append_linked_row.new.notes.items
    c.append_linked_row.new.links.items c.find_or_make_head.new.keys c.find_or_make_head.new.ends.items
    c.in_ok-slot.slot
    c.in-Ok.head c.args.tuple.now = record {
      laid = c.in_ok-slot.ensures.laid;
      room_links = c.in_ok-slot.ensures.links;
      same_links = c.in_ok-slot.ensures.same_links;
      longer = c.in_ok-slot.ensures.longer;
      keys_law = c.in-Ok.ensures.rows;
      keys_width = c.in-Ok.ensures.width;
      room_ends = c.in-Ok.ensures.ends;
      seat = subst (λ (key : List ℕ). IsSeat c.args.raw.now.keys.rows c.find_or_make_head.new.keys.rows
          c.args.raw.now.ends.items c.find_or_make_head.new.ends.items c.in-Ok.head
          (pick key c.args.tuple.now)) c.as_slice.ensures c.in-Ok.ensures.seated;
    } in
    last_links c.args.raw.now c.append_linked_row.new.rows c.append_linked_row.new.notes.items
    c.append_linked_row.new.links.items c.find_or_make_head.new.keys c.find_or_make_head.new.ends.items
    c.in_ok-slot.slot
    c.in-Ok.head c.args.tuple.now c.requires.heads r

pub returns-in-Ok-clause-raw : goal.returns-in-Ok-clause-raw
returns-in-Ok-clause-raw c =
    let s = c.init_note.ensures in
    let n : IsNoted c.args.marked c.args.raw.now c.init_note.new.raw c.append_linked_row.new.rows
    c.append_linked_row.new.notes.items c.in_ok-slot.slot c.in-Ok.head =
    record {
      kind = s.noted.kind;
      key = s.noted.key;
      rows_are = s.noted.rows_are;
      notes_are = s.noted.notes_are;
      marked = s.noted.marked;
    } in
    came_bare c.args.marked c.args.raw.now c.init_note.new.raw c.append_linked_row.new.rows
    c.append_linked_row.new.notes.items
    c.in_ok-slot.slot c.in-Ok.head c.args.tuple.now c.requires.raw c.requires.plain c.requires.absent
    c.in_ok-slot.ensures.laid n

pub returns-in-Ok-clause-heads : goal.returns-in-Ok-clause-heads
returns-in-Ok-clause-heads c =
    let r : IsLaidInto c.args.raw.now c.append_linked_row.new.rows c.append_linked_row.new.notes.items
    c.append_linked_row.new.links.items c.find_or_make_head.new.keys c.find_or_make_head.new.ends.items
    c.in_ok-slot.slot
    c.in-Ok.head c.args.tuple.now = record {
      laid = c.in_ok-slot.ensures.laid;
      room_links = c.in_ok-slot.ensures.links;
      same_links = c.in_ok-slot.ensures.same_links;
      longer = c.in_ok-slot.ensures.longer;
      keys_law = c.in-Ok.ensures.rows;
      keys_width = c.in-Ok.ensures.width;
      room_ends = c.in-Ok.ensures.ends;
      seat = subst (λ (key : List ℕ). IsSeat c.args.raw.now.keys.rows c.find_or_make_head.new.keys.rows
          c.args.raw.now.ends.items c.find_or_make_head.new.ends.items c.in-Ok.head
          (pick key c.args.tuple.now)) c.as_slice.ensures c.in-Ok.ensures.seated;
    } in
    let s = c.init_note.ensures in
    let n : IsNoted c.args.marked c.args.raw.now c.init_note.new.raw c.append_linked_row.new.rows
    c.append_linked_row.new.notes.items c.in_ok-slot.slot c.in-Ok.head =
    record {
      kind = s.noted.kind;
      key = s.noted.key;
      rows_are = s.noted.rows_are;
      notes_are = s.noted.notes_are;
      marked = s.noted.marked;
    } in
    came_heads c.args.marked c.args.raw.now c.init_note.new.raw c.append_linked_row.new.rows
    c.append_linked_row.new.notes.items
    c.append_linked_row.new.links.items c.find_or_make_head.new.keys c.find_or_make_head.new.ends.items
    c.in_ok-slot.slot
    c.in-Ok.head c.args.tuple.now c.requires.raw c.requires.plain c.requires.heads c.requires.absent r
    (record {
      noted = n;
      links_are = s.links ∙ c.join.ensures.links;
      keys_are = s.keys;
      ends_are = s.ends ∙ c.join.ensures.ends;
    })

pub returns-in-Ok-clause-inserted : goal.returns-in-Ok-clause-inserted
returns-in-Ok-clause-inserted c =
    let s = c.init_note.ensures in
    let n : IsNoted c.args.marked c.args.raw.now c.init_note.new.raw c.append_linked_row.new.rows
    c.append_linked_row.new.notes.items c.in_ok-slot.slot c.in-Ok.head =
    record {
      kind = s.noted.kind;
      key = s.noted.key;
      rows_are = s.noted.rows_are;
      notes_are = s.noted.notes_are;
      marked = s.noted.marked;
    } in
    came_inserted c.args.marked c.args.raw.now c.init_note.new.raw c.append_linked_row.new.rows
    c.append_linked_row.new.notes.items c.in_ok-slot.slot c.in-Ok.head c.args.tuple.now
    c.requires.raw c.requires.plain c.requires.absent c.in_ok-slot.ensures.laid n

pub returns-in-Ok-clause-at : goal.returns-in-Ok-clause-at
returns-in-Ok-clause-at c =
    let s = c.init_note.ensures in
    let n : IsNoted c.args.marked c.args.raw.now c.init_note.new.raw c.append_linked_row.new.rows
    c.append_linked_row.new.notes.items c.in_ok-slot.slot c.in-Ok.head =
    record {
      kind = s.noted.kind;
      key = s.noted.key;
      rows_are = s.noted.rows_are;
      notes_are = s.noted.notes_are;
      marked = s.noted.marked;
    } in
    subst (λ (p : Place). IsAt (entries_of c.init_note.new.raw) p c.args.tuple.now)
    (sym c.new.ensures)
    (came_at c.args.marked c.args.raw.now c.init_note.new.raw c.append_linked_row.new.rows
    c.append_linked_row.new.notes.items c.in_ok-slot.slot c.in-Ok.head c.args.tuple.now
    c.requires.raw c.requires.plain c.requires.absent c.in_ok-slot.ensures.laid n)
