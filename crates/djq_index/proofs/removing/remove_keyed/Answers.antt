-- By the groups' invariant a note names its group's head, and neighbours in a group are tuples' slots.
use Rattle.std.proofs.Common.{◌≡◌, refl, ◌∙◌, ap, arith, length-set}
use Rattle.djq_index.specs.declared.raw.Note.{Note}
use Rattle.djq_index.specs.declared.raw.Raw.{Raw}
use Rattle.djq_index.specs.Raw.{note_at}
use Rattle.djq_index.proofs.Removals.{find_row, its_held, its_room, its_head_held, its_head_room, its_prev_within}
use Rattle.djq_index.proofs.Removals.{its_next_within, Leaves, gone_bare, gone_heads, gone_removed, leaves_from}
use Rattle.djq_index.proofs.Removals.{goes_from}
use Rattle.djq_index.proofs.removing.remove_keyed.Goals as goal

pub note_of-head-requires : goal.note_of-head-requires
note_of-head-requires c =
    let f = find_row c.args.raw.now c.args.place c.requires.live.tuple c.requires.live.is_at in
    rw c.slot-slot.ensures (omega (
      arith,
      its_room c.args.raw.now c.args.place c.requires.live.tuple c.requires.raw f,
      c.requires.raw.notes,
    ))

pub next-requires : goal.next-requires
next-requires c =
    let f = find_row c.args.raw.now c.args.place c.requires.live.tuple c.requires.live.is_at in
    rw c.slot-slot.ensures
    (its_held c.args.raw.now c.args.place c.requires.live.tuple c.requires.raw f)

pub unlink-requires-clause-slot : goal.unlink-requires-clause-slot
unlink-requires-clause-slot c =
    let f = find_row c.args.raw.now c.args.place c.requires.live.tuple c.requires.live.is_at in
    rw c.slot-slot.ensures (omega (
      arith,
      its_room c.args.raw.now c.args.place c.requires.live.tuple c.requires.raw f,
      c.requires.heads.links,
    ))

pub unlink-requires-clause-head : goal.unlink-requires-clause-head
unlink-requires-clause-head c =
    let f = find_row c.args.raw.now c.args.place c.requires.live.tuple c.requires.live.is_at in
    let h : c.note_of-head.result.head ≡
    (note_at c.args.raw.now.notes.items c.args.place.slot).head = ap (λ (n : Note). n.head)
    (c.note_of-head.ensures ∙ ap (note_at c.args.raw.now.notes.items) c.slot-slot.ensures) in
    rw h (its_head_room c.args.raw.now c.args.place c.requires.live.tuple c.requires.raw
    c.requires.heads f)

pub unlink-requires-clause-prev : goal.unlink-requires-clause-prev
unlink-requires-clause-prev c =
    let f = find_row c.args.raw.now c.args.place c.requires.live.tuple c.requires.live.is_at in
    rw c.slot-slot.ensures
    (its_prev_within c.args.raw.now c.args.place c.requires.live.tuple c.requires.raw
    c.requires.heads f)

pub unlink-requires-clause-next : goal.unlink-requires-clause-next
unlink-requires-clause-next c =
    let f = find_row c.args.raw.now c.args.place c.requires.live.tuple c.requires.live.is_at in
    rw c.slot-slot.ensures
    (its_next_within c.args.raw.now c.args.place c.requires.live.tuple c.requires.raw
    c.requires.heads f)

pub prune-requires-clause-held : goal.prune-requires-clause-held
prune-requires-clause-held c =
    let f = find_row c.args.raw.now c.args.place c.requires.live.tuple c.requires.live.is_at in
    let h : c.note_of-head.result.head ≡
    (note_at c.args.raw.now.notes.items c.args.place.slot).head = ap (λ (n : Note). n.head)
    (c.note_of-head.ensures ∙ ap (note_at c.args.raw.now.notes.items) c.slot-slot.ensures) in
    rw h (its_head_held c.args.raw.now c.args.place c.requires.live.tuple c.requires.raw
    c.requires.heads f)

pub prune-requires-clause-head : goal.prune-requires-clause-head
prune-requires-clause-head c =
    let f = find_row c.args.raw.now c.args.place c.requires.live.tuple c.requires.live.is_at in
    let h : c.note_of-head.result.head ≡
    (note_at c.args.raw.now.notes.items c.args.place.slot).head = ap (λ (n : Note). n.head)
    (c.note_of-head.ensures ∙ ap (note_at c.args.raw.now.notes.items) c.slot-slot.ensures) in
    rw (c.unlink.ensures.ends, length-set, h)
    (its_head_room c.args.raw.now c.args.place c.requires.live.tuple c.requires.raw
    c.requires.heads f)

pub remove-requires : goal.remove-requires
remove-requires c =
    let f = find_row c.args.raw.now c.args.place c.requires.live.tuple c.requires.live.is_at in
    rw c.slot-slot.ensures
    (its_held c.args.raw.now c.args.place c.requires.live.tuple c.requires.raw f)

pub returns-clause-raw : goal.returns-clause-raw
returns-clause-raw c =
    let f = find_row c.args.raw.now c.args.place c.requires.live.tuple c.requires.live.is_at in
    let h : c.note_of-head.result.head ≡
    (note_at c.args.raw.now.notes.items c.args.place.slot).head = ap (λ (n : Note). n.head)
    (c.note_of-head.ensures ∙ ap (note_at c.args.raw.now.notes.items) c.slot-slot.ensures) in
    let b : Raw = record c.args.raw.now {
      rows = c.remove.new.self;
      links = c.unlink.new.links;
      keys = c.prune.new.keys;
      ends = c.unlink.new.ends;
      marked = c.first_mark_without-raw.result;
    } in
    let l : Leaves c.args.raw.now b c.args.place.slot c.next.result = leaves_from c.args.raw.now b
    c.args.place.slot c.slot-slot.result c.next.result c.slot-slot.ensures refl refl
    c.laws.ensures c.remove.ensures.width c.remove.ensures.room
    c.remove.ensures.removed refl c.first_mark_without-raw.ensures c.next.ensures in
    gone_bare c.args.raw.now b c.args.place c.requires.live.tuple c.next.result c.requires.raw f l

pub returns-clause-heads : goal.returns-clause-heads
returns-clause-heads c =
    let f = find_row c.args.raw.now c.args.place c.requires.live.tuple c.requires.live.is_at in
    let h : c.note_of-head.result.head ≡
    (note_at c.args.raw.now.notes.items c.args.place.slot).head = ap (λ (n : Note). n.head)
    (c.note_of-head.ensures ∙ ap (note_at c.args.raw.now.notes.items) c.slot-slot.ensures) in
    let b : Raw = record c.args.raw.now {
      rows = c.remove.new.self;
      links = c.unlink.new.links;
      keys = c.prune.new.keys;
      ends = c.unlink.new.ends;
      marked = c.first_mark_without-raw.result;
    } in
    let l : Leaves c.args.raw.now b c.args.place.slot c.next.result = leaves_from c.args.raw.now b
    c.args.place.slot c.slot-slot.result c.next.result c.slot-slot.ensures refl refl
    c.laws.ensures c.remove.ensures.width c.remove.ensures.room
    c.remove.ensures.removed refl c.first_mark_without-raw.ensures c.next.ensures in
    gone_heads c.args.raw.now b c.args.place c.requires.live.tuple c.next.result c.requires.raw
    c.requires.heads f
    (goes_from c.args.raw.now b c.args.place.slot c.slot-slot.result
    c.note_of-head.result.head c.next.result c.slot-slot.ensures h l c.unlink.ensures.links
    c.unlink.ensures.ends c.prune.ensures.rows c.prune.ensures.width c.prune.ensures.room
    c.prune.ensures.emptied c.prune.ensures.kept)

pub returns-clause-removed : goal.returns-clause-removed
returns-clause-removed c = λ u at.
    let f = find_row c.args.raw.now c.args.place u at in
    let b : Raw = record c.args.raw.now {
      rows = c.remove.new.self;
      links = c.unlink.new.links;
      keys = c.prune.new.keys;
      ends = c.unlink.new.ends;
      marked = c.first_mark_without-raw.result;
    } in
    let l : Leaves c.args.raw.now b c.args.place.slot c.next.result = leaves_from c.args.raw.now b
    c.args.place.slot c.slot-slot.result c.next.result c.slot-slot.ensures refl refl
    c.laws.ensures c.remove.ensures.width c.remove.ensures.room
    c.remove.ensures.removed refl c.first_mark_without-raw.ensures c.next.ensures in
    gone_removed c.args.raw.now b c.args.place u c.next.result c.requires.raw f l
