-- A tuple's place is a row's slot; the first mark, if it goes, passes to the next row, as marks come last.
use Rattle.std.proofs.Common.{refl}
use Rattle.djq_index.specs.declared.raw.Raw.{Raw}
use Rattle.djq_index.proofs.Removals.{find_row, its_held, Leaves, gone_bare, gone_removed, leaves_from}
use Rattle.djq_index.proofs.removing.remove_bare.Goals as goal

pub next-requires : goal.next-requires
next-requires c =
    let f = find_row c.args.raw.now c.args.place c.requires.live.tuple c.requires.live.is_at in
    rw c.slot-slot.ensures
    (its_held c.args.raw.now c.args.place c.requires.live.tuple c.requires.raw f)

pub remove-requires : goal.remove-requires
remove-requires c =
    let f = find_row c.args.raw.now c.args.place c.requires.live.tuple c.requires.live.is_at in
    rw c.slot-slot.ensures
    (its_held c.args.raw.now c.args.place c.requires.live.tuple c.requires.raw f)

pub returns-clause-raw : goal.returns-clause-raw
returns-clause-raw c =
    let f = find_row c.args.raw.now c.args.place c.requires.live.tuple c.requires.live.is_at in
    let b : Raw = record c.args.raw.now { rows = c.remove.new.self; marked = c.first_mark_without-raw.result } in
    let l : Leaves c.args.raw.now b c.args.place.slot c.next.result = leaves_from c.args.raw.now b
    c.args.place.slot c.slot-slot.result c.next.result c.slot-slot.ensures refl refl
    c.laws.ensures c.remove.ensures.width c.remove.ensures.room
    c.remove.ensures.removed refl c.first_mark_without-raw.ensures c.next.ensures in
    gone_bare c.args.raw.now b c.args.place c.requires.live.tuple c.next.result c.requires.raw f l

pub returns-clause-removed : goal.returns-clause-removed
returns-clause-removed c = λ u at.
    let f = find_row c.args.raw.now c.args.place u at in
    let b : Raw = record c.args.raw.now { rows = c.remove.new.self; marked = c.first_mark_without-raw.result } in
    let l : Leaves c.args.raw.now b c.args.place.slot c.next.result = leaves_from c.args.raw.now b
    c.args.place.slot c.slot-slot.result c.next.result c.slot-slot.ensures refl refl
    c.laws.ensures c.remove.ensures.width c.remove.ensures.room
    c.remove.ensures.removed refl c.first_mark_without-raw.ensures c.next.ensures in
    gone_removed c.args.raw.now b c.args.place u c.next.result c.requires.raw f l
