-- By the walk's invariant, held slots that aren't ahead have other cells; what is ahead gets shorter.
use Rattle.std.proofs.Common.{◌<◌, sym, subst, length, Option, ℕ, rules}
use Rattle.djq_arena.proofs.Rows.{Seeking, seeking, over, stop, stop_within, found, onward, nearer, class_inside}
use Rattle.djq_arena.proofs.store.find_from.Goals as goal

pub loop-slot-init : goal.loop-slot-init
loop-slot-init c = seeking c.args.store.now c.args.cells.now c.args.head c.requires.sound
    (class_inside (length c.args.store.now.heads.items) c.args.cells.now c.requires.sound.store.some) c.requires.head

pub cells_of-requires-clause-slot : goal.cells_of-requires-clause-slot
cells_of-requires-clause-slot c =
    stop_within c.args.store.now c.args.cells.now c.in-Some.slot 0 c.requires.sound
    (stop c.args.store.now c.args.cells.now c.in-Some.slot 0
    (subst (λ (o : Option ℕ). Seeking c.args.store.now c.args.cells.now o 0) (sym c.in-Some.ensures)
    c.loop-slot.invariant))

pub returns-then-are_same : goal.returns-then-are_same
returns-then-are_same c =
    found c.args.store.now c.args.cells.now c.in-Some.slot 0
    (stop c.args.store.now c.args.cells.now c.in-Some.slot 0
    (subst (λ (o : Option ℕ). Seeking c.args.store.now c.args.cells.now o 0) (sym c.in-Some.ensures)
    c.loop-slot.invariant))
    (search rules)

pub link_of-at-requires : goal.link_of-at-requires
link_of-at-requires c =
    subst (λ n. c.in-Some.slot < n) (sym c.requires.sound.store.pairs)
    (stop_within c.args.store.now c.args.cells.now c.in-Some.slot 0 c.requires.sound
    (stop c.args.store.now c.args.cells.now c.in-Some.slot 0
    (subst (λ (o : Option ℕ). Seeking c.args.store.now c.args.cells.now o 0) (sym c.in-Some.ensures)
    c.loop-slot.invariant)))

pub loop-slot-smaller : goal.loop-slot-smaller
loop-slot-smaller c =
    nearer c.args.store.now c.args.cells.now c.in-Some.slot c.loop-slot.at _ c.loop-slot.invariant
    (sym c.in-Some.ensures) c.link_of-at.ensures

pub loop-slot-preserved : goal.loop-slot-preserved
loop-slot-preserved c =
    onward c.args.store.now c.args.cells.now c.in-Some.slot _
    (stop c.args.store.now c.args.cells.now c.in-Some.slot 0
    (subst (λ (o : Option ℕ). Seeking c.args.store.now c.args.cells.now o 0) (sym c.in-Some.ensures)
    c.loop-slot.invariant))
    (search rules) c.link_of-at.ensures

pub returns : goal.returns
returns c = over c.args.store.now c.args.cells.now c.loop-slot.at 0 c.loop-slot.invariant (search rules)
