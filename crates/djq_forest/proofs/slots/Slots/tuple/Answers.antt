-- A slot with an entry is one of the slots, and its cells lie within theirs.
use Rattle.std.proofs.Common.{refl, sym, ◌∙◌, ap, List, ℕ, Some}
use Rattle.djq_forest.proofs.SlotChanges.{taken, entry_fits}
use Rattle.djq_forest.proofs.slots.Slots.tuple.Goals as goal

pub cells_of-requires : goal.cells_of-requires
cells_of-requires c =
    let t = taken c.self.inside.width c.self.inside.cells.items c.self.inside.notes.items c.args.slot
    (rw (← c.self.view_is) at c.requires) in
    entry_fits c.self.inside.width c.self.inside.cells.items c.self.inside.notes.items c.args.slot c.self.inside.width
    c.self.invariant t.within refl

pub returns : goal.returns
returns c =
    let t = taken c.self.inside.width c.self.inside.cells.items c.self.inside.notes.items c.args.slot
    (rw (← c.self.view_is) at c.requires) in
    rw (← c.self.view_is) (t.is ∙ ap (λ (u : List ℕ). Some u) (sym c.cells_of.ensures))
