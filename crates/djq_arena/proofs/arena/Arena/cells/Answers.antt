-- A row's slot lies within the arrays, by the invariant, and the row's cells are those that lie there.
use Rattle.std.proofs.Common.{◌∙◌}
use Rattle.djq_arena.proofs.Slots.{row_within, row_cells}
use Rattle.djq_arena.proofs.arena.Arena.cells.Goals as goal

pub cells_of-requires-clause-slot : goal.cells_of-requires-clause-slot
cells_of-requires-clause-slot c =
    row_within c.self.inside.store c.args.slot c.self.invariant.0 (rw (← c.self.view_is) at c.requires)

pub returns : goal.returns
returns c = rw (← c.self.view_is) (λ xs r ys is at.
    c.cells_of.ensures ∙ row_cells c.self.inside.store c.args.slot xs r ys is at)
