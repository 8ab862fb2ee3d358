-- A tuple's place is the slot of a row, and the tuple is that row's cells.
use Rattle.std.proofs.Common.{sym}
use Rattle.djq_index.proofs.Parts.{at_row, live_held}
use Rattle.djq_index.proofs.table.Table.tuple.Goals as goal

pub cells-requires : goal.cells-requires
cells-requires c =
    rw c.slot.ensures
    (live_held c.self.inside.raw.notes.items c.self.inside.raw.rows.rows c.args.place
    (rw (← c.self.view_is) at c.requires))

pub returns : goal.returns
returns c = rw (← c.self.view_is) (
    λ u at. let k = at_row c.self.inside.raw.notes.items c.self.inside.raw.rows.rows c.args.place u at in
    c.cells.ensures k.front (record { slot = c.args.place.slot; cells = u }) k.back k.is (sym c.slot.ensures))
