-- An entry is a row of the arena with its copies, so its slot holds a row, whose cells are its tuple.
use Rattle.std.proofs.Common.{refl, subst, sym}
use Rattle.djq_index.specs.Table.{IsAt, IsOccupied}
use Rattle.djq_database.specs.Rows.{Rows, row_place}
use Rattle.djq_database.proofs.Slots.{live_held, at_row}
use Rattle.djq_database.proofs.rows.Rows.cells.Goals as goal

pub cells-requires : goal.cells-requires
cells-requires c =
    live_held c.self.inside.copies.items c.self.inside.arena.rows c.args.slot
    (subst (λ (r : Rows). IsOccupied r.entries (row_place c.args.slot)) (sym c.self.view_is) c.requires)

pub returns : goal.returns
returns c = λ u at.
    let r = at_row c.self.inside.copies.items c.self.inside.arena.rows c.args.slot u
    (subst (λ (r : Rows). IsAt r.entries (row_place c.args.slot) u) (sym c.self.view_is) at) in
    c.cells.ensures r.front (record { slot = c.args.slot; cells = u }) r.back r.is refl
