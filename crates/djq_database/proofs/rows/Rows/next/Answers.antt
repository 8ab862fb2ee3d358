-- The entries are the arena's rows in the same order, so the row behind a row is the entry behind.
use Rattle.std.proofs.Common.{◌∙◌, ap, subst, sym}
use Rattle.djq_index.specs.Table.{IsOccupied}
use Rattle.djq_database.specs.Rows.{Rows, row_place}
use Rattle.djq_database.proofs.Slots.{live_held, next_place}
use Rattle.djq_database.proofs.rows.Rows.next.Goals as goal

pub next-requires : goal.next-requires
next-requires g c =
    live_held c.self.inside.copies.items c.self.inside.arena.rows c.args.slot
    (subst (λ (r : Rows). IsOccupied r.entries (row_place c.args.slot)) (sym c.self.view_is) c.requires)

pub returns-clause-next : goal.returns-clause-next
returns-clause-next g c = λ xs e ys is at.
    next_place c.self.inside.copies.items c.self.inside.arena.rows xs e ys c.args.slot c.next.result
    (ap (λ (r : Rows). r.entries) c.self.view_is ∙ is) at c.next.ensures
