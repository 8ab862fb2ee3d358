-- The entries are the arena's rows with their copies, so there are as many.
use Rattle.std.proofs.Common.{◌∙◌, ap, length}
use Rattle.djq_database.specs.Rows.{Rows}
use Rattle.djq_database.proofs.Slots.{entries_long}
use Rattle.djq_database.proofs.rows.Rows.len.Goals as goal

pub returns : goal.returns
returns c =
    c.len.ensures ∙ entries_long c.self.inside.copies.items c.self.inside.arena.rows
    ∙ ap (λ (r : Rows). length r.entries) c.self.view_is
