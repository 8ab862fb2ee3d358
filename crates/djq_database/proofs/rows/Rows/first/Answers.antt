-- The entries are the arena's rows in the same order, so the oldest row is the first entry.
use Rattle.std.proofs.Common.{◌∙◌, ap}
use Rattle.djq_index.specs.Entries.{head_at}
use Rattle.djq_database.specs.Rows.{Rows, row_place_of}
use Rattle.djq_database.proofs.Slots.{first_place}
use Rattle.djq_database.proofs.rows.Rows.first.Goals as goal

pub returns-clause-first : goal.returns-clause-first
returns-clause-first g c =
    ap row_place_of c.first.ensures
    ∙ first_place c.self.inside.copies.items c.self.inside.arena.rows
    ∙ ap (λ (r : Rows). head_at r.entries) c.self.view_is
