-- The count that is kept is that of the chained slots, by the invariant, and each of them gives one row.
use Rattle.std.proofs.Common.{◌∙◌, ap, length}
use Rattle.djq_arena.specs.Rows.{SlotRows}
use Rattle.djq_arena.proofs.Slots.{row_count}
use Rattle.djq_arena.proofs.arena.Arena.len.Goals as goal

pub returns : goal.returns
returns c = row_count c.self.inside.store c.self.invariant.0 ∙ ap (λ (v : SlotRows). length v.rows) c.self.view_is
