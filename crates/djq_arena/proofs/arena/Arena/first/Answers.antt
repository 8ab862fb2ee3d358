-- The oldest slot that the store keeps is the first of the rows' slots, by the invariant.
use Rattle.std.proofs.Common.{◌∙◌, ap}
use Rattle.djq_arena.specs.Chains.{first_of}
use Rattle.djq_arena.specs.Rows.{SlotRows, slots}
use Rattle.djq_arena.proofs.Slots.{first_row}
use Rattle.djq_arena.proofs.arena.Arena.first.Goals as goal

pub returns : goal.returns
returns c = c.get.ensures ∙ first_row c.self.inside.store c.self.invariant.0
    ∙ ap (λ (v : SlotRows). first_of (slots v.rows)) c.self.view_is
