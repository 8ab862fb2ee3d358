-- The newest slot that the store keeps is the last of the rows' slots, by the invariant.
use Rattle.std.proofs.Common.{◌∙◌, ap}
use Rattle.djq_arena.specs.Chains.{last_of}
use Rattle.djq_arena.specs.Rows.{SlotRows, slots}
use Rattle.djq_arena.proofs.Slots.{last_row}
use Rattle.djq_arena.proofs.arena.Arena.last.Goals as goal

pub returns : goal.returns
returns c = c.get.ensures ∙ last_row c.self.inside.store c.self.invariant.0
    ∙ ap (λ (v : SlotRows). last_of (slots v.rows)) c.self.view_is
