-- By the invariant a row's slot is within the chain, and what is linked before it is the earlier row's.
use Rattle.std.proofs.Common.{◌∙◌, ap}
use Rattle.djq_arena.specs.declared.chain.Pair.{Pair}
use Rattle.djq_arena.proofs.Slots.{row_within, row_prev}
use Rattle.djq_arena.proofs.arena.Arena.prev.Goals as goal

pub pair_of-requires : goal.pair_of-requires
pair_of-requires c =
    row_within c.self.inside.store c.args.slot c.self.invariant.0 (rw (← c.self.view_is) at c.requires)

pub returns : goal.returns
returns c = rw (← c.self.view_is) (λ xs r ys is at.
    c.get.ensures ∙ ap (λ (p : Pair). p.prev) c.pair_of.ensures
    ∙ row_prev c.self.inside.store c.args.slot xs r ys c.self.invariant.0 is at)
