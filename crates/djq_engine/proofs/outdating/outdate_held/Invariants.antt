use Rattle.std.proofs.Common.{take}
use Rattle.std.specs.Prelude.{true}
use Rattle.djq_store_spec.specs.Transaction.{first_read}
use Rattle.djq_engine.specs.Outdating.{AgesAll}
use Rattle.djq_engine.proofs.outdating.outdate_held.Given as goal

abbrev pub invariant-loop-at : goal.invariant-loop-at
invariant-loop-at l =
    AgesAll (first_read (take l.at l.held.lines) (λ name. true)) l.seq l.fn.queries.items l.queries.items
