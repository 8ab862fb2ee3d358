use Rattle.std.proofs.Common.{take}
use Rattle.djq_engine.specs.Outdating.{AgesAll, first_of_names}
use Rattle.djq_engine.proofs.outdating.outdate_changed.Given as goal

abbrev pub invariant-loop-at : goal.invariant-loop-at
invariant-loop-at l = AgesAll (first_of_names (take l.at l.relations)) l.seq l.fn.queries.items l.queries.items
