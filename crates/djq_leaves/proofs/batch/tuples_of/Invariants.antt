use Rattle.std.proofs.Common.{take}
use Rattle.djq_leaves.specs.Batching.{AreTuplesOf}
use Rattle.djq_leaves.proofs.batch.tuples_of.Given as goal

abbrev pub invariant-rows : goal.invariant-rows
invariant-rows l = AreTuplesOf (take l.i l.rows) l.pattern l.tuples
