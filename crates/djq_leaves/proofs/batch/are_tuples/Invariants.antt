use Rattle.std.proofs.Common.{take}
use Rattle.djq_leaves.specs.Batching.{AreTuplesOf}
use Rattle.djq_leaves.proofs.batch.are_tuples.Given as goal

abbrev pub invariant-rows : goal.invariant-rows
invariant-rows l = AreTuplesOf (take l.i l.rows) l.pattern (take l.i l.rows)
