use Rattle.djq_leaves.specs.Batching.{batch_tuples}
use Rattle.djq_leaves.proofs.Batches.{AreSoFar}
use Rattle.djq_leaves.proofs.batch.tuples_of_all.Given as goal

abbrev pub invariant-atoms : goal.invariant-atoms
invariant-atoms l = AreSoFar l.relation l.rows l.atoms l.patterns l.j (batch_tuples l.rows l.batch.items)
