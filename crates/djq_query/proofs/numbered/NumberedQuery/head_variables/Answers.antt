-- The set has the numbers of the head up to the index, so with the next one it has those one place further.
use Rattle.djq_query.proofs.Atoms.{head_on}
use Rattle.djq_query.proofs.numbered.NumberedQuery.head_variables.Goals as goal

pub head-preserved : goal.head-preserved
head-preserved c =
    head_on c.args.self.now.head c.head-head.result.now c.head.variables c.insert-variables.result c.head.i 0
    c.head-head.ensures c.head-test.true c.insert-variables.ensures c.head.invariant
