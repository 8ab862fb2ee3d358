-- No label between the place and the index is equal to the place's, so the first that is comes next.
use Rattle.std.proofs.Common.{rules, arith}
use Rattle.djq_plan.proofs.Choices.{equal_read, twin_is, twin_none}
use Rattle.djq_hypergraph.proofs.JoinTrees.{read_at}
use Rattle.djq_plan.proofs.choosing.find_twin.Goals as goal

pub returns-then-are_equal : goal.returns-then-are_equal
returns-then-are_equal c = twin_is c.args.labels.now c.args.place c.loop-other.other (omega arith) (omega arith)
    (equal_read c.args.labels.now c.args.place c.loop-other.other _ _ _
    (read_at c.args.labels.now c.args.place c.index-labels-place.result (omega arith) c.index-labels-place.is)
    (read_at c.args.labels.now c.loop-other.other c.index-labels-other.result (omega arith) c.index-labels-other.is)
    c.are_equal.ensures (search rules)) c.loop-other.invariant

pub returns : goal.returns
returns c = twin_none c.args.labels.now c.args.place (λ i h. c.loop-other.invariant i (omega arith))
