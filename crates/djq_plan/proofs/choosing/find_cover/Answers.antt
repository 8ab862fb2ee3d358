-- No label before the index contains this one and more, so the first that does is the lowest.
use Rattle.std.proofs.Common.{rules, arith, true}
use Rattle.djq_plan.proofs.Choices.{inside_read, cover_is, cover_none}
use Rattle.djq_hypergraph.proofs.JoinTrees.{read_at}
use Rattle.djq_plan.proofs.choosing.find_cover.Goals as goal

pub returns-then-is_inside : goal.returns-then-is_inside
returns-then-is_inside c = cover_is c.args.labels.now c.args.place c.loop-other.other (omega arith)
    (inside_read c.args.labels.now c.args.place c.loop-other.other _ _ _ true
    (read_at c.args.labels.now c.args.place c.index-labels-place.result (omega arith) c.index-labels-place.is)
    (read_at c.args.labels.now c.loop-other.other c.index-labels-other.result (omega arith) c.index-labels-other.is)
    c.is_inside.ensures (search rules)) c.loop-other.invariant

pub returns : goal.returns
returns c = cover_none c.args.labels.now c.args.place (λ i h. c.loop-other.invariant i (omega arith))
