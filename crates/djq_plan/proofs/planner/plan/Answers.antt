-- A flat query's tree has equal meets alone, and equal meets make a query flat, as Flat shows.
use Rattle.djq_plan.specs.Plan.{IsPlan}
use Rattle.djq_plan.proofs.FlatQueries.{equal_meets, flat_from}
use Rattle.djq_plan.proofs.planner.plan.Goals as goal

pub returns-in-Some-clause-flat_ok : goal.returns-in-Some-clause-flat_ok
returns-in-Some-clause-flat_ok c =
    let edges = c.args.edges.now in
    let head = c.args.head.now in
    let t = c.in-Some.tree in
    let plan : IsPlan edges head t = rw c.in-Some.is at c.in_ok-tree.ensures.plan in
    (equal_meets edges head t plan.named plan.tree, flat_from edges head t c.requires.head plan.named)
