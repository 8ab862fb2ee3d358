-- A flat query's tree has equal meets alone, which djq_plan shows in Flat of any tree of its edges.
use Rattle.djq_live_query.proofs.Costs.{flat_meets}
use Rattle.djq_live_query.proofs.laws.flat_meets_are_equal.Goals as goal

pub returns : goal.returns
returns c = flat_meets
