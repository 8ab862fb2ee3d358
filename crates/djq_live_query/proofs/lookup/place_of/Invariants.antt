use Rattle.djq_live_query.proofs.HeadTuples.{IsFrom}
use Rattle.djq_live_query.proofs.lookup.place_of.Given as goal

abbrev pub invariant-loop-at : goal.invariant-loop-at
invariant-loop-at l = IsFrom l.head l.variable l.at
