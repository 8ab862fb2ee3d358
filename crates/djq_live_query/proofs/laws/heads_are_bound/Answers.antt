-- A number of the head stands in some atom by number, and where it does its name stands in the query's atom.
use Rattle.djq_live_query.proofs.TreeAnswers.{heads_bound}
use Rattle.djq_live_query.proofs.laws.heads_are_bound.Goals as goal

pub returns : goal.returns
returns c = heads_bound
