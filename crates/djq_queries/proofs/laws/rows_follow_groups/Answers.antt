use Rattle.djq_queries.proofs.Chains.{rows_fall, rows_rise}
use Rattle.djq_queries.proofs.laws.rows_follow_groups.Goals as goal

pub returns-clause-come : goal.returns-clause-come
returns-clause-come c = rows_rise

pub returns-clause-go : goal.returns-clause-go
returns-clause-go c = rows_fall
