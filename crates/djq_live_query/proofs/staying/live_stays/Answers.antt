-- Where no rows change, tables stay those of the query, and known texts keep their values.
use Rattle.djq_live_query.proofs.ShownAnswers.{stays_lives}
use Rattle.djq_live_query.proofs.staying.live_stays.Goals as goal

pub returns : goal.returns
returns c = stays_lives
