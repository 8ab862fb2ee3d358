-- Without a fault no two places of a variable clash, so its type is that of each column where it stands.
use Rattle.djq_live_query.proofs.ColumnTypes.{numbered_asked}
use Rattle.djq_live_query.proofs.laws.numbered_is_asked.Goals as goal

pub returns : goal.returns
returns c = numbered_asked
