-- Known texts keep their cells, and a tuple gives one row only, so no other row's tuple is lost, in Changing.
use Rattle.djq_live_query.proofs.Catalogs.{over_loses}
use Rattle.djq_live_query.proofs.changes.over_loses.Goals as goal

pub returns : goal.returns
returns c = over_loses
