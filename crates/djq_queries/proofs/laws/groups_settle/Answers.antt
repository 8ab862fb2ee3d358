-- Rows rise to the catalog between and fall from it, as the law of the net wants it.
use Rattle.djq_queries.proofs.Chains.{rows_fall, rows_rise}
use Rattle.djq_queries.proofs.laws.groups_settle.Goals as goal

pub returns : goal.returns
returns c x e d come gone q rises falls =
    c.net_deltas.ensures x.relations e.relations d.relations q (rows_rise x e come rises) (rows_fall e d gone falls)
