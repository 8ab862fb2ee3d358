-- A query in one of the places is one of all the queries, each of which is kept over some catalog.
use Rattle.djq_live_query.proofs.Catalogs.{are_kept}
use Rattle.djq_live_query.proofs.member.queries_are_kept.Goals as goal

pub returns : goal.returns
returns c = are_kept
