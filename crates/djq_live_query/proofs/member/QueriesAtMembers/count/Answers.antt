-- Each place has a query, so there are as many queries as places.
use Rattle.std.proofs.Common.{sym}
use Rattle.djq_live_query.proofs.Catalogs.{as_many}
use Rattle.djq_live_query.proofs.member.QueriesAtMembers.count.Goals as goal

pub returns-clause-count : goal.returns-clause-count
returns-clause-count c =
    sym (as_many c.args.self.now.queries.now c.args.self.now.places.now c.requires.each)
