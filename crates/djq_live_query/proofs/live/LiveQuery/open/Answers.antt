-- A cursor that has given nothing fits any tables, so the query goes with one cursor more.
use Rattle.djq_live_query.proofs.ShownAnswers.{open_live}
use Rattle.djq_live_query.proofs.live.LiveQuery.open.Goals as goal

pub returns-clause-live : goal.returns-clause-live
returns-clause-live c cat live =
    open_live cat _ c.args.self.now c.start.result c.open.new.self c.open.result c.self.view_is
    live c.start.ensures.fits c.open.ensures.ok c.open.ensures.err
