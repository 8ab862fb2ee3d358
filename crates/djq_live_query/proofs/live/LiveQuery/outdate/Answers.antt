-- A stale cursor has nothing to fit, so a query that is kept goes with its cursors once they are stale.
use Rattle.std.proofs.Common.{sym, subst}
use Rattle.djq_live_query.specs.Live.{Live, IsKept}
use Rattle.djq_live_query.proofs.ShownAnswers.{made_stale}
use Rattle.djq_live_query.proofs.live.LiveQuery.outdate.Goals as goal

pub returns-clause-live : goal.returns-clause-live
returns-clause-live c = λ d h. made_stale d (record {
  query = c.self.inside.query;
  numbered = c.self.inside.numbered;
  patterns = c.self.inside.patterns.items;
  reducts = c.self.inside.reducts;
  cursors = c.self.inside.cursors;
}) c.args.relation c.args.seq c.outdate.new.self c.outdate.ensures
    (subst (λ (l : Live). IsKept d l) (sym c.self.view_is) h)
