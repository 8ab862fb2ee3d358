-- Where a search finds a place the query is watched there, and where it finds none it isn't watched.
use Rattle.djq_session.proofs.Removals.{placed_any, placed_there}
use Rattle.djq_session.proofs.session.watches.place_near.Goals as goal

pub returns-clause-watched : goal.returns-clause-watched
returns-clause-watched g c = placed_any (λ q. g.Q.PartialEq.eq q c.args.query) c.args.watches.now c.place_of.result
    c.place_of.ensures

pub returns-clause-place : goal.returns-clause-place
returns-clause-place g c = placed_there (λ q. g.Q.PartialEq.eq q c.args.query) c.args.watches.now c.place_of.result
    c.place_of.ensures
