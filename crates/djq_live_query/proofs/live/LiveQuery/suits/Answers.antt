-- A name of the head and its number have one type, so the types of the answers are those of the numbers.
use Rattle.djq_live_query.proofs.HeadTuples.{tells_type, tells_none}
use Rattle.djq_live_query.proofs.live.LiveQuery.suits.Goals as goal

pub returns-then-not-suits_head-clause-err : goal.returns-then-not-suits_head-clause-err
returns-then-not-suits_head-clause-err c cat live =
    tells_type cat _ c.args.self.now c.variables.result.now c.head-head.result.now c.args.tuple.now
    c.suits_head.result c.self.view_is live c.variables.ensures c.head-head.ensures
    c.if-tuple-head.false c.suits_head.ensures c.if-not-suits_head.true

pub returns-clause-ok : goal.returns-clause-ok
returns-clause-ok c cat live =
    tells_none cat _ c.args.self.now c.variables.result.now c.head-head.result.now c.args.tuple.now
    c.suits_head.result c.self.view_is live c.variables.ensures c.head-head.ensures
    c.if-tuple-head.false c.suits_head.ensures c.if-not-suits_head.false
