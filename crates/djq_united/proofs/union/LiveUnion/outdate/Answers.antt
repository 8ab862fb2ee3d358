-- A stale cursor fits whatever tables the members have, so queries of the same shape are enough.
use Rattle.djq_united.proofs.Cursors.{later_seen}
use Rattle.djq_united.proofs.union.LiveUnion.outdate.Goals as goal

pub returns-clause-united : goal.returns-clause-united
returns-clause-united c = λ old new united keep.
    later_seen old new _ c.args.self.now c.args.relation c.args.seq c.outdate.new.self
    c.self.view_is c.outdate.ensures united keep
