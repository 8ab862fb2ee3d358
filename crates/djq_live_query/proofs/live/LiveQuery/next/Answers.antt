-- An open cursor fits the tables, and different answers of the tree show different tuples of values.
use Rattle.std.proofs.Common.{length, arith}
use Rattle.djq_live_query.proofs.ShownAnswers.{next_gives, slot_fits, steps_more}
use Rattle.djq_live_query.proofs.HeadTuples.{narrow}
use Rattle.djq_live_query.proofs.live.LiveQuery.next.Goals as goal

pub read-requires : goal.read-requires
read-requires g c =
    slot_fits _ c.args.self.now c.args.slot _ c.self.view_is c.requires.fits
    c.progress_mut.ensures.value

pub returns-clause-gives : goal.returns-clause-gives
returns-clause-gives g c cat live =
    next_gives cat _ c.args.self.now c.args.slot _ _ c.read.result c.read.new.answer
    c.self.view_is live c.progress_mut.ensures.value c.read.ensures.reads

pub returns-clause-counted : goal.returns-clause-counted
returns-clause-counted g c cat live =
    let steps = steps_more c.read.result (length c.self.inside.reducts.tree.head)
    (length c.args.self.now.query.head) (narrow cat _ c.args.self.now c.self.view_is live) in
    let counted = c.read.ensures.counted in
    omega arith
