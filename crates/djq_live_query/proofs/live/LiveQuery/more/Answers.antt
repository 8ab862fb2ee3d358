-- An open cursor fits the tables, and an answer of the tree is left exactly where one in values is.
use Rattle.std.proofs.Common.{arith}
use Rattle.djq_live_query.proofs.ShownAnswers.{more_gives, slot_fits}
use Rattle.djq_live_query.proofs.HeadTuples.{narrow}
use Rattle.djq_live_query.proofs.live.LiveQuery.more.Goals as goal

pub has_more-requires-clause-fits : goal.has_more-requires-clause-fits
has_more-requires-clause-fits g c =
    slot_fits _ c.args.self.now c.args.slot _ c.self.view_is c.requires.fits
    c.progress_mut.ensures.value

pub returns-clause-gives : goal.returns-clause-gives
returns-clause-gives g c cat live =
    more_gives cat _ c.args.self.now c.args.slot _ _ c.has_more.result c.self.view_is live
    c.progress_mut.ensures.value c.has_more.ensures.looks

pub returns-clause-counted : goal.returns-clause-counted
returns-clause-counted g c cat live =
    let short = narrow cat _ c.args.self.now c.self.view_is live in
    let counted = c.has_more.ensures.counted in
    omega arith
