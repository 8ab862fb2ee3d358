-- The cursor in the slot is one of the union's, so it fits the members, and what it tells is the union's.
use Rattle.djq_united.proofs.Cursors.{fits_seen, more_seen}
use Rattle.djq_united.proofs.union.LiveUnion.more.Goals as goal

pub has_more-requires-clause-fits : goal.has_more-requires-clause-fits
has_more-requires-clause-fits g c =
    fits_seen c.args.queries.now _ c.args.self.now c.as_slice-members.result.now c.args.slot _
    c.self.view_is c.as_slice-members.ensures c.requires.united c.progress_mut-progress.ensures.value

pub returns-clause-gives : goal.returns-clause-gives
returns-clause-gives g c = λ d kept.
    more_seen d c.args.queries.now _ c.args.self.now c.as_slice-members.result.now c.args.slot _ _
    c.has_more.result c.self.view_is c.as_slice-members.ensures kept c.requires.united
    c.progress_mut-progress.ensures.value c.has_more.ensures.looks
