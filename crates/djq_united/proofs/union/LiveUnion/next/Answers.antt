-- The cursor in the slot is one of the union's, so it fits the members, and what it gives is the union's.
use Rattle.djq_united.proofs.Cursors.{fits_seen, next_seen}
use Rattle.djq_united.proofs.union.LiveUnion.next.Goals as goal

pub read-requires-clause-fits : goal.read-requires-clause-fits
read-requires-clause-fits g c =
    fits_seen c.args.queries.now _ c.args.self.now c.as_slice-members.result.now c.args.slot _
    c.self.view_is c.as_slice-members.ensures c.requires.united c.progress_mut-progress.ensures.value

pub returns-clause-gives : goal.returns-clause-gives
returns-clause-gives g c = λ d kept.
    next_seen d c.args.queries.now _ c.args.self.now c.as_slice-members.result.now c.args.slot _ _
    c.read.result c.read.new.answer c.self.view_is c.as_slice-members.ensures kept
    c.requires.united c.progress_mut-progress.ensures.value c.read.ensures.reads
