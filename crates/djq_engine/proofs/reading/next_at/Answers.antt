-- The query that is read is the one in the place, of which is required that its cursors fit it.
use Rattle.djq_engine.specs.Moving.{IsReadableInSlot}
use Rattle.djq_engine.proofs.Cursors.{read_all}
use Rattle.djq_engine.proofs.reading.next_at.Goals as goal

pub next-requires-clause-fits : goal.next-requires-clause-fits
next-requires-clause-fits g c =
    (read_all c.args.queries.now.items c.args.at c.index_mut.result.now c.in-Some.query
    (IsReadableInSlot c.args.slot) c.requires c.index_mut.ensures.value c.in-Some.is).fits
