-- The query that is read is the one in the place, of which is required that the cursor fits it.
use Rattle.djq_engine.specs.Moving.{IsFreshInSlot}
use Rattle.djq_engine.proofs.Cursors.{read_all}
use Rattle.djq_engine.proofs.reading.more_at.Goals as goal

pub more-requires-clause-fits : goal.more-requires-clause-fits
more-requires-clause-fits g c =
    (read_all c.args.queries.now.items c.args.at c.index_mut.result.now c.in-Some.query
    (IsFreshInSlot c.args.slot) c.requires c.index_mut.ensures.value c.in-Some.is).fits
