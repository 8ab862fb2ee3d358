-- The lent places are the readers of the relation that was found, of which each has a log.
use Rattle.std.proofs.Common.{List, ℕ, sym, ap, ◌∙◌, arith}
use Rattle.djq_reach.specs.Places.{is_reader}
use Rattle.djq_engine.proofs.StoredRows.{places_read}
use Rattle.djq_engine.proofs.outdating.empty_readers.Goals as goal

pub empty_logs-requires : goal.empty_logs-requires
empty_logs-requires c i e =
    let places = places_read c.args.readers.now.items c.in-Some.id.at c.index.result.now c.as_slice.result.now
    (omega (arith, c.requires.long, c.in-Some.ensures.0)) c.index.ensures c.as_slice.ensures in
    c.requires.logged c.in-Some.id.at i (ap (λ (ps : List ℕ). is_reader ps i) (sym places) ∙ e)
