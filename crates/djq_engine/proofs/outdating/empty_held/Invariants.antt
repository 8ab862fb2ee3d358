use Rattle.std.proofs.Common.{◌≡◌, List, length, take}
use Rattle.std.specs.Prelude.{Option}
use Rattle.djq_live_query.specs.Live.{Live}
use Rattle.djq_reach.specs.Places.{place_at}
use Rattle.djq_engine.specs.Outdating.{AreReaders, ClearsLogs, reads_held}
use Rattle.djq_engine.proofs.outdating.empty_held.Given as goal

abbrev pub invariant-loop-at : goal.invariant-loop-at
invariant-loop-at l = record {
  long : length l.logs.items ≡ length l.fn.logs.items;
  cleared : (gs : List (Option Live)) → AreReaders l.catalog.relations l.readers.items gs
      → ClearsLogs (λ i. reads_held (take l.at l.held.lines) (place_at gs i)) l.fn.logs.items l.logs.items;
}
