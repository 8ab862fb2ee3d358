use Rattle.std.proofs.Common.{take}
use Rattle.std.specs.Prelude.{◌&&◌}
use Rattle.djq_reach.specs.Places.{is_reader, watched_at}
use Rattle.djq_queries.specs.Settling.{SettlesLogs}
use Rattle.djq_queries.proofs.settling.settle_watched.Given as goal

abbrev pub invariant-loop-nth : goal.invariant-loop-nth
invariant-loop-nth l = SettlesLogs (λ i. is_reader (take l.nth l.places) i && watched_at l.watchers i) l.fn.logs.items
    l.logs.items
