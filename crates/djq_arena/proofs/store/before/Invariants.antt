use Rattle.djq_arena.proofs.Buckets.{Searching}
use Rattle.djq_arena.proofs.store.before.Given as goal

abbrev pub invariant-loop-step : goal.invariant-loop-step
invariant-loop-step l = Searching l.bucket.items l.fn.head l.slot l.before l.at l._step
