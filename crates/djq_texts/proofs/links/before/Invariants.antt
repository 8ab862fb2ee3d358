use Rattle.djq_arena.proofs.Buckets.{Searching}
use Rattle.djq_texts.proofs.links.before.Given as goal

abbrev pub invariant-loop-step : goal.invariant-loop-step
invariant-loop-step l = Searching l.links.items l.fn.head l.number l.before l.at l._step
