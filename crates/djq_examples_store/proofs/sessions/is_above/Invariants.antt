use Rattle.std.proofs.Common.{ℕ, ◌<◌, get_or}
use Rattle.djq_examples_store.proofs.sessions.is_above.Given as goal

abbrev pub invariant-loop-at : goal.invariant-loop-at
invariant-loop-at l = (k : ℕ) → k < l.at → get_or l.ids k 0 < l.id
