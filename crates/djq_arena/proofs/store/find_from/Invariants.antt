use Rattle.djq_arena.proofs.Rows.{Seeking, chain_length}
use Rattle.djq_arena.proofs.store.find_from.Given as goal

abbrev pub invariant-loop-slot : goal.invariant-loop-slot
invariant-loop-slot l = Seeking l.store l.cells l.at 0

abbrev pub decreases-loop-slot : goal.decreases-loop-slot
decreases-loop-slot l = chain_length l.store.len l.store.bucket.items l.at
