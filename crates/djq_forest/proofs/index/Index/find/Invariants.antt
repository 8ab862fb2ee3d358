use Rattle.std.proofs.Common.{length}
use Rattle.djq_arena.proofs.Rows.{chain_length}
use Rattle.djq_forest.proofs.IndexChanges.{Seeking}
use Rattle.djq_forest.proofs.index.Index.find.Given as goal

abbrev pub invariant-loop-slot : goal.invariant-loop-slot
invariant-loop-slot l = Seeking l.self.links.items l.slots.tuples l.tuple l.at

abbrev pub decreases-loop-slot : goal.decreases-loop-slot
decreases-loop-slot l = chain_length (length l.self.links.items) l.self.links.items l.at
