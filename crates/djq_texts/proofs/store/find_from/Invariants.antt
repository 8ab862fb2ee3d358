use Rattle.std.proofs.Common.{length}
use Rattle.djq_texts.proofs.Search.{Seeking, chain_length}
use Rattle.djq_texts.proofs.store.find_from.Given as goal

abbrev pub invariant-loop-number : goal.invariant-loop-number
invariant-loop-number l = Seeking l.store.entries.items l.store.links.items l.text l.at

abbrev pub decreases-loop-number : goal.decreases-loop-number
decreases-loop-number l = chain_length (length l.store.entries.items) l.store.links.items l.at
