use Rattle.std.proofs.Common.{◌≡◌, ◌≤◌, ℕ, None, length}
use Rattle.djq_texts.specs.Known.{known_at}
use Rattle.djq_texts.proofs.room.top_of.Given as goal

abbrev pub invariant-loop-top : goal.invariant-loop-top
invariant-loop-top l = record {
  within : l.top ≤ length l.entries.items;
  free : (n : ℕ) → l.top ≤ n → known_at l.entries.items n ≡ None;
}

abbrev pub decreases-loop-top : goal.decreases-loop-top
decreases-loop-top l = l.top
