-- No more numbers are wanted than were looked at.
use Rattle.std.proofs.Common.{◌≤◌}
use Rattle.djq_examples_store.proofs.union.agree.Given as goal

abbrev pub invariant-loop-n : goal.invariant-loop-n
invariant-loop-n g l = l.count ≤ l.n-counter
