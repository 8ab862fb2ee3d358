use Rattle.std.proofs.Common.{◌≡◌, drop}
use Rattle.djq_store_spec.specs.Union.{stands_twice}
use Rattle.djq_store.proofs.judging.stands_twice.Given as goal

abbrev pub invariant-loop-nth : goal.invariant-loop-nth
invariant-loop-nth l = stands_twice (drop l.nth l.names) ≡ stands_twice l.names
