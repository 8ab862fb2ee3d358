-- There is a member for each mask so far.
use Rattle.std.proofs.Common.{◌≤◌}
use Rattle.std.specs.Prelude.{vec_len}
use Rattle.djq_examples_store.proofs.union.Few.of.Given as goal

abbrev pub invariant-loop-mask : goal.invariant-loop-mask
invariant-loop-mask l = vec_len l.all ≤ l.mask-index
