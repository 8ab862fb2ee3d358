use Rattle.std.proofs.Common.{◌≡◌, ℕ, ◌<◌, false, ◌&&◌}
use Rattle.std.specs.Prelude.{nat_lt}
use Rattle.djq_tree.specs.Choosing.{are_equal}
use Rattle.djq_plan.proofs.choosing.find_twin.Given as goal

abbrev pub invariant-loop-other : goal.invariant-loop-other
invariant-loop-other l = (i : ℕ) → i < l.other → (nat_lt l.place i && are_equal l.labels l.place i) ≡ false
