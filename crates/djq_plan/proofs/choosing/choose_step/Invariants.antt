use Rattle.std.proofs.Common.{◌≡◌, ℕ, ◌<◌, false}
use Rattle.djq_tree.specs.Choosing.{has_removable}
use Rattle.djq_plan.proofs.choosing.choose_step.Given as goal

abbrev pub invariant-loop-place : goal.invariant-loop-place
invariant-loop-place l = (i : ℕ) → i < l.place → has_removable l.keep l.labels i ≡ false
