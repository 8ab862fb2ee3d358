use Rattle.std.proofs.Common.{◌≡◌, ℕ, ◌<◌, false}
use Rattle.std.specs.Prelude.{is_some}
use Rattle.djq_tree.specs.Choosing.{twin}
use Rattle.djq_plan.proofs.choosing.choose_twins.Given as goal

abbrev pub invariant-loop-guard : goal.invariant-loop-guard
invariant-loop-guard l = (i : ℕ) → i < l.guard → is_some (twin l.labels i) ≡ false
