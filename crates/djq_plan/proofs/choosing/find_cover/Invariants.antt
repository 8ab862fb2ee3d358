use Rattle.std.proofs.Common.{◌≡◌, ℕ, ◌<◌, false}
use Rattle.djq_tree.specs.Choosing.{is_inside}
use Rattle.djq_plan.proofs.choosing.find_cover.Given as goal

abbrev pub invariant-loop-other : goal.invariant-loop-other
invariant-loop-other l = (i : ℕ) → i < l.other → is_inside l.labels l.place i ≡ false
