use Rattle.std.proofs.Common.{◌≡◌, ℕ, ◌<◌, false}
use Rattle.std.specs.Prelude.{is_some}
use Rattle.djq_tree.specs.Choosing.{cover}
use Rattle.djq_plan.proofs.choosing.choose_covered.Given as goal

abbrev pub invariant-loop-side : goal.invariant-loop-side
invariant-loop-side l = (i : ℕ) → i < l.side → is_some (cover l.labels i) ≡ false
