-- What cursors are once the loan of the progress of one ends.
use Rattle.std.specs.Prelude.{ℕ, List, Option, Some, slice_set}
use Rattle.std.specs.Borrow.{Fml, Lends, MutBor, RattleType}
use Rattle.djq_cursors.specs.contracts.cursors.Cursors.{the_row as cursors_row}
use Rattle.djq_cursors.specs.contracts.progress.Progress.{the_row as progress_row}
use Rattle.djq_cursors.specs.declared.progress.Progress.{Progress}

-- once the loan ends, the slot has the progress that was written last
abbrev pub LendsCursor : (C : RattleType) → MutBor (List (Option (Progress C.Denot))) → ℕ
    → MutBor (Progress C.Denot) → Fml
LendsCursor C slots k lent = Lends (cursors_row C) (progress_row C) slots lent
    (λ p. slice_set slots.now k (Some p))
