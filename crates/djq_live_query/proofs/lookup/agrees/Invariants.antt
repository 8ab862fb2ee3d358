use Rattle.std.proofs.Common.{◌≡◌, ◌<◌, ℕ}
use Rattle.std.specs.Prelude.{slice_index}
use Rattle.djq_live_query.specs.Order.{cell_of_variable}
use Rattle.djq_live_query.proofs.lookup.agrees.Given as goal

abbrev pub invariant-loop-at : goal.invariant-loop-at
invariant-loop-at l =
    (j : ℕ) → j < l.at → slice_index l.fn.cells j ≡ cell_of_variable l.head l.fn.cells (slice_index l.head j)
