use Rattle.std.proofs.Common.{◌≡◌, ◌≤◌, ◌+◌, ◌++◌, ℕ, true, length, map}
use Rattle.djq_hypergraph.specs.Hypergraph.{member}
use Rattle.djq_live_query.specs.Order.{cell_of_variable}
use Rattle.djq_live_query.proofs.lookup.rising_cells.Given as goal

abbrev pub invariant-loop-variable : goal.invariant-loop-variable
invariant-loop-variable l = record {
  picked : l.answer ++ map (cell_of_variable l.head l.cells) l.rest ≡ map (cell_of_variable l.head l.cells) l.fn.set;
  room : length l.answer + length l.rest ≤ 16;
  within : (x : ℕ) → member x l.rest ≡ true → member x l.head ≡ true;
}

abbrev pub decreases-loop-variable : goal.decreases-loop-variable
decreases-loop-variable l = length l.rest
