use Rattle.std.proofs.Common.{◌≡◌, map, take}
use Rattle.djq_live_query.specs.Headed.{head_cell}
use Rattle.djq_live_query.proofs.headed.head_cells.Given as goal

abbrev pub invariant-loop-at : goal.invariant-loop-at
invariant-loop-at l = l.cells.items ≡ map (head_cell l.variables l.set) (take l.at l.head)
