use Rattle.std.proofs.Common.{◌≡◌, length}
use Rattle.djq_mirror.specs.Cells.{are_cells_in}
use Rattle.djq_mirror.proofs.cells.are_cells.Given as goal

abbrev pub invariant-cells : goal.invariant-cells
invariant-cells l = are_cells_in l.bytes ≡ are_cells_in l.rest

abbrev pub decreases-cells : goal.decreases-cells
decreases-cells l = length l.rest
