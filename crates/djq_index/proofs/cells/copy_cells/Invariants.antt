use Rattle.std.proofs.Common.{◌≡◌, length, take}
use Rattle.djq_index.proofs.cells.copy_cells.Given as goal

abbrev pub invariant-loop-at : goal.invariant-loop-at
invariant-loop-at l = record {
  same : take l.at l.into ≡ take l.at l.from;
  long : length l.into ≡ length l.from;
}
