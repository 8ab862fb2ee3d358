use Rattle.std.proofs.Common.{◌≡◌, take}
use Rattle.djq_forest.proofs.index.are_all_same.Given as goal

abbrev pub invariant-loop-at : goal.invariant-loop-at
invariant-loop-at l = take l.at l.cells ≡ take l.at l.others
