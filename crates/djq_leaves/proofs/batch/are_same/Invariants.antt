use Rattle.std.proofs.Common.{◌≡◌, take}
use Rattle.djq_leaves.proofs.batch.are_same.Given as goal

abbrev pub invariant-loop-at : goal.invariant-loop-at
invariant-loop-at l = take l.at l.cells ≡ take l.at l.others
