use Rattle.std.proofs.Common.{◌≡◌, ◌+◌, ◌++◌, take, drop}
use Rattle.djq_forest.proofs.slots.overwrite.Given as goal

abbrev pub invariant-loop-at : goal.invariant-loop-at
invariant-loop-at l = l.cells.items
    ≡ take l.from l.fn.cells.items ++ take l.at l.new ++ drop (l.from + l.at) l.fn.cells.items
