use Rattle.std.proofs.Common.{◌≡◌, take}
use Rattle.djq_index.specs.Tuple.{pick}
use Rattle.djq_index.proofs.cells.Cells.take_part.Given as goal

abbrev pub invariant-loop-column : goal.invariant-loop-column
invariant-loop-column l = l.self ≡ pick (take l.column-index l.columns) l.tuple
