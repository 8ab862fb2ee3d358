-- The columns 2 and 0 are below the width of the tuple, which has three cells.
use Rattle.std.proofs.Common.{arith}
use Rattle.djq_index.specs.Table.{AreColumns}
use Rattle.djq_examples_tables.proofs.index.writes_cells.Goals as goal

pub take_part-requires-clause-within : goal.take_part-requires-clause-within
unfolding AreColumns
take_part-requires-clause-within g c = (omega arith, (omega arith, tt))
