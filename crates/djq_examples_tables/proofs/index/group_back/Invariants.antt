use Rattle.djq_index.specs.Entries.{group_of}
use Rattle.djq_index.proofs.Groups.{Backing}
use Rattle.djq_examples_tables.proofs.index.group_back.Given as goal

abbrev pub invariant-loop-step : goal.invariant-loop-step
invariant-loop-step g l = Backing (group_of l.table.key l.table.entries l.cells) l.at
