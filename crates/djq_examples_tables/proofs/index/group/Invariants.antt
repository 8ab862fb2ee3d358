use Rattle.std.proofs.Common.{◌≡◌, drop}
use Rattle.djq_index.specs.Entries.{group_of, head_at}
use Rattle.djq_examples_tables.proofs.index.group.Given as goal

abbrev pub invariant-loop-step : goal.invariant-loop-step
invariant-loop-step g l = l.at ≡ head_at (drop l._step (group_of l.table.key l.table.entries l.cells))
