use Rattle.std.proofs.Common.{◌≡◌, drop}
use Rattle.djq_index.specs.Entries.{marks, head_at}
use Rattle.djq_examples_tables.proofs.index.marked.Given as goal

abbrev pub invariant-loop-step : goal.invariant-loop-step
invariant-loop-step g l = l.at ≡ head_at (drop l._step (marks l.table.entries))
