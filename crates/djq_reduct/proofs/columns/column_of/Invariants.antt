use Rattle.std.proofs.Common.{◌≡◌, length, ◌+◌}
use Rattle.djq_reduct.specs.Columns.{column}
use Rattle.djq_reduct.proofs.columns.column_of.Given as goal

abbrev pub invariant-loop-column : goal.invariant-loop-column
invariant-loop-column l = record {
  place : column l.label l.variable ≡ l.column + column l.rest l.variable;
  left : l.column + length l.rest ≡ length l.label;
}
