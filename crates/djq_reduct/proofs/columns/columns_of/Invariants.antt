use Rattle.std.proofs.Common.{◌≡◌, ◌++◌, length}
use Rattle.djq_reduct.specs.Columns.{columns}
use Rattle.djq_reduct.proofs.columns.columns_of.Given as goal

abbrev pub invariant-loop-variable : goal.invariant-loop-variable
invariant-loop-variable l = l.columns.items ++ columns l.label l.rest ≡ columns l.label l.fn.key

abbrev pub decreases-loop-variable : goal.decreases-loop-variable
decreases-loop-variable l = length l.rest
