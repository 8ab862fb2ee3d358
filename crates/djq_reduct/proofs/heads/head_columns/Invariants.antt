use Rattle.std.proofs.Common.{◌≡◌}
use Rattle.djq_reduct.specs.Heads.{head_columns}
use Rattle.djq_reduct.proofs.heads.head_columns.Given as goal

abbrev pub invariant-loop-node : goal.invariant-loop-node
invariant-loop-node l = l.all.items ≡ head_columns l.tree l.node
