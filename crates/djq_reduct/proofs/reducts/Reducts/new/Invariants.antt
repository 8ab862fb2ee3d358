use Rattle.std.proofs.Common.{◌≡◌}
use Rattle.djq_reduct.proofs.Assignments.{empty_tables}
use Rattle.djq_reduct.proofs.reducts.Reducts.new.Given as goal

abbrev pub invariant-loop-node : goal.invariant-loop-node
invariant-loop-node l = l.tables.items ≡ empty_tables l.fn.tree l.node
