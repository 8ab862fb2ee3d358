use Rattle.std.proofs.Common.{◌≡◌, ◌++◌, length}
use Rattle.djq_query.proofs.bind.members.Given as goal

abbrev pub invariant-rest : goal.invariant-rest
invariant-rest l = l.members ++ l.rest ≡ l.fn.label

abbrev pub decreases-rest : goal.decreases-rest
decreases-rest l = length l.rest
