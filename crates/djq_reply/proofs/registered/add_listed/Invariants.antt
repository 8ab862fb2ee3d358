use Rattle.std.proofs.Common.{length}
use Rattle.djq_reply.proofs.Printing.{ListedSoFar}
use Rattle.djq_reply.proofs.registered.add_listed.Given as goal

abbrev pub invariant-variables : goal.invariant-variables
invariant-variables l = ListedSoFar l.names l.fn.variables l.rest l.fn.out l.out

abbrev pub decreases-variables : goal.decreases-variables
decreases-variables l = length l.rest
