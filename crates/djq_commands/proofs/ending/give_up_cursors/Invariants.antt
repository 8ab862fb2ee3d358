use Rattle.std.proofs.Common.{length}
use Rattle.djq_commands.proofs.CutReplies.{Giving}
use Rattle.djq_commands.proofs.ending.give_up_cursors.Given as goal

abbrev pub invariant-loop-id : goal.invariant-loop-id
invariant-loop-id l = Giving l.fn.engine l.fn.session l.engine l.session

abbrev pub decreases-loop-id : goal.decreases-loop-id
decreases-loop-id l = length l.session.cursors
