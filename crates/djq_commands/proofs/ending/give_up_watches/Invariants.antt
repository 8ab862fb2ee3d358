use Rattle.std.proofs.Common.{length}
use Rattle.djq_commands.proofs.Watchers.{GivingWatches}
use Rattle.djq_commands.proofs.ending.give_up_watches.Given as goal

abbrev pub invariant-loop-query : goal.invariant-loop-query
invariant-loop-query l = GivingWatches l.fn.engine l.fn.session l.engine l.session

abbrev pub decreases-loop-query : goal.decreases-loop-query
decreases-loop-query l = length l.session.watches
