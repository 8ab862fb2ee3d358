-- The calls up to the index are one nearer each, and the one that was the next is now counted as failed.
use Rattle.std.proofs.Common.{rules, arith, ◌-◌, ◌++◌, length, take, drop}
use Rattle.std.proofs.lemmas.Grind.{common_steps}
use Rattle.djq_io.proofs.Failures.{counts_down}
use Rattle.djq_io.proofs.Hubs.{mapped_more}
use Rattle.djq_io.proofs.failing.Failing.count_down.Goals as goal

-- One more of the calls is counted down.
pub loop-call-preserved : goal.loop-call-preserved
loop-call-preserved c = mapped_more (λ call. call - 1) _ _ _ 0 _ (omega arith) c.loop-call.invariant
    c.saturating_sub.ensures

-- The calls at the end are all counted down.
pub returns-clause-faults : goal.returns-clause-faults
returns-clause-faults c =
    let calls = c.loop-call.call-items in
    let end = take c.self.inside.calls.len (calls ++ drop (length calls) c.self.inside.calls.items) in
    counts_down c.contains-due.result c.args.self.now end (search rules)
    (first_of (search rules, grind (arith, common_steps)))
