use Rattle.std.proofs.Common.{take}
use Rattle.djq_reach.specs.Tending.{Empties}
use Rattle.djq_reach.proofs.reach.empty_logs.Given as goal

abbrev pub invariant-loop-nth : goal.invariant-loop-nth
invariant-loop-nth l = Empties (take l.nth l.places) l.fn.logs.items l.logs.items
