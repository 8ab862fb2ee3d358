use Rattle.std.proofs.Common.{◌≡◌, ◌++◌, take, drop}
use Rattle.djq_io.specs.Failing.{after_call}
use Rattle.djq_io.proofs.failing.Failing.count_down.Given as goal

-- The calls before this place are counted down, and the others are as they were.
abbrev pub invariant-loop-call : goal.invariant-loop-call
invariant-loop-call l = l.call-items
    ≡ after_call (take l.call-index l.initial.call-items) ++ drop l.call-index l.initial.call-items
