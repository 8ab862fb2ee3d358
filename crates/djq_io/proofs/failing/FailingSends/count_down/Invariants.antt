use Rattle.std.proofs.Common.{◌≡◌, ◌++◌, take, drop}
use Rattle.djq_io.specs.FailingSends.{after_send}
use Rattle.djq_io.proofs.failing.FailingSends.count_down.Given as goal

-- The sends before this place are counted down, and the others are as they were.
abbrev pub invariant-loop-f : goal.invariant-loop-f
invariant-loop-f l = l.f-items ≡ after_send l.id (take l.f-index l.initial.f-items) ++ drop l.f-index l.initial.f-items
