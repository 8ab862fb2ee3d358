use Rattle.std.proofs.Common.{◌≡◌, ◌++◌, take, drop, map}
use Rattle.djq_io.specs.SessionsInside.{after_fault}
use Rattle.djq_io.proofs.sessions.Sessions.count_fault.Given as goal

-- The sessions before this place are counted, where they have the id, and the others are as they were.
abbrev pub invariant-loop-x : goal.invariant-loop-x
invariant-loop-x l = l.x-items
    ≡ map (after_fault l.id) (take l.x-index l.initial.x-items) ++ drop l.x-index l.initial.x-items
