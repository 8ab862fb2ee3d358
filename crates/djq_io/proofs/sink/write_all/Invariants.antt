use Rattle.std.proofs.Common.{◌≡◌, length, take, ◌-◌, ◌≤◌}
use Rattle.djq_io.specs.Written.{GainsBytes}
use Rattle.djq_io.proofs.sink.write_all.Given as goal

-- The part of the piece before `at` was taken, and no fault was met.
abbrev pub invariant-loop-at : goal.invariant-loop-at
invariant-loop-at g l = record {
  within : l.at ≤ length l.piece;
  gained : GainsBytes (g.K.Sink.told l.fn.sink) (g.K.Sink.told l.sink) (take l.at l.piece);
  faults : g.K.Sink.faults l.sink ≡ g.K.Sink.faults l.fn.sink;
}

abbrev pub decreases-loop-at : goal.decreases-loop-at
decreases-loop-at g l = length l.piece - l.at
