use Rattle.std.proofs.Common.{◌<◌, ◌≤◌}
use Rattle.djq_texts.proofs.room.fitting.Given as goal

abbrev pub invariant-loop-fit : goal.invariant-loop-fit
invariant-loop-fit l = record {
  some : 1 < l.fit;
  room : l.top < l.fit;
  fewer : l.fit ≤ l.buckets;
}

abbrev pub decreases-loop-fit : goal.decreases-loop-fit
decreases-loop-fit l = l.fit
