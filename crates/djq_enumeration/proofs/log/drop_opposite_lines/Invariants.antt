use Rattle.std.proofs.Common.{◌≡◌, ◌≤◌, length, take, drop}
use Rattle.djq_delta.proofs.Alone.{IsSettledSoFar}
use Rattle.djq_enumeration.specs.Log.{signed_lines}
use Rattle.djq_enumeration.proofs.log.drop_opposite_lines.Given as goal

-- the first lines are those that remain of the ones before; from here on all are as they were
abbrev pub invariant-loop-at : goal.invariant-loop-at
invariant-loop-at l = record {
  remaining : l.remaining ≤ l.at;
  long : length l.lines ≡ length l.fn.lines;
  rest : drop l.at l.lines ≡ drop l.at l.fn.lines;
  so_far : IsSettledSoFar (signed_lines (take l.at l.fn.lines)) (signed_lines (take l.remaining l.lines));
}
