use Rattle.std.proofs.Common.{◌≡◌, length, take}
use Rattle.djq_index.specs.Tuple.{pick}
use Rattle.djq_index.proofs.heads.pick_into.Given as goal

abbrev pub invariant-loop-at : goal.invariant-loop-at
invariant-loop-at l = record {
  picked : take l.at l.cells ≡ pick (take l.at l.key) l.tuple;
  long : length l.cells ≡ length l.key;
}
