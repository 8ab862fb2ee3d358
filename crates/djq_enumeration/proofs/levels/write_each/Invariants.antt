use Rattle.std.proofs.Common.{◌≡◌, length, drop}
use Rattle.djq_enumeration.specs.Levels.{cells_put}
use Rattle.djq_enumeration.proofs.levels.write_each.Given as goal

abbrev pub invariant-loop-at : goal.invariant-loop-at
invariant-loop-at l = record {
  written : cells_put (drop l.at l.columns) (drop l.at l.tuple) l.answer ≡ cells_put l.columns l.tuple
      l.fn.answer;
  wide : length l.answer ≡ length l.fn.answer;
}
