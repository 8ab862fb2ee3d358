use Rattle.std.proofs.Common.{◌≡◌, ◌*◌, ◌≤◌, take}
use Rattle.djq_engine.specs.Sizes.{rows_together}
use Rattle.djq_engine.proofs.sizes.row_total.Given as goal

abbrev pub invariant-loop-at : goal.invariant-loop-at
invariant-loop-at l = record {
  total : l.total ≡ rows_together (take l.at l.catalog.relations);
  small : l.total ≤ l.at * 18446744073709551615;
}
