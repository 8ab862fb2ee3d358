-- The values up to a place are appended.
use Rattle.std.specs.Prelude.{◌≡◌, ◌++◌, take}
use Rattle.djq_transaction.proofs.held.append_row.Given as goal

abbrev pub invariant-loop-at : goal.invariant-loop-at
invariant-loop-at l = l.values.items ≡ l.fn.values.items ++ take l.at l.row
