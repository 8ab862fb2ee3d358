-- The lines up to a place are judged.
use Rattle.std.specs.Prelude.{◌≡◌, take}
use Rattle.djq_transaction.proofs.Transactions.{Judged}
use Rattle.djq_transaction.proofs.transaction.judge_lines.Given as goal

abbrev pub invariant-loop-at : goal.invariant-loop-at
invariant-loop-at g l = record {
  judged : Judged l.fn.catalog.relations l.fn.catalog.texts l.catalog.texts l.width
      (take l.at l.transaction.lines) l.net;
  same : l.catalog.relations ≡ l.fn.catalog.relations;
}
