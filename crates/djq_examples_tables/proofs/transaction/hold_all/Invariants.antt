-- The lines held so far suit the relation.
use Rattle.std.specs.Prelude.{All}
use Rattle.djq_transaction.specs.Net.{Suits}
use Rattle.djq_examples_tables.proofs.transaction.hold_all.Given as goal

abbrev pub invariant-loop-at : goal.invariant-loop-at
invariant-loop-at l = All (Suits l.fn.catalog.relations) l.transaction.lines
