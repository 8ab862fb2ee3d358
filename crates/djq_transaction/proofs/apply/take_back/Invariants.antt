-- The rows that came of the first so many are left.
use Rattle.std.proofs.Common.{◌≡◌, ◌≤◌, List}
use Rattle.djq_model.specs.declared.relation.Relation.{Relation}
use Rattle.djq_store_spec.specs.Held as spec
use Rattle.djq_transaction.specs.Applied.{HasFirst}
use Rattle.djq_transaction.proofs.apply.take_back.Given as goal

abbrev pub invariant-loop-left : goal.invariant-loop-left
invariant-loop-left g l = record {
  low : l.left ≤ l.count;
  first : (relations : List Relation) (lines : List spec.HeldLine)
      → HasFirst relations lines l.count l.fn.catalog l.net → HasFirst relations lines l.left l.catalog l.net;
  texts : l.catalog.texts ≡ l.fn.catalog.texts;
}

abbrev pub decreases-loop-left : goal.decreases-loop-left
decreases-loop-left g l = l.left
