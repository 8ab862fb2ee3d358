-- The rows up to a place that don't come have their copies.
use Rattle.std.proofs.Common.{◌≡◌, List}
use Rattle.djq_model.specs.declared.relation.Relation.{Relation}
use Rattle.djq_store_spec.specs.Held as spec
use Rattle.djq_transaction.specs.Applied.{HasAllInserted, HasChangedFirst}
use Rattle.djq_transaction.proofs.apply.remove_rows.Given as goal

abbrev pub invariant-loop-place : goal.invariant-loop-place
invariant-loop-place g l = record {
  changed : (relations : List Relation) (lines : List spec.HeldLine)
      → HasAllInserted relations lines l.fn.catalog l.net
      → HasChangedFirst relations lines l.place l.catalog l.net;
  texts : l.catalog.texts ≡ l.fn.catalog.texts;
}
