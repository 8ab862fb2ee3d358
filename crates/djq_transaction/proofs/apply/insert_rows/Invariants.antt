-- The rows that come of those up to a place are inserted.
use Rattle.std.proofs.Common.{◌≡◌, List}
use Rattle.djq_store_spec.specs.Held as spec
use Rattle.djq_transaction.specs.Applied.{IsJudged, HasFirst}
use Rattle.djq_transaction.proofs.apply.insert_rows.Given as goal

abbrev pub invariant-loop-place : goal.invariant-loop-place
invariant-loop-place g l = record {
  first : (lines : List spec.HeldLine) → IsJudged l.fn.catalog.relations l.fn.catalog.texts lines l.net
      → HasFirst l.fn.catalog.relations lines l.place l.catalog l.net;
  texts : l.catalog.texts ≡ l.fn.catalog.texts;
}
