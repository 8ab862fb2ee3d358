-- The copies, then whether the row is new, then its relation.
use Rattle.std.specs.Prelude.{◌≡◌, ◌≢◌, ◌⊎◌, true, is_some}
use Rattle.std.proofs.Common.{sym, ◌∙◌, inl, inr}
use Rattle.djq_transaction.proofs.Adding.{add_many, add_further, add_first}
use Rattle.djq_transaction.proofs.judge.has_no_place.Goals as goal
use Rattle.djq_transaction.proofs.judge.has_no_place.Goals.{then-is_some-via-then-is_some}
use Rattle.djq_transaction.proofs.judge.has_no_place.Goals.{then-is_some-via-else-is_some+then-copies-ne0}

pub returns-then-copies-ge-COPIES-clause-refuses : goal.returns-then-copies-ge-COPIES-clause-refuses
returns-then-copies-ge-COPIES-clause-refuses c = λ lines h n s e l.
    add_many c.args.catalog.now.relations lines h c.args.place c.args.copies e l c.if-copies-ge-COPIES.true

pub returns-then-is_some-clause-refuses : goal.returns-then-is_some-clause-refuses
returns-then-is_some-clause-refuses c = λ lines h n s e l.
    let old : (is_some c.args.place ≡ true) ⊎ (c.args.copies.before ≢ 0) = elim c.then-is_some.branch [
      | then-is_some-via-then-is_some w ↦ inl (sym c.is_some.ensures ∙ w.if-is_some.true)
      | then-is_some-via-else-is_some+then-copies-ne0 w ↦ inr w.if-copies-ne0.true
    ] in
    add_further c.args.catalog.now.relations lines h c.args.place c.args.copies e l c.if-copies-ge-COPIES.false old

pub returns-clause-refuses : goal.returns-clause-refuses
returns-clause-refuses c = λ lines h n s e l.
    add_first c.args.catalog.now.relations lines h c.args.place c.args.copies c.is_full.result e l
    c.if-copies-ge-COPIES.false (sym c.is_some.ensures ∙ c.if-is_some.false) c.if-copies-ne0.false
    (c.is_full.ensures lines h n s)
