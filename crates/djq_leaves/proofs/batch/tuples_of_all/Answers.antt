-- Up to the index each atom over the relation has its rows' tuples, whether they were made or are the rows.
use Rattle.std.proofs.Common.{List, [], ◌∷◌, ap, ℕ, ◌<◌, ◌+◌, subst, sym, ◌∙◌, arith}
use Rattle.std.specs.Prelude.{Option}
use Rattle.std.proofs.lemmas.List.{map-append}
use Rattle.djq_leaves.specs.Batching.{row_tuples, batch_tuples}
use Rattle.djq_leaves.proofs.Batches.{AreSoFar, batch_none, batch_more, batch_all}
use Rattle.djq_leaves.proofs.LeafUpdates.{got}
use Rattle.djq_leaves.proofs.batch.tuples_of_all.Goals as goal

pub atoms-init : goal.atoms-init
atoms-init c =
    subst (λ (made : List (Option (List (List ℕ)))). AreSoFar c.args.relation c.args.rows.now c.args.atoms.now
    c.args.patterns.now 0 (batch_tuples c.args.rows.now made)) (sym c.new-batch.ensures.items)
    (batch_none c.args.relation c.args.rows.now c.args.atoms.now c.args.patterns.now)

pub tuples_for-requires-clause-fit : goal.tuples_for-requires-clause-fit
tuples_for-requires-clause-fit c =
    c.requires.fit c.atoms.j c.index-atoms-j.result c.index-patterns-j.result
    (got c.args.atoms.now c.atoms.j c.index-atoms-j.result c.atoms-test.true c.index-atoms-j.is)
    (got c.args.patterns.now c.atoms.j c.index-patterns-j.result
    (subst (λ (n : ℕ). c.atoms.j < n) (sym c.requires.long) c.atoms-test.true) c.index-patterns-j.is)

pub atoms-preserved : goal.atoms-preserved
atoms-preserved c =
    subst (λ (batch : List (List (List ℕ))). AreSoFar c.args.relation c.args.rows.now c.args.atoms.now
    c.args.patterns.now (c.atoms.j + 1) batch)
    (sym (ap (batch_tuples c.args.rows.now) c.in_ok-push.ensures.items
    ∙ map-append (row_tuples c.args.rows.now) c.atoms.batch.items (c.in_ok-tuples_for.field-0 ∷ [])))
    (batch_more c.args.relation c.args.rows.now c.args.atoms.now c.args.patterns.now c.atoms.j
    (batch_tuples c.args.rows.now c.atoms.batch.items) c.index-atoms-j.result c.index-patterns-j.result
    (row_tuples c.args.rows.now c.in_ok-tuples_for.field-0)
    (got c.args.atoms.now c.atoms.j c.index-atoms-j.result c.atoms-test.true c.index-atoms-j.is)
    (got c.args.patterns.now c.atoms.j c.index-patterns-j.result
    (subst (λ (n : ℕ). c.atoms.j < n) (sym c.requires.long) c.atoms-test.true) c.index-patterns-j.is)
    c.in_ok-tuples_for.ensures.tuples c.in_ok-tuples_for.ensures.few c.atoms.invariant)

pub returns : goal.returns
returns c =
    let h = c.atoms-test.false in
    let e = c.atoms.auto.j-end in
    batch_all c.args.relation c.args.rows.now c.args.atoms.now c.args.patterns.now c.atoms.j
    (batch_tuples c.args.rows.now c.atoms.batch.items) (omega arith) c.atoms.invariant
