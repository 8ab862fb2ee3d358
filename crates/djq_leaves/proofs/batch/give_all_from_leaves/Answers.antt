-- Leaves from the index on hold what they held, so their tuples are still there; the tables only shrink.
use Rattle.std.proofs.Common.{◌+◌, ◌<◌, length, ℕ, List, sym, subst}
use Rattle.djq_tree.specs.Tree.{Tree}
use Rattle.djq_propagate.specs.Batches.{AreThere}
use Rattle.djq_leaves.specs.Batching.{batch_tuples, LosesTuples}
use Rattle.djq_leaves.specs.Stepping.{atoms_below}
use Rattle.djq_leaves.proofs.Batches.{got_in, all_lost, drops_stable, drops_more, there_stays, below_skip, below_step}
use Rattle.djq_leaves.proofs.Batches.{below_at, leaves_stay}
use Rattle.djq_leaves.proofs.Costs.{given_as, given_more, droppings_count}
use Rattle.djq_leaves.proofs.LeafUpdates.{more_both, got, on_as, off_as, below_end, counts_over, counts_past}
use Rattle.djq_leaves.proofs.batch.give_all_from_leaves.Goals as goal

pub leaves-preserved-then-atoms-leaf : goal.leaves-preserved-then-atoms-leaf
leaves-preserved-then-atoms-leaf g c = record {
  changed = below_skip (λ us old new. LosesTuples us old new) c.args.relation c.args.atoms.now
      (batch_tuples c.args.rows.now c.args.batch.now) c.leaves.leaf c.index-atoms-leaf.result c.args.reducts.now
      c.leaves.reducts (got c.args.atoms.now c.leaves.leaf c.index-atoms-leaf.result
      (below_end c.leaves.leaf c.args.end (length c.args.atoms.now) c.leaves-test.true c.requires.end)
      c.index-atoms-leaf.is)
      (off_as c.index-atoms-leaf.result _ c.args.relation c.index-atoms-leaf.is c.if-atoms-leaf.true)
      c.leaves.invariant.changed;
  more = c.leaves.invariant.more;
  listing = c.leaves.invariant.listing;
  updates = given_as c.args.reducts.now (atoms_below c.args.relation c.args.atoms.now c.leaves.leaf) _
      c.args.steps.now.update c.leaves.steps.update
      (counts_past c.args.relation c.args.atoms.now c.leaves.leaf c.index-atoms-leaf.result
      (below_end c.leaves.leaf c.args.end (length c.args.atoms.now) c.leaves-test.true c.requires.end)
      c.index-atoms-leaf.is
      (off_as c.index-atoms-leaf.result _ c.args.relation c.index-atoms-leaf.is c.if-atoms-leaf.true))
      c.leaves.invariant.updates;
  rows = c.leaves.invariant.rows;
}

pub drop_leaf_many-requires-clause-leaf : goal.drop_leaf_many-requires-clause-leaf
drop_leaf_many-requires-clause-leaf g c =
    subst (λ (t : Tree). c.leaves.leaf < t.leaves) (sym c.leaves.invariant.changed.tree)
    (subst (λ (n : ℕ). c.leaves.leaf < n) (sym c.requires.leaves)
    (below_end c.leaves.leaf c.args.end (length c.args.atoms.now) c.leaves-test.true c.requires.end))

pub drop_leaf_many-requires-clause-there : goal.drop_leaf_many-requires-clause-there
drop_leaf_many-requires-clause-there g c =
    leaves_stay (λ us old new. LosesTuples us old new) (λ (us : List (List ℕ)) es. AreThere es us) c.args.relation
    c.args.atoms.now (batch_tuples c.args.rows.now c.args.batch.now) c.leaves.leaf c.args.end c.index-atoms-leaf.result
    c.tuples_in-tuples.result.now c.args.reducts.now c.leaves.reducts
    (there_stays c.tuples_in-tuples.result.now) c.leaves-test.true c.requires.there c.leaves.invariant.changed
    (got c.args.atoms.now c.leaves.leaf c.index-atoms-leaf.result
    (below_end c.leaves.leaf c.args.end (length c.args.atoms.now) c.leaves-test.true c.requires.end)
    c.index-atoms-leaf.is)
    (got_in c.args.rows.now c.args.batch.now c.leaves.leaf c.index-batch-leaf.result c.tuples_in-tuples.result.now
    c.tuples_in-tuples.ensures
    (subst (λ (n : ℕ). c.leaves.leaf < n) (sym c.requires.long)
    (below_end c.leaves.leaf c.args.end (length c.args.atoms.now) c.leaves-test.true c.requires.end))
    c.index-batch-leaf.is)
    (on_as c.index-atoms-leaf.result _ c.args.relation c.index-atoms-leaf.is c.if-atoms-leaf.false)

pub leaves-preserved : goal.leaves-preserved
leaves-preserved g c =
    let step = all_lost c.tuples_in-tuples.result.now c.leaves.leaf c.leaves.reducts c.drop_leaf_many.new.reducts
    c.drop_leaf_many.ensures.lost in
    record {
      changed = below_step (λ us old new. LosesTuples us old new) c.args.relation c.args.atoms.now
          (batch_tuples c.args.rows.now c.args.batch.now) c.leaves.leaf c.index-atoms-leaf.result
          c.tuples_in-tuples.result.now c.args.reducts.now c.leaves.reducts c.drop_leaf_many.new.reducts drops_stable
          c.requires.leaves (got c.args.atoms.now c.leaves.leaf c.index-atoms-leaf.result
          (below_end c.leaves.leaf c.args.end (length c.args.atoms.now) c.leaves-test.true c.requires.end)
          c.index-atoms-leaf.is)
          (got_in c.args.rows.now c.args.batch.now c.leaves.leaf c.index-batch-leaf.result c.tuples_in-tuples.result.now
          c.tuples_in-tuples.ensures
          (subst (λ (n : ℕ). c.leaves.leaf < n) (sym c.requires.long)
          (below_end c.leaves.leaf c.args.end (length c.args.atoms.now) c.leaves-test.true c.requires.end))
          c.index-batch-leaf.is)
          (on_as c.index-atoms-leaf.result _ c.args.relation c.index-atoms-leaf.is c.if-atoms-leaf.false)
          c.leaves.invariant.changed step;
      more = more_both c.drop_leaf_many.new.reducts c.leaves.reducts c.args.reducts.now
          (drops_more c.tuples_in-tuples.result.now c.leaves.leaf c.leaves.reducts c.drop_leaf_many.new.reducts step)
          c.leaves.invariant.more;
      listing = c.leaves.invariant.listing;
      updates = given_more c.args.reducts.now c.leaves.reducts
          (atoms_below c.args.relation c.args.atoms.now c.leaves.leaf)
          (atoms_below c.args.relation c.args.atoms.now (c.leaves.leaf + 1)) c.args.steps.now.update
          c.leaves.steps.update c.drop_leaf_many.new.tally
          c.leaves.invariant.changed.sound c.leaves.invariant.more
          (counts_over c.args.relation c.args.atoms.now c.leaves.leaf c.index-atoms-leaf.result
          (below_end c.leaves.leaf c.args.end (length c.args.atoms.now) c.leaves-test.true c.requires.end)
          c.index-atoms-leaf.is
          (on_as c.index-atoms-leaf.result _ c.args.relation c.index-atoms-leaf.is c.if-atoms-leaf.false))
          c.leaves.invariant.updates
          (droppings_count c.leaves.reducts c.leaves.steps.update c.drop_leaf_many.new.tally
          c.drop_leaf_many.ensures.counted);
      rows = c.leaves.invariant.rows;
    }

pub returns-clause-lost : goal.returns-clause-lost
returns-clause-lost g c =
    below_at (λ us old new. LosesTuples us old new) c.args.relation c.args.atoms.now
    (batch_tuples c.args.rows.now c.args.batch.now) c.leaves.leaf c.args.end c.args.reducts.now c.leaves.reducts
    c.leaves.auto.leaf-end c.leaves-test.false c.leaves.invariant.changed
