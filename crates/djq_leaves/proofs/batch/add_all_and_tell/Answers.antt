-- Clearing the marks keeps all tuples, so what the marks listed is what the reducts gained since the start.
use Rattle.std.proofs.Common.{true}
use Rattle.djq_propagate.proofs.Updates.{inserted_gained_all}
use Rattle.djq_leaves.proofs.Costs.{insertions_count, insertions_flat}
use Rattle.djq_leaves.proofs.LeafUpdates.{kept_lists}
use Rattle.djq_leaves.proofs.batch.add_all_and_tell.Goals as goal

pub returns-clause-gained : goal.returns-clause-gained
returns-clause-gained g c =
    inserted_gained_all c.args.reducts.now c.insert_leaf_many.new.reducts c.finish_insertion.new.reducts c.args.leaf
    c.args.tuples.now c.in_ok-insert_leaf_many.ensures.inserted c.finish_insertion.ensures.kept

pub returns-clause-listed : goal.returns-clause-listed
returns-clause-listed g c =
    kept_lists true c.args.reducts.now c.insert_leaf_many.new.reducts c.finish_insertion.new.reducts c.args.log.now
    c.list_changes.new.log c.args.steps.now.listing c.list_changes.new.listing
    c.in_ok-insert_leaf_many.ensures.inserted.without.tree c.in_ok-insert_leaf_many.ensures.inserted.sound
    c.finish_insertion.ensures.kept
    (c.list_changes.ensures c.args.reducts.now c.laws.ensures.sound c.in_ok-insert_leaf_many.ensures.inserted.without)

pub returns-clause-updates : goal.returns-clause-updates
returns-clause-updates g c =
    insertions_count c.args.leaf c.args.tuples.now c.args.reducts.now c.insert_leaf_many.new.reducts
    c.finish_insertion.new.reducts c.args.steps.now.update c.insert_leaf_many.new.tally c.finish_insertion.new.tally
    c.in_ok-insert_leaf_many.ensures.inserted c.finish_insertion.ensures.kept c.in_ok-insert_leaf_many.ensures.counted
    c.finish_insertion.ensures.counted

pub returns-clause-flat : goal.returns-clause-flat
returns-clause-flat g c =
    insertions_flat c.args.leaf c.args.tuples.now c.args.reducts.now c.insert_leaf_many.new.reducts
    c.args.steps.now.update c.insert_leaf_many.new.tally c.finish_insertion.new.tally c.requires.some
    c.in_ok-insert_leaf_many.ensures.inserted c.in_ok-insert_leaf_many.ensures.flat
    c.in_ok-insert_leaf_many.ensures.few c.finish_insertion.ensures.flat
