-- The lent tuple is the only one that gives the row; where there is none, nothing is gained. Clearing the marks keeps
-- all tuples, so what the marks listed is what the reducts gained by the one tuple.
use Rattle.std.proofs.Common.{Bool, true, length, subst, sym}
use Rattle.djq_enumeration.specs.Changed.{IsGained}
use Rattle.djq_leaves.specs.Stepping.{ListsWhere}
use Rattle.djq_propagate.proofs.Updates.{inserted_gained}
use Rattle.djq_leaves.proofs.LeafUpdates.{gained_gains, inserted_lists, lists_none, only_lent}
use Rattle.djq_leaves.proofs.Costs.{gained_grows, addition_counts, insertion_counts}
use Rattle.djq_leaves.proofs.stepping.add_to_leaf.Goals as goal

pub returns-then-wanted-clause-gained : goal.returns-then-wanted-clause-gained
returns-then-wanted-clause-gained g c =
    gained_gains c.args.cells.now c.in-Some.tuple.now c.args.pattern.now c.args.leaf
    c.args.reducts.now c.finish_insertion.new.reducts
    (only_lent c.args.pattern.now c.args.cells.now c.in-Some.tuple.now
    c.in-Some.ensures.exact)
    (inserted_gained c.args.reducts.now c.insert_leaf.new.reducts c.finish_insertion.new.reducts
    c.args.leaf c.in-Some.tuple.now c.in_ok-insert_leaf.ensures.inserted
    c.finish_insertion.ensures.kept)

pub returns-then-wanted-clause-listed : goal.returns-then-wanted-clause-listed
returns-then-wanted-clause-listed g c =
    subst (λ (b : Bool). ListsWhere b true (IsGained c.finish_insertion.new.reducts c.args.reducts.now)
    (length c.args.reducts.now.tree.head) 1 c.args.log.now c.list_changes.new.log
    c.args.steps.now.listing c.list_changes.new.listing) (sym c.if-wanted.true)
    (inserted_lists true c.args.leaf c.in-Some.tuple.now c.args.reducts.now
    c.insert_leaf.new.reducts c.finish_insertion.new.reducts c.args.log.now c.list_changes.new.log
    c.args.steps.now.listing c.list_changes.new.listing c.in_ok-insert_leaf.ensures.inserted
    c.finish_insertion.ensures.kept
    (c.list_changes.ensures c.args.reducts.now c.laws.ensures.sound
    c.in_ok-insert_leaf.ensures.inserted.without))

pub returns-then-wanted-clause-grows : goal.returns-then-wanted-clause-grows
returns-then-wanted-clause-grows g c =
    gained_grows c.args.leaf c.in-Some.tuple.now c.args.reducts.now
    c.finish_insertion.new.reducts
    (inserted_gained c.args.reducts.now c.insert_leaf.new.reducts c.finish_insertion.new.reducts
    c.args.leaf c.in-Some.tuple.now c.in_ok-insert_leaf.ensures.inserted
    c.finish_insertion.ensures.kept)

pub returns-then-wanted-clause-updates : goal.returns-then-wanted-clause-updates
returns-then-wanted-clause-updates g c =
    insertion_counts c.args.leaf c.in-Some.tuple.now c.args.reducts.now
    c.insert_leaf.new.reducts c.finish_insertion.new.reducts c.args.steps.now.update
    c.insert_leaf.new.tally c.finish_insertion.new.tally c.in_ok-insert_leaf.ensures.inserted
    c.finish_insertion.ensures.kept
    c.in_ok-insert_leaf.ensures.counted c.finish_insertion.ensures.counted
    c.in_ok-insert_leaf.ensures.few c.in_ok-insert_leaf.ensures.flat
    c.finish_insertion.ensures.flat

pub returns-clause-gained : goal.returns-clause-gained
returns-clause-gained g c =
    gained_gains c.args.cells.now c.in-Some.tuple.now c.args.pattern.now c.args.leaf
    c.args.reducts.now c.add_leaf.new.reducts
    (only_lent c.args.pattern.now c.args.cells.now c.in-Some.tuple.now
    c.in-Some.ensures.exact) c.in_ok-add_leaf.ensures.gained

pub returns-clause-grows : goal.returns-clause-grows
returns-clause-grows g c =
    gained_grows c.args.leaf c.in-Some.tuple.now c.args.reducts.now
    c.add_leaf.new.reducts c.in_ok-add_leaf.ensures.gained

pub returns-clause-updates : goal.returns-clause-updates
returns-clause-updates g c =
    addition_counts c.args.leaf c.in-Some.tuple.now c.args.reducts.now
    c.add_leaf.new.reducts c.args.steps.now.update c.add_leaf.new.tally
    c.in_ok-add_leaf.ensures.gained c.in_ok-add_leaf.ensures.counted
    c.in_ok-add_leaf.ensures.flat

pub returns-in_default-clause-listed : goal.returns-in_default-clause-listed
returns-in_default-clause-listed g c =
    lists_none c.args.wanted true c.args.reducts.now (length c.args.reducts.now.tree.head) 1
    c.args.log.now c.args.steps.now.listing
