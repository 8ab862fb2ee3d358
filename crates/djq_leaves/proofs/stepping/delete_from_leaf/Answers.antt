-- The lent tuple is the only one that gives the row; where there is none, nothing is lost and nothing listed. A removal
-- is marked while its tuple is still there, so what the marks list is what goes with it.
use Rattle.std.proofs.Common.{Bool, false, length, subst, sym}
use Rattle.djq_enumeration.specs.Changed.{IsGained}
use Rattle.djq_leaves.specs.Stepping.{ListsWhere}
use Rattle.djq_propagate.proofs.Updates.{marked_lost}
use Rattle.djq_leaves.proofs.LeafUpdates.{lists_none, lost_loses, marked_lists, only_lent}
use Rattle.djq_leaves.proofs.Costs.{removal_counts}
use Rattle.djq_leaves.proofs.stepping.delete_from_leaf.Goals as goal

pub returns-then-wanted-clause-lost : goal.returns-then-wanted-clause-lost
returns-then-wanted-clause-lost g c =
    lost_loses c.args.cells.now c.in-Some.tuple.now c.args.pattern.now c.args.leaf
    c.args.reducts.now c.finish_removal.new.reducts
    (only_lent c.args.pattern.now c.args.cells.now c.in-Some.tuple.now
    c.in-Some.ensures.exact) c.laws.ensures.sound
    (marked_lost c.args.reducts.now c.mark_removal.new.reducts c.finish_removal.new.reducts
    c.args.leaf c.in-Some.tuple.now c.mark_removal.ensures.marked c.finish_removal.ensures.dropped)

pub returns-then-wanted-clause-listed : goal.returns-then-wanted-clause-listed
returns-then-wanted-clause-listed g c =
    subst (λ (b : Bool). ListsWhere b false (IsGained c.args.reducts.now c.finish_removal.new.reducts)
    (length c.args.reducts.now.tree.head) 1 c.args.log.now c.list_changes.new.log
    c.args.steps.now.listing c.list_changes.new.listing) (sym c.if-wanted.true)
    (marked_lists false c.args.leaf c.in-Some.tuple.now c.args.reducts.now
    c.mark_removal.new.reducts c.finish_removal.new.reducts c.args.log.now c.list_changes.new.log
    c.args.steps.now.listing c.list_changes.new.listing c.laws.ensures.sound
    c.mark_removal.ensures.marked
    (c.list_changes.ensures c.finish_removal.new.reducts c.finish_removal.ensures.dropped.sound
    c.finish_removal.ensures.dropped.without))

pub returns-then-wanted-clause-updates : goal.returns-then-wanted-clause-updates
returns-then-wanted-clause-updates g c =
    removal_counts c.args.leaf c.in-Some.tuple.now c.args.reducts.now
    c.mark_removal.new.reducts c.args.steps.now.update c.mark_removal.new.tally
    c.finish_removal.new.tally c.laws.ensures.sound c.mark_removal.ensures.marked
    c.mark_removal.ensures.counted c.finish_removal.ensures.counted
    c.mark_removal.ensures.few c.mark_removal.ensures.flat c.finish_removal.ensures.flat

pub returns-clause-lost : goal.returns-clause-lost
returns-clause-lost g c =
    lost_loses c.args.cells.now c.in-Some.tuple.now c.args.pattern.now c.args.leaf
    c.args.reducts.now c.drop_leaf.new.reducts
    (only_lent c.args.pattern.now c.args.cells.now c.in-Some.tuple.now
    c.in-Some.ensures.exact) c.laws.ensures.sound c.drop_leaf.ensures.lost

pub returns-in_default-clause-listed : goal.returns-in_default-clause-listed
returns-in_default-clause-listed g c =
    lists_none c.args.wanted false c.args.reducts.now (length c.args.reducts.now.tree.head) 1
    c.args.log.now c.args.steps.now.listing
