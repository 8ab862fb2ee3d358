-- Marks stay in the leaf alone, and tables that hold the same supports are their nodes' reducts still.
use Rattle.djq_propagate.proofs.Updates.{rest_kept, leaf_within}
use Rattle.djq_propagate.proofs.Removals.{marked_more}
use Rattle.djq_propagate.proofs.update.mark_tuple.Goals as goal

pub touch_tuple-requires-clause-family : goal.touch_tuple-requires-clause-family
touch_tuple-requires-clause-family g c =
    c.reducts.invariant.0.family

pub touch_tuple-requires-clause-within : goal.touch_tuple-requires-clause-within
touch_tuple-requires-clause-within g c =
    leaf_within c.reducts.inside.tree c.args.leaf c.reducts.invariant.0.family.is_tree
    (rw (← c.reducts.view_is) at c.requires.leaf)

pub returns-clause-marked : goal.returns-clause-marked
returns-clause-marked g c = rw (← c.reducts.view_is) (
    marked_more c.reducts.inside.tree c.reducts.inside.tables.items c.touch_tuple.new.tables.items c.args.leaf
    c.args.tuple.now c.reducts.invariant.0 (rw (← c.reducts.view_is) at c.requires.only)
    (rw (← c.reducts.view_is) at c.requires.there) c.touch_tuple.ensures.touched)

pub invariant_of-reducts : goal.invariant_of-reducts
invariant_of-reducts g c =
    rest_kept c.reducts.invariant
    (marked_more c.reducts.inside.tree c.reducts.inside.tables.items c.touch_tuple.new.tables.items c.args.leaf
    c.args.tuple.now c.reducts.invariant.0 (rw (← c.reducts.view_is) at c.requires.only)
    (rw (← c.reducts.view_is) at c.requires.there) c.touch_tuple.ensures.touched).sound
