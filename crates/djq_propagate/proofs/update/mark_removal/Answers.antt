-- No tuple was marked, so the leaf's is the only mark, and the path above is free to be marked.
use Rattle.djq_index.specs.Tuple.{one_if, same}
use Rattle.std.proofs.Common.{arith, length}
use Rattle.djq_propagate.specs.Updates.{steps, paths}
use Rattle.djq_propagate.proofs.Batches.{few_marked}
use Rattle.djq_propagate.proofs.Costs.{count_mark, mark_counted, path_short}
use Rattle.djq_propagate.proofs.Updates.{rest_kept, leaf_within}
use Rattle.djq_propagate.proofs.Removals.{can_remove, marked_all}
use Rattle.djq_propagate.proofs.update.mark_removal.Goals as goal

pub touch_tuple-requires-clause-family : goal.touch_tuple-requires-clause-family
touch_tuple-requires-clause-family g c =
    c.reducts.invariant.0.family

pub touch_tuple-requires-clause-within : goal.touch_tuple-requires-clause-within
touch_tuple-requires-clause-within g c =
    leaf_within c.reducts.inside.tree c.args.leaf c.reducts.invariant.0.family.is_tree
    (rw (← c.reducts.view_is) at c.requires.leaf)

pub touch_path-requires-clause-family : goal.touch_path-requires-clause-family
touch_path-requires-clause-family g c =
    c.touch_tuple.ensures.touched.family

pub touch_path-requires-clause-can : goal.touch_path-requires-clause-can
touch_path-requires-clause-can g c =
    can_remove c.reducts.inside.tree c.reducts.inside.tables.items c.touch_tuple.new.tables.items c.args.leaf
    c.args.tuple.now c.reducts.invariant.0 (rw (← c.reducts.view_is) at c.requires.leaf)
    (rw (← c.reducts.view_is) at c.requires.bare) (rw (← c.reducts.view_is) at c.requires.there)
    c.touch_tuple.ensures.touched

pub touch_path-requires-clause-leaf : goal.touch_path-requires-clause-leaf
touch_path-requires-clause-leaf g c =
    rw (← c.reducts.view_is) at c.requires.leaf

pub returns-clause-marked : goal.returns-clause-marked
returns-clause-marked g c = rw (← c.reducts.view_is) (
    marked_all c.reducts.inside.tree c.reducts.inside.tables.items c.touch_tuple.new.tables.items
    c.touch_path.new.tables.items
    c.args.leaf c.args.tuple.now c.reducts.invariant.0 (rw (← c.reducts.view_is) at c.requires.leaf)
    (rw (← c.reducts.view_is) at c.requires.bare) (rw (← c.reducts.view_is) at c.requires.there)
    c.touch_tuple.ensures.touched c.touch_path.ensures.touched c.touch_path.ensures.walked)

pub returns-clause-counted : goal.returns-clause-counted
returns-clause-counted g c = rw (← c.reducts.view_is) (
    λ n few. mark_counted c.reducts.inside.tree c.reducts.inside.tables.items c.touch_tuple.new.tables.items
    c.args.leaf c.args.tuple.now (λ v. one_if (same c.args.tuple.now v)) n c.args.tally.now c.touch_tuple.new.tally
    c.touch_path.new.tally c.reducts.invariant.0 (rw (← c.reducts.view_is) at c.requires.there)
    c.touch_tuple.ensures.touched few c.touch_tuple.ensures.counted c.touch_path.ensures.counted)

pub returns-clause-few : goal.returns-clause-few
returns-clause-few g c = rw (← c.reducts.view_is) (
    λ meets. c.touch_path.ensures.few 1 meets
    (few_marked c.reducts.inside.tree c.reducts.inside.tables.items c.touch_tuple.new.tables.items c.args.leaf
    c.args.tuple.now (rw (← c.reducts.view_is) at c.requires.bare) c.touch_tuple.ensures.touched))

pub returns-clause-flat : goal.returns-clause-flat
returns-clause-flat g c = rw (← c.reducts.view_is) (
    λ meets. count_mark (steps c.reducts.inside.tree.nodes c.args.leaf (length c.reducts.inside.tree.nodes))
    (paths c.reducts.inside.tree) 1 c.args.tally.now c.touch_tuple.new.tally c.touch_path.new.tally
    (path_short c.reducts.inside.tree c.args.leaf c.reducts.invariant.0.family.is_tree) (omega arith)
    c.touch_tuple.ensures.counted (c.touch_path.ensures.flat 1 meets
    (few_marked c.reducts.inside.tree c.reducts.inside.tables.items c.touch_tuple.new.tables.items c.args.leaf
    c.args.tuple.now (rw (← c.reducts.view_is) at c.requires.bare) c.touch_tuple.ensures.touched)))

pub invariant_of-reducts : goal.invariant_of-reducts
invariant_of-reducts g c =
    rest_kept c.reducts.invariant
    (marked_all c.reducts.inside.tree c.reducts.inside.tables.items c.touch_tuple.new.tables.items
    c.touch_path.new.tables.items
    c.args.leaf c.args.tuple.now c.reducts.invariant.0 (rw (← c.reducts.view_is) at c.requires.leaf)
    (rw (← c.reducts.view_is) at c.requires.bare) (rw (← c.reducts.view_is) at c.requires.there)
    c.touch_tuple.ensures.touched c.touch_path.ensures.touched c.touch_path.ensures.walked).sound
