-- No tuple above the leaf is marked, so the path above is free to be marked.
use Rattle.djq_propagate.proofs.Costs.{above_by, sized}
use Rattle.djq_propagate.proofs.Updates.{rest_kept}
use Rattle.djq_propagate.proofs.Removals.{can_mark, marked_above}
use Rattle.djq_propagate.proofs.update.mark_above.Goals as goal

pub touch_path-requires-clause-family : goal.touch_path-requires-clause-family
touch_path-requires-clause-family g c =
    c.reducts.invariant.0.family

pub touch_path-requires-clause-leaf : goal.touch_path-requires-clause-leaf
touch_path-requires-clause-leaf g c =
    rw (← c.reducts.view_is) at c.requires.leaf

pub touch_path-requires-clause-can : goal.touch_path-requires-clause-can
touch_path-requires-clause-can g c =
    can_mark c.reducts.inside.tree c.reducts.inside.tables.items c.args.leaf c.reducts.invariant.0
    (rw (← c.reducts.view_is) at c.requires.leaf) (rw (← c.reducts.view_is) at c.requires.only)

pub returns-clause-marked : goal.returns-clause-marked
returns-clause-marked g c = rw (← c.reducts.view_is) (
    marked_above c.reducts.inside.tree c.reducts.inside.tables.items c.touch_path.new.tables.items c.args.leaf
    c.reducts.invariant.0 (rw (← c.reducts.view_is) at c.requires.leaf)
    (rw (← c.reducts.view_is) at c.requires.only) c.touch_path.ensures.touched c.touch_path.ensures.walked)

pub returns-clause-counted : goal.returns-clause-counted
returns-clause-counted g c = rw (← c.reducts.view_is) (
    λ n few. above_by c.reducts.inside.tree c.args.leaf n c.args.tally.now c.touch_path.new.tally
    c.reducts.invariant.0.family.is_tree
    (c.touch_path.ensures.counted n
    (λ i. sized c.reducts.inside.tree c.reducts.inside.tables.items n c.reducts.invariant.0 few i)))

pub returns-clause-few : goal.returns-clause-few
returns-clause-few g c = rw (← c.reducts.view_is) (
    λ n meets few. c.touch_path.ensures.few n meets few)

pub returns-clause-flat : goal.returns-clause-flat
returns-clause-flat g c = rw (← c.reducts.view_is) (
    λ n meets few. above_by c.reducts.inside.tree c.args.leaf n c.args.tally.now c.touch_path.new.tally
    c.reducts.invariant.0.family.is_tree (c.touch_path.ensures.flat n meets few))

pub invariant_of-reducts : goal.invariant_of-reducts
invariant_of-reducts g c =
    rest_kept c.reducts.invariant
    (marked_above c.reducts.inside.tree c.reducts.inside.tables.items c.touch_path.new.tables.items c.args.leaf
    c.reducts.invariant.0 (rw (← c.reducts.view_is) at c.requires.leaf)
    (rw (← c.reducts.view_is) at c.requires.only) c.touch_path.ensures.touched c.touch_path.ensures.walked).sound
