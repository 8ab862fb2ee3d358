-- All marks are on the leaf's path, so none is left; the path's nodes are no more than leaves and trims.
use Rattle.djq_propagate.proofs.Costs.{keep_by, keep_counted}
use Rattle.djq_propagate.proofs.Updates.{rest_kept, kept_all}
use Rattle.djq_propagate.proofs.update.finish_insertion.Goals as goal

pub clear_path-requires-clause-family : goal.clear_path-requires-clause-family
clear_path-requires-clause-family g c =
    c.reducts.invariant.0.family

pub clear_path-requires-clause-leaf : goal.clear_path-requires-clause-leaf
clear_path-requires-clause-leaf g c =
    rw (← c.reducts.view_is) at c.requires.leaf

pub returns-clause-kept : goal.returns-clause-kept
returns-clause-kept g c = rw (← c.reducts.view_is) (
    kept_all c.reducts.inside.tree c.reducts.inside.tables.items c.clear_path.new.tables.items c.args.leaf
    c.reducts.invariant.0 (rw (← c.reducts.view_is) at c.requires.path) c.clear_path.ensures.cleared)

pub returns-clause-counted : goal.returns-clause-counted
returns-clause-counted g c = rw (← c.reducts.view_is) (
    λ n few. keep_counted c.reducts.inside.tree c.reducts.inside.tables.items c.args.leaf n c.args.tally.now
    c.clear_path.new.tally c.reducts.invariant.0 few c.clear_path.ensures.counted)

pub returns-clause-flat : goal.returns-clause-flat
returns-clause-flat g c = rw (← c.reducts.view_is) (
    λ n few. keep_by c.reducts.inside.tree c.args.leaf n c.args.tally.now c.clear_path.new.tally
    c.reducts.invariant.0.family.is_tree (c.clear_path.ensures.flat n few))

pub invariant_of-reducts : goal.invariant_of-reducts
invariant_of-reducts g c =
    rest_kept c.reducts.invariant
    (kept_all c.reducts.inside.tree c.reducts.inside.tables.items c.clear_path.new.tables.items c.args.leaf
    c.reducts.invariant.0 (rw (← c.reducts.view_is) at c.requires.path) c.clear_path.ensures.cleared).sound
