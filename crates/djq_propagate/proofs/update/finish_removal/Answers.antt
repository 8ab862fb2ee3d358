-- What went leaves marks on the path alone, which is then cleared; counts go by how tables shrank.
use Rattle.std.proofs.Common.{length}
use Rattle.djq_index.specs.Entries.{marks}
use Rattle.djq_reduct.specs.Tables.{entries_at}
use Rattle.djq_propagate.proofs.Batches.{few_taken}
use Rattle.djq_propagate.proofs.Costs.{take_flat, take_counted}
use Rattle.djq_propagate.proofs.Updates.{rest_kept, dropped_all}
use Rattle.djq_propagate.proofs.update.finish_removal.Goals as goal

pub take_marked-requires-clause-reducts : goal.take_marked-requires-clause-reducts
take_marked-requires-clause-reducts g c =
    c.reducts.invariant.0

pub take_marked-requires-clause-leaf : goal.take_marked-requires-clause-leaf
take_marked-requires-clause-leaf g c =
    rw (← c.reducts.view_is) at c.requires.leaf

pub clear_path-requires-clause-family : goal.clear_path-requires-clause-family
clear_path-requires-clause-family g c =
    c.take_marked.ensures.taken.sound.family

pub clear_path-requires-clause-leaf : goal.clear_path-requires-clause-leaf
clear_path-requires-clause-leaf g c =
    rw (← c.reducts.view_is) at c.requires.leaf

pub returns-clause-dropped : goal.returns-clause-dropped
returns-clause-dropped g c = rw (← c.reducts.view_is) (
    dropped_all c.reducts.inside.tree c.reducts.inside.tables.items c.take_marked.new.tables.items
    c.clear_path.new.tables.items
    c.args.leaf (rw (← c.reducts.view_is) at c.requires.leaf) (rw (← c.reducts.view_is) at c.requires.path)
    c.take_marked.ensures.taken c.clear_path.ensures.cleared)

pub returns-clause-counted : goal.returns-clause-counted
returns-clause-counted g c = rw (← c.reducts.view_is) (
    λ n few. take_counted c.reducts.inside.tree c.reducts.inside.tables.items c.take_marked.new.tables.items
    c.args.leaf n
    c.args.tally.now c.take_marked.new.tally c.clear_path.new.tally c.reducts.invariant.0 c.take_marked.ensures.taken
    few c.take_marked.ensures.counted c.clear_path.ensures.counted)

pub returns-clause-flat : goal.returns-clause-flat
returns-clause-flat g c = rw (← c.reducts.view_is) (
    λ n meets few.
    take_flat c.reducts.inside.tree c.reducts.inside.tables.items c.take_marked.new.tables.items c.args.leaf n
    (length (marks (entries_at c.reducts.inside.tables.items c.args.leaf)))
    c.args.tally.now c.take_marked.new.tally c.clear_path.new.tally c.reducts.invariant.0.family.is_tree
    (few.each c.args.leaf) (c.take_marked.ensures.flat meets) c.take_marked.ensures.counted
    (c.clear_path.ensures.flat n
    (few_taken n c.reducts.inside.tree c.reducts.inside.tables.items c.take_marked.new.tables.items c.args.leaf
    c.take_marked.ensures.taken few)))

pub invariant_of-reducts : goal.invariant_of-reducts
invariant_of-reducts g c =
    rest_kept c.reducts.invariant
    (dropped_all c.reducts.inside.tree c.reducts.inside.tables.items c.take_marked.new.tables.items
    c.clear_path.new.tables.items
    c.args.leaf (rw (← c.reducts.view_is) at c.requires.leaf) (rw (← c.reducts.view_is) at c.requires.path)
    c.take_marked.ensures.taken c.clear_path.ensures.cleared).sound
