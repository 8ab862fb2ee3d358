-- No tuple came, so none is marked; counts go by how tables shrank, over equal meets by one at most.
use Rattle.std.proofs.Common.{sym, arith}
use Rattle.djq_propagate.proofs.Batches.{one_died}
use Rattle.djq_propagate.proofs.Costs.{drop_by, sized}
use Rattle.djq_propagate.proofs.PathMarks.{fewer_bare}
use Rattle.djq_propagate.proofs.RefusedCosts.{more_length}
use Rattle.djq_propagate.proofs.Updates.{rest_kept, ready_leaf, lost_all}
use Rattle.djq_propagate.proofs.update.drop_leaf.Goals as goal

pub find_and_remove-requires-clause-ready : goal.find_and_remove-requires-clause-ready
find_and_remove-requires-clause-ready g c =
    ready_leaf c.reducts.inside.tree c.reducts.inside.tables.items c.args.leaf c.reducts.invariant.0
    (rw (← c.reducts.view_is) at c.requires.leaf)

pub find_and_remove-requires-clause-there : goal.find_and_remove-requires-clause-there
find_and_remove-requires-clause-there g c =
    rw (← c.reducts.view_is) at c.requires.there

pub returns-clause-lost : goal.returns-clause-lost
returns-clause-lost g c = rw (← c.reducts.view_is) (
    lost_all c.reducts.inside.tree c.reducts.inside.tables.items c.find_and_remove.new.tables.items c.args.leaf
    c.args.tuple.now c.reducts.invariant.0 (rw (← c.reducts.view_is) at c.requires.leaf)
    (fewer_bare c.reducts.inside.tables.items c.find_and_remove.new.tables.items c.find_and_remove.ensures.fewer
    (rw (← c.reducts.view_is) at c.requires.bare)) c.find_and_remove.ensures.died)

pub returns-clause-counted : goal.returns-clause-counted
returns-clause-counted g c = rw (← c.reducts.view_is) (
    λ n few.
    let old = c.reducts.inside.tables.items in
    let new = c.find_and_remove.new.tables.items in
    let t = c.reducts.inside.tree in
    let h = lost_all t old new c.args.leaf c.args.tuple.now c.reducts.invariant.0
    (rw (← c.reducts.view_is) at c.requires.leaf)
    (fewer_bare old new c.find_and_remove.ensures.fewer (rw (← c.reducts.view_is) at c.requires.bare))
    c.find_and_remove.ensures.died in
    drop_by t old new c.args.leaf c.args.tuple.now n c.args.tally.now c.find_and_remove.new.tally
    c.reducts.invariant.0 h
    (λ i. let s = sized t old n c.reducts.invariant.0 few i in omega arith) c.find_and_remove.ensures.counted)

pub returns-clause-flat : goal.returns-clause-flat
returns-clause-flat g c = rw (← c.reducts.view_is) (
    λ meets.
    let old = c.reducts.inside.tables.items in
    let new = c.find_and_remove.new.tables.items in
    let t = c.reducts.inside.tree in
    let h = lost_all t old new c.args.leaf c.args.tuple.now c.reducts.invariant.0
    (rw (← c.reducts.view_is) at c.requires.leaf)
    (fewer_bare old new c.find_and_remove.ensures.fewer (rw (← c.reducts.view_is) at c.requires.bare))
    c.find_and_remove.ensures.died in
    drop_by t old new c.args.leaf c.args.tuple.now 1 c.args.tally.now c.find_and_remove.new.tally
    c.reducts.invariant.0 h
    (more_length t new old c.args.leaf meets h.sound c.reducts.invariant.0
    (λ j v low apart. sym (h.others j v low apart))
    (one_died t old new c.args.leaf c.args.tuple.now c.find_and_remove.ensures.died)) c.find_and_remove.ensures.counted)

pub invariant_of-reducts : goal.invariant_of-reducts
invariant_of-reducts g c =
    rest_kept c.reducts.invariant
    (lost_all c.reducts.inside.tree c.reducts.inside.tables.items c.find_and_remove.new.tables.items c.args.leaf
    c.args.tuple.now c.reducts.invariant.0 (rw (← c.reducts.view_is) at c.requires.leaf)
    (fewer_bare c.reducts.inside.tables.items c.find_and_remove.new.tables.items c.find_and_remove.ensures.fewer
    (rw (← c.reducts.view_is) at c.requires.bare)) c.find_and_remove.ensures.died).sound
