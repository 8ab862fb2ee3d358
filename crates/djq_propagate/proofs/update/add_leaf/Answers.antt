-- No tuple was marked, nor is what came; counts go by how tables grew, over equal meets by one at most.
use Rattle.std.proofs.Common.{false, ℕ, ◌+◌, ◌*◌, ◌<◌, ◌≤◌, length, sym, ◌∙◌, refl, rules, arith}
use Rattle.djq_tree.specs.Flat.{HasEqualMeets}
use Rattle.djq_reduct.specs.Tables.{entries_at}
use Rattle.djq_propagate.specs.Updates.{HasKept, HasAtMost, paths}
use Rattle.djq_propagate.proofs.Batches.{one_lived}
use Rattle.djq_propagate.proofs.Walks.{on_err}
use Rattle.djq_propagate.proofs.Costs.{add_by, sized}
use Rattle.djq_propagate.proofs.PathMarks.{still_bare}
use Rattle.djq_propagate.proofs.RefusedCosts.{few_nodes, put_bounded, more_length}
use Rattle.djq_propagate.proofs.Updates.{rest_kept, both, leaf_within, ready_leaf, refused_kept, gained_all}
use Rattle.djq_propagate.proofs.update.add_leaf.Goals as goal

pub insert_tuple-requires-clause-ready : goal.insert_tuple-requires-clause-ready
insert_tuple-requires-clause-ready g c =
    ready_leaf c.reducts.inside.tree c.reducts.inside.tables.items c.args.leaf c.reducts.invariant.0
    (rw (← c.reducts.view_is) at c.requires.leaf)

pub insert_tuple-requires-clause-absent : goal.insert_tuple-requires-clause-absent
insert_tuple-requires-clause-absent g c =
    rw (← c.reducts.view_is) at c.requires.absent

pub insert_tuple-requires-clause-few : goal.insert_tuple-requires-clause-few
insert_tuple-requires-clause-few g c =
    rw (← c.reducts.view_is) at c.requires.few

pub insert_tuple-requires-clause-wide : goal.insert_tuple-requires-clause-wide
insert_tuple-requires-clause-wide g c =
    (rw (← c.reducts.view_is) at c.requires.wide) ∙ sym (c.reducts.invariant.0.family.keyed c.args.leaf
    (leaf_within c.reducts.inside.tree c.args.leaf c.reducts.invariant.0.family.is_tree
    (rw (← c.reducts.view_is) at c.requires.leaf))).width

pub insert_tuple-requires-clause-bare : goal.insert_tuple-requires-clause-bare
insert_tuple-requires-clause-bare g c = λ e. (rw (← c.reducts.view_is) at c.requires.bare)

pub returns-in_err-insert_tuple-clause-refused : goal.returns-in_err-insert_tuple-clause-refused
returns-in_err-insert_tuple-clause-refused g c = rw (← c.reducts.view_is) (
    on_err c.from_residual.result
    (HasKept (both c.reducts.inside.tree c.reducts.inside.tables.items)
    (both c.reducts.inside.tree c.insert_tuple.new.tables.items))
    (refused_kept c.reducts.inside.tree c.reducts.inside.tables.items c.insert_tuple.new.tables.items c.args.leaf
    c.reducts.invariant.0 c.in_err-insert_tuple.ensures.refused
    (still_bare false c.reducts.inside.tables.items c.insert_tuple.new.tables.items
    c.insert_tuple.ensures.plain (λ e. (rw (← c.reducts.view_is) at c.requires.bare))
    refl)))

pub returns-in_err-insert_tuple-clause-bounded : goal.returns-in_err-insert_tuple-clause-bounded
returns-in_err-insert_tuple-clause-bounded g c = rw (← c.reducts.view_is) (
    on_err c.from_residual.result
    ((n : ℕ) → HasAtMost (both c.reducts.inside.tree c.reducts.inside.tables.items) n
    → length (entries_at c.reducts.inside.tables.items c.args.leaf) < n
    → c.insert_tuple.new.tally ≤ c.args.tally.now + 18 * (paths c.reducts.inside.tree * n))
    (λ n few room. put_bounded c.reducts.inside.tree c.reducts.inside.tables.items c.args.leaf n c.args.tally.now
    c.insert_tuple.new.tally c.reducts.invariant.0 few room c.in_err-insert_tuple.ensures.bounded))

pub returns-in_err-insert_tuple-clause-flat_refused : goal.returns-in_err-insert_tuple-clause-flat_refused
returns-in_err-insert_tuple-clause-flat_refused g c = rw (← c.reducts.view_is) (
    on_err c.from_residual.result
    (HasEqualMeets c.reducts.inside.tree → c.insert_tuple.new.tally ≤ c.args.tally.now + 18 *
    (paths c.reducts.inside.tree * 1))
    (λ meets. let h = c.in_err-insert_tuple.ensures.flat meets in let n = few_nodes c.reducts.inside.tree
    c.reducts.invariant.0.family.is_tree in omega arith))

pub returns-clause-gained : goal.returns-clause-gained
returns-clause-gained g c = rw (← c.reducts.view_is) (
    gained_all c.reducts.inside.tree c.reducts.inside.tables.items c.insert_tuple.new.tables.items c.args.leaf
    c.args.tuple.now c.reducts.invariant.0 (rw (← c.reducts.view_is) at c.requires.leaf)
    (still_bare false c.reducts.inside.tables.items c.insert_tuple.new.tables.items
    c.insert_tuple.ensures.plain (λ e. (rw (← c.reducts.view_is) at c.requires.bare))
    refl) c.in_ok-insert_tuple.ensures.ok)

pub returns-clause-counted : goal.returns-clause-counted
returns-clause-counted g c = rw (← c.reducts.view_is) (
    λ n few.
    let old = c.reducts.inside.tables.items in
    let new = c.insert_tuple.new.tables.items in
    let t = c.reducts.inside.tree in
    let h = gained_all t old new c.args.leaf c.args.tuple.now c.reducts.invariant.0
    (rw (← c.reducts.view_is) at c.requires.leaf)
    (still_bare false old new c.insert_tuple.ensures.plain (λ e. (rw (← c.reducts.view_is) at c.requires.bare)) refl)
    c.in_ok-insert_tuple.ensures.ok in
    add_by t old new c.args.leaf c.args.tuple.now n c.args.tally.now c.insert_tuple.new.tally c.reducts.invariant.0 h
    (λ i. let s = sized t new n h.sound few i in omega arith) c.in_ok-insert_tuple.ensures.counted)

pub returns-clause-flat : goal.returns-clause-flat
returns-clause-flat g c = rw (← c.reducts.view_is) (
    λ meets.
    let old = c.reducts.inside.tables.items in
    let new = c.insert_tuple.new.tables.items in
    let t = c.reducts.inside.tree in
    let h = gained_all t old new c.args.leaf c.args.tuple.now c.reducts.invariant.0
    (rw (← c.reducts.view_is) at c.requires.leaf)
    (still_bare false old new c.insert_tuple.ensures.plain (λ e. (rw (← c.reducts.view_is) at c.requires.bare)) refl)
    c.in_ok-insert_tuple.ensures.ok in
    add_by t old new c.args.leaf c.args.tuple.now 1 c.args.tally.now c.insert_tuple.new.tally c.reducts.invariant.0 h
    (more_length t old new c.args.leaf meets c.reducts.invariant.0 h.sound h.others
    (one_lived t old new c.args.leaf c.args.tuple.now c.in_ok-insert_tuple.ensures.ok))
    c.in_ok-insert_tuple.ensures.counted)

pub returns-in_err-insert_tuple-clause-gained : goal.returns-in_err-insert_tuple-clause-gained
returns-in_err-insert_tuple-clause-gained g c =
    search rules

pub returns-in_err-insert_tuple-clause-counted : goal.returns-in_err-insert_tuple-clause-counted
returns-in_err-insert_tuple-clause-counted g c =
    search rules

pub returns-in_err-insert_tuple-clause-flat : goal.returns-in_err-insert_tuple-clause-flat
returns-in_err-insert_tuple-clause-flat g c =
    search rules

pub invariant_of-reducts : goal.invariant_of-reducts
invariant_of-reducts g c =
    rest_kept c.reducts.invariant
    (refused_kept c.reducts.inside.tree c.reducts.inside.tables.items c.insert_tuple.new.tables.items c.args.leaf
    c.reducts.invariant.0 c.in_err-insert_tuple.ensures.refused
    (still_bare false c.reducts.inside.tables.items c.insert_tuple.new.tables.items
    c.insert_tuple.ensures.plain (λ e. (rw (← c.reducts.view_is) at c.requires.bare))
    refl)).sound

pub invariant_of-reducts-2 : goal.invariant_of-reducts-2
invariant_of-reducts-2 g c =
    rest_kept c.reducts.invariant
    (gained_all c.reducts.inside.tree c.reducts.inside.tables.items c.insert_tuple.new.tables.items c.args.leaf
    c.args.tuple.now
    c.reducts.invariant.0 (rw (← c.reducts.view_is) at c.requires.leaf)
    (still_bare false c.reducts.inside.tables.items c.insert_tuple.new.tables.items
    c.insert_tuple.ensures.plain (λ e. (rw (← c.reducts.view_is) at c.requires.bare))
    refl) c.in_ok-insert_tuple.ensures.ok).sound
