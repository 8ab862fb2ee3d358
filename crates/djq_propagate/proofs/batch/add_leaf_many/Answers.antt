-- No mark was there and what came has none; only the path's tables grew, none beyond the longest leaf.
use Rattle.std.proofs.Common.{false, ℕ, ◌+◌, ◌*◌, ◌≤◌, length, refl, rules, arith}
use Rattle.djq_reduct.specs.Tables.{entries_at}
use Rattle.djq_propagate.specs.Updates.{HasAtMost, HasKept, paths}
use Rattle.djq_propagate.proofs.Batches.{refusal_bounded, all_gained}
use Rattle.djq_propagate.proofs.Walks.{on_err}
use Rattle.djq_propagate.proofs.Costs.{come_by, sized}
use Rattle.djq_propagate.proofs.PathMarks.{still_bare}
use Rattle.djq_propagate.proofs.Updates.{rest_kept, both}
use Rattle.djq_propagate.proofs.batch.add_leaf_many.Goals as goal

pub returns-clause-gained : goal.returns-clause-gained
returns-clause-gained g c = rw (← c.reducts.view_is) (
    all_gained c.reducts.inside.tree c.reducts.inside.tables.items c.insert_all.new.tables.items c.args.leaf
    c.args.tuples.now
    (still_bare false c.reducts.inside.tables.items c.insert_all.new.tables.items c.in_ok-insert_all.ensures.plain
    (λ e. (rw (← c.reducts.view_is) at c.requires.bare)) refl) c.in_ok-insert_all.ensures.come)

pub returns-clause-counted : goal.returns-clause-counted
returns-clause-counted g c = rw (← c.reducts.view_is) (
    λ n few.
    let come = c.in_ok-insert_all.ensures.come in
    come_by c.reducts.inside.tree c.reducts.inside.tables.items c.insert_all.new.tables.items c.args.leaf
    c.args.tuples.now n c.args.tally.now c.insert_all.new.tally c.reducts.invariant.0 come
    (λ i. let s = sized c.reducts.inside.tree c.insert_all.new.tables.items n come.sound few i in omega arith)
    c.in_ok-insert_all.ensures.counted)

pub returns-clause-flat : goal.returns-clause-flat
returns-clause-flat g c = rw (← c.reducts.view_is) (
    λ n room meets.
    come_by c.reducts.inside.tree c.reducts.inside.tables.items c.insert_all.new.tables.items c.args.leaf
    c.args.tuples.now n c.args.tally.now c.insert_all.new.tally c.reducts.invariant.0 c.in_ok-insert_all.ensures.come
    (λ i. omega (arith, room, c.in_ok-insert_all.ensures.grows meets i))
    c.in_ok-insert_all.ensures.counted)

pub returns-in_err-insert_all-clause-flat : goal.returns-in_err-insert_all-clause-flat
returns-in_err-insert_all-clause-flat g c = search rules

pub returns-in_err-insert_all-clause-refused : goal.returns-in_err-insert_all-clause-refused
returns-in_err-insert_all-clause-refused g c = rw (← c.reducts.view_is) (
    on_err c.from_residual.result
    (HasKept (both c.reducts.inside.tree c.reducts.inside.tables.items)
    (both c.reducts.inside.tree c.insert_all.new.tables.items)) c.in_err-insert_all.ensures.refused)

pub returns-in_err-insert_all-clause-bounded : goal.returns-in_err-insert_all-clause-bounded
returns-in_err-insert_all-clause-bounded g c = rw (← c.reducts.view_is) (
    on_err c.from_residual.result
    ((n : ℕ) → HasAtMost (both c.reducts.inside.tree c.reducts.inside.tables.items) n
    → length (entries_at c.reducts.inside.tables.items c.args.leaf) + length c.args.tuples.now ≤ n
    → c.insert_all.new.tally ≤ c.args.tally.now + 18 * (paths c.reducts.inside.tree * n))
    (λ n few room. refusal_bounded c.reducts.inside.tree c.reducts.inside.tables.items n c.args.tally.now
    c.insert_all.new.tally c.reducts.invariant.0 (c.in_err-insert_all.ensures.bounded n few room)))

pub returns-in_err-insert_all-clause-gained : goal.returns-in_err-insert_all-clause-gained
returns-in_err-insert_all-clause-gained g c = search rules

pub returns-in_err-insert_all-clause-counted : goal.returns-in_err-insert_all-clause-counted
returns-in_err-insert_all-clause-counted g c = search rules

pub invariant_of-reducts : goal.invariant_of-reducts
invariant_of-reducts g c =
    rest_kept c.reducts.invariant
    c.in_err-insert_all.ensures.refused.sound

pub invariant_of-reducts-2 : goal.invariant_of-reducts-2
invariant_of-reducts-2 g c =
    rest_kept c.reducts.invariant
    (all_gained c.reducts.inside.tree c.reducts.inside.tables.items c.insert_all.new.tables.items c.args.leaf
    c.args.tuples.now
    (still_bare false c.reducts.inside.tables.items c.insert_all.new.tables.items c.in_ok-insert_all.ensures.plain
    (λ e. (rw (← c.reducts.view_is) at c.requires.bare)) refl) c.in_ok-insert_all.ensures.come).sound
