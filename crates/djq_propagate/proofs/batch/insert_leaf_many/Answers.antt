-- What came is marked and nothing else, so marks above follow from those below; only the path's tables grew.
use Rattle.std.proofs.Common.{ℕ, ◌+◌, ◌*◌, ◌≤◌, length, rules, arith}
use Rattle.djq_reduct.specs.Tables.{entries_at}
use Rattle.djq_propagate.specs.Updates.{HasAtMost, HasKept, paths}
use Rattle.djq_propagate.proofs.Additions.{marks_come}
use Rattle.djq_propagate.proofs.Batches.{refusal_bounded}
use Rattle.djq_propagate.proofs.Walks.{on_err}
use Rattle.djq_propagate.proofs.Costs.{put_all_by, put_all_counted}
use Rattle.djq_propagate.proofs.Updates.{rest_kept, both, can_come, all_inserted}
use Rattle.djq_propagate.proofs.batch.insert_leaf_many.Goals as goal

pub touch_path-requires-clause-family : goal.touch_path-requires-clause-family
touch_path-requires-clause-family g c = c.in_ok-insert_all.ensures.come.sound.family

pub touch_path-requires-clause-leaf : goal.touch_path-requires-clause-leaf
touch_path-requires-clause-leaf g c = rw (← c.reducts.view_is) at c.requires.leaf

pub touch_path-requires-clause-can : goal.touch_path-requires-clause-can
touch_path-requires-clause-can g c =
    can_come c.reducts.inside.tree c.reducts.inside.tables.items c.insert_all.new.tables.items c.args.leaf
    c.args.tuples.now
    c.reducts.invariant.0 (rw (← c.reducts.view_is) at c.requires.bare) c.in_ok-insert_all.ensures.come
    c.in_ok-insert_all.ensures.plain

pub returns-clause-inserted : goal.returns-clause-inserted
returns-clause-inserted g c = rw (← c.reducts.view_is) (
    all_inserted c.reducts.inside.tree c.reducts.inside.tables.items c.insert_all.new.tables.items
    c.touch_path.new.tables.items
    c.args.leaf c.args.tuples.now c.reducts.invariant.0 (rw (← c.reducts.view_is) at c.requires.leaf)
    (rw (← c.reducts.view_is) at c.requires.bare) c.in_ok-insert_all.ensures.come
    c.in_ok-insert_all.ensures.plain c.touch_path.ensures.touched c.touch_path.ensures.walked)

pub returns-clause-counted : goal.returns-clause-counted
returns-clause-counted g c = rw (← c.reducts.view_is) (
    λ n some few.
    let come = c.in_ok-insert_all.ensures.come in
    let all = all_inserted c.reducts.inside.tree c.reducts.inside.tables.items c.insert_all.new.tables.items
    c.touch_path.new.tables.items c.args.leaf c.args.tuples.now c.reducts.invariant.0
    (rw (← c.reducts.view_is) at c.requires.leaf) (rw (← c.reducts.view_is) at c.requires.bare)
    come c.in_ok-insert_all.ensures.plain c.touch_path.ensures.touched c.touch_path.ensures.walked in
    put_all_counted c.reducts.inside.tree c.reducts.inside.tables.items c.insert_all.new.tables.items
    c.touch_path.new.tables.items
    c.args.leaf c.args.tuples.now n c.args.tally.now c.insert_all.new.tally c.touch_path.new.tally c.reducts.invariant.0
    come c.touch_path.ensures.touched all.sound some few c.in_ok-insert_all.ensures.counted
    c.touch_path.ensures.counted)

pub returns-clause-few : goal.returns-clause-few
returns-clause-few g c = rw (← c.reducts.view_is) (
    λ meets. c.touch_path.ensures.few (length c.args.tuples.now) meets
    (marks_come (length c.args.tuples.now) c.reducts.inside.tables.items c.insert_all.new.tables.items
    (rw (← c.reducts.view_is) at c.requires.bare) c.in_ok-insert_all.ensures.plain
    (c.in_ok-insert_all.ensures.grows meets)))

pub returns-clause-flat : goal.returns-clause-flat
returns-clause-flat g c = rw (← c.reducts.view_is) (
    λ n some room meets.
    let grows : (i : ℕ) → length (entries_at c.insert_all.new.tables.items i)
    ≤ length (entries_at c.reducts.inside.tables.items i) + n =
    λ i. omega (arith, room, c.in_ok-insert_all.ensures.grows meets i) in
    put_all_by c.reducts.inside.tree c.reducts.inside.tables.items c.insert_all.new.tables.items
    c.args.leaf c.args.tuples.now n c.args.tally.now c.insert_all.new.tally c.touch_path.new.tally c.reducts.invariant.0
    c.in_ok-insert_all.ensures.come some grows c.in_ok-insert_all.ensures.counted
    (c.touch_path.ensures.flat n meets
    (marks_come n c.reducts.inside.tables.items c.insert_all.new.tables.items
    (rw (← c.reducts.view_is) at c.requires.bare) c.in_ok-insert_all.ensures.plain grows)))

pub returns-in_err-insert_all-clause-few : goal.returns-in_err-insert_all-clause-few
returns-in_err-insert_all-clause-few g c = search rules

pub returns-in_err-insert_all-clause-flat : goal.returns-in_err-insert_all-clause-flat
returns-in_err-insert_all-clause-flat g c = search rules

pub returns-in_err-insert_all-clause-refused : goal.returns-in_err-insert_all-clause-refused
returns-in_err-insert_all-clause-refused g c = rw (← c.reducts.view_is) (
    on_err c.from_residual.result
    (HasKept (both c.reducts.inside.tree c.reducts.inside.tables.items)
    (both c.reducts.inside.tree c.insert_all.new.tables.items)) c.in_err-insert_all.ensures.refused)

pub returns-in_err-insert_all-clause-bounded : goal.returns-in_err-insert_all-clause-bounded
returns-in_err-insert_all-clause-bounded g c = rw (← c.reducts.view_is) (
    on_err c.from_residual.result
    ((n : ℕ) → HasAtMost (both c.reducts.inside.tree c.reducts.inside.tables.items) n
    → length (entries_at c.reducts.inside.tables.items c.args.leaf) + length c.args.tuples.now ≤ n
    → c.insert_all.new.tally ≤ c.args.tally.now + 18 * (paths c.reducts.inside.tree * n))
    (λ n few room. refusal_bounded c.reducts.inside.tree c.reducts.inside.tables.items n c.args.tally.now
    c.insert_all.new.tally c.reducts.invariant.0 (c.in_err-insert_all.ensures.bounded n few room)))

pub returns-in_err-insert_all-clause-inserted : goal.returns-in_err-insert_all-clause-inserted
returns-in_err-insert_all-clause-inserted g c = search rules

pub returns-in_err-insert_all-clause-counted : goal.returns-in_err-insert_all-clause-counted
returns-in_err-insert_all-clause-counted g c = search rules

pub invariant_of-reducts : goal.invariant_of-reducts
invariant_of-reducts g c =
    rest_kept c.reducts.invariant
    c.in_err-insert_all.ensures.refused.sound

pub invariant_of-reducts-2 : goal.invariant_of-reducts-2
invariant_of-reducts-2 g c =
    rest_kept c.reducts.invariant
    (all_inserted c.reducts.inside.tree c.reducts.inside.tables.items c.insert_all.new.tables.items
    c.touch_path.new.tables.items
    c.args.leaf c.args.tuples.now c.reducts.invariant.0 (rw (← c.reducts.view_is) at c.requires.leaf)
    (rw (← c.reducts.view_is) at c.requires.bare) c.in_ok-insert_all.ensures.come
    c.in_ok-insert_all.ensures.plain c.touch_path.ensures.touched c.touch_path.ensures.walked).sound
