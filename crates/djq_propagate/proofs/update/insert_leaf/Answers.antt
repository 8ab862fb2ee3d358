-- What came is marked and nothing else, so marks above follow from those below; counts go by the growth.
use Rattle.std.proofs.Common.{ℕ, ◌+◌, ◌*◌, ◌<◌, ◌≤◌, List, length, ap, sym, ◌∙◌, rules, arith}
use Rattle.djq_index.specs.Entries.{Entry, count_of}
use Rattle.djq_tree.specs.Flat.{HasEqualMeets}
use Rattle.djq_reduct.specs.Tables.{entries_at}
use Rattle.djq_propagate.specs.Updates.{HasKept, HasAtMost, paths}
use Rattle.djq_propagate.proofs.Walks.{on_err}
use Rattle.djq_propagate.proofs.Batches.{few_lived, one_lived}
use Rattle.djq_propagate.proofs.Costs.{put_by, put_counted}
use Rattle.djq_propagate.proofs.RefusedCosts.{more_length, few_nodes, put_bounded}
use Rattle.djq_propagate.proofs.Updates.{rest_kept, both, leaf_within, leaf_below, reducts_lived, ready_leaf, bare_same}
use Rattle.djq_propagate.proofs.Updates.{refused_kept, inserted_all, can_insert}
use Rattle.djq_propagate.proofs.update.insert_leaf.Goals as goal

pub insert_tuple-requires-clause-ready : goal.insert_tuple-requires-clause-ready
insert_tuple-requires-clause-ready g c =
    ready_leaf c.reducts.inside.tree c.reducts.inside.tables.items c.args.leaf c.reducts.invariant.0
    (rw (← c.reducts.view_is) at c.requires.leaf)

pub insert_tuple-requires-clause-absent : goal.insert_tuple-requires-clause-absent
insert_tuple-requires-clause-absent g c =
    rw (← c.reducts.view_is) at c.requires.absent

pub insert_tuple-requires-clause-few : goal.insert_tuple-requires-clause-few
insert_tuple-requires-clause-few g c =
    rw (← c.reducts.view_is) at c.requires.few

pub insert_tuple-requires-clause-wide : goal.insert_tuple-requires-clause-wide
insert_tuple-requires-clause-wide g c =
    (rw (← c.reducts.view_is) at c.requires.wide) ∙ sym (c.reducts.invariant.0.family.keyed c.args.leaf
    (leaf_within c.reducts.inside.tree c.args.leaf c.reducts.invariant.0.family.is_tree
    (rw (← c.reducts.view_is) at c.requires.leaf))).width

pub returns-in_err-insert_tuple-clause-inserted : goal.returns-in_err-insert_tuple-clause-inserted
returns-in_err-insert_tuple-clause-inserted g c =
    search rules

pub returns-in_err-insert_tuple-clause-refused : goal.returns-in_err-insert_tuple-clause-refused
returns-in_err-insert_tuple-clause-refused g c = rw (← c.reducts.view_is) (
    on_err c.from_residual.result
    (HasKept (both c.reducts.inside.tree c.reducts.inside.tables.items)
    (both c.reducts.inside.tree c.insert_tuple.new.tables.items))
    (refused_kept c.reducts.inside.tree c.reducts.inside.tables.items c.insert_tuple.new.tables.items c.args.leaf
    c.reducts.invariant.0 c.in_err-insert_tuple.ensures.refused
    (bare_same c.reducts.inside.tree c.reducts.inside.tables.items c.insert_tuple.new.tables.items
    c.reducts.invariant.0.family
    c.in_err-insert_tuple.ensures.refused.family c.in_err-insert_tuple.ensures.refused.supports
    c.insert_tuple.ensures.plain
    (rw (← c.reducts.view_is) at c.requires.bare))))

pub returns-in_err-insert_tuple-clause-bounded : goal.returns-in_err-insert_tuple-clause-bounded
returns-in_err-insert_tuple-clause-bounded g c = rw (← c.reducts.view_is) (
    on_err c.from_residual.result
    ((n : ℕ) → HasAtMost (both c.reducts.inside.tree c.reducts.inside.tables.items) n
    → length (entries_at c.reducts.inside.tables.items c.args.leaf) < n
    → c.insert_tuple.new.tally ≤ c.args.tally.now + 18 * (paths c.reducts.inside.tree * n))
    (λ n few room. put_bounded c.reducts.inside.tree c.reducts.inside.tables.items c.args.leaf n c.args.tally.now
    c.insert_tuple.new.tally c.reducts.invariant.0 few room c.in_err-insert_tuple.ensures.bounded))

pub touch_path-requires-clause-family : goal.touch_path-requires-clause-family
touch_path-requires-clause-family g c =
    c.in_ok-insert_tuple.ensures.ok.family

pub touch_path-requires-clause-can : goal.touch_path-requires-clause-can
touch_path-requires-clause-can g c =
    can_insert c.reducts.inside.tree c.reducts.inside.tables.items c.insert_tuple.new.tables.items c.args.leaf
    c.args.tuple.now
    c.reducts.invariant.0 (rw (← c.reducts.view_is) at c.requires.leaf) (rw (← c.reducts.view_is) at c.requires.bare)
    c.in_ok-insert_tuple.ensures.ok c.insert_tuple.ensures.plain

pub touch_path-requires-clause-leaf : goal.touch_path-requires-clause-leaf
touch_path-requires-clause-leaf g c =
    rw (← c.reducts.view_is) at c.requires.leaf

pub returns-clause-inserted : goal.returns-clause-inserted
returns-clause-inserted g c = rw (← c.reducts.view_is) (
    inserted_all c.reducts.inside.tree c.reducts.inside.tables.items c.insert_tuple.new.tables.items
    c.touch_path.new.tables.items
    c.args.leaf c.args.tuple.now c.reducts.invariant.0 (rw (← c.reducts.view_is) at c.requires.leaf)
    (rw (← c.reducts.view_is) at c.requires.bare) c.in_ok-insert_tuple.ensures.ok
    c.insert_tuple.ensures.plain c.touch_path.ensures.touched c.touch_path.ensures.walked)

pub returns-clause-counted : goal.returns-clause-counted
returns-clause-counted g c = rw (← c.reducts.view_is) (
    λ n few. put_counted c.reducts.inside.tree c.reducts.inside.tables.items c.insert_tuple.new.tables.items
    c.touch_path.new.tables.items
    c.args.leaf c.args.tuple.now n c.args.tally.now c.insert_tuple.new.tally c.touch_path.new.tally
    c.reducts.invariant.0
    (rw (← c.reducts.view_is) at c.requires.leaf) c.in_ok-insert_tuple.ensures.ok c.touch_path.ensures.touched
    (inserted_all c.reducts.inside.tree c.reducts.inside.tables.items c.insert_tuple.new.tables.items
    c.touch_path.new.tables.items
    c.args.leaf c.args.tuple.now c.reducts.invariant.0 (rw (← c.reducts.view_is) at c.requires.leaf)
    (rw (← c.reducts.view_is) at c.requires.bare) c.in_ok-insert_tuple.ensures.ok
    c.insert_tuple.ensures.plain c.touch_path.ensures.touched c.touch_path.ensures.walked).sound few
    c.in_ok-insert_tuple.ensures.counted c.touch_path.ensures.counted)

pub returns-in_err-insert_tuple-clause-counted : goal.returns-in_err-insert_tuple-clause-counted
returns-in_err-insert_tuple-clause-counted g c =
    search rules

pub returns-clause-few : goal.returns-clause-few
returns-clause-few g c = rw (← c.reducts.view_is) (
    λ meets. c.touch_path.ensures.few 1 meets
    (few_lived c.reducts.inside.tree c.reducts.inside.tables.items c.insert_tuple.new.tables.items c.args.leaf
    c.args.tuple.now meets
    c.reducts.invariant.0 (rw (← c.reducts.view_is) at c.requires.leaf) (rw (← c.reducts.view_is) at c.requires.bare)
    c.in_ok-insert_tuple.ensures.ok c.insert_tuple.ensures.plain))

pub returns-clause-flat : goal.returns-clause-flat
returns-clause-flat g c = rw (← c.reducts.view_is) (
    λ meets.
    let t = c.reducts.inside.tree in
    let old = c.reducts.inside.tables.items in
    let mid = c.insert_tuple.new.tables.items in
    let l = c.in_ok-insert_tuple.ensures.ok in
    put_by t old mid c.args.leaf c.args.tuple.now 1 c.args.tally.now c.insert_tuple.new.tally c.touch_path.new.tally
    c.reducts.invariant.0 (rw (← c.reducts.view_is) at c.requires.leaf) l (omega arith)
    (more_length t old mid c.args.leaf meets c.reducts.invariant.0
    (reducts_lived t old mid c.args.leaf c.args.tuple.now c.reducts.invariant.0
    (rw (← c.reducts.view_is) at c.requires.leaf) l) (λ j v low apart. ap (λ (es : List Entry). count_of es v)
    (l.below j (leaf_below t c.args.leaf j c.reducts.invariant.0.family.is_tree low apart)))
    (one_lived t old mid c.args.leaf c.args.tuple.now l)) c.in_ok-insert_tuple.ensures.counted
    (c.touch_path.ensures.flat 1 meets (few_lived t old mid c.args.leaf c.args.tuple.now meets c.reducts.invariant.0
    (rw (← c.reducts.view_is) at c.requires.leaf) (rw (← c.reducts.view_is) at c.requires.bare) l
    c.insert_tuple.ensures.plain)))

pub returns-in_err-insert_tuple-clause-few : goal.returns-in_err-insert_tuple-clause-few
returns-in_err-insert_tuple-clause-few g c =
    search rules

pub returns-in_err-insert_tuple-clause-flat : goal.returns-in_err-insert_tuple-clause-flat
returns-in_err-insert_tuple-clause-flat g c =
    search rules

pub returns-in_err-insert_tuple-clause-flat_refused : goal.returns-in_err-insert_tuple-clause-flat_refused
returns-in_err-insert_tuple-clause-flat_refused g c = rw (← c.reducts.view_is) (
    on_err c.from_residual.result
    (HasEqualMeets c.reducts.inside.tree → c.insert_tuple.new.tally ≤ c.args.tally.now + 18 *
    (paths c.reducts.inside.tree * 1))
    (λ meets. let h = c.in_err-insert_tuple.ensures.flat meets in let n = few_nodes c.reducts.inside.tree
    c.reducts.invariant.0.family.is_tree in omega arith))

pub invariant_of-reducts : goal.invariant_of-reducts
invariant_of-reducts g c =
    rest_kept c.reducts.invariant
    (refused_kept c.reducts.inside.tree c.reducts.inside.tables.items c.insert_tuple.new.tables.items c.args.leaf
    c.reducts.invariant.0 c.in_err-insert_tuple.ensures.refused
    (bare_same c.reducts.inside.tree c.reducts.inside.tables.items c.insert_tuple.new.tables.items
    c.reducts.invariant.0.family
    c.in_err-insert_tuple.ensures.refused.family c.in_err-insert_tuple.ensures.refused.supports
    c.insert_tuple.ensures.plain
    (rw (← c.reducts.view_is) at c.requires.bare))).sound

pub invariant_of-reducts-2 : goal.invariant_of-reducts-2
invariant_of-reducts-2 g c =
    rest_kept c.reducts.invariant
    (inserted_all c.reducts.inside.tree c.reducts.inside.tables.items c.insert_tuple.new.tables.items
    c.touch_path.new.tables.items
    c.args.leaf c.args.tuple.now c.reducts.invariant.0 (rw (← c.reducts.view_is) at c.requires.leaf)
    (rw (← c.reducts.view_is) at c.requires.bare) c.in_ok-insert_tuple.ensures.ok
    c.insert_tuple.ensures.plain c.touch_path.ensures.touched c.touch_path.ensures.walked).sound
