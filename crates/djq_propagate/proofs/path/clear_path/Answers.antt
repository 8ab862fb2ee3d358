-- By the loop the path's nodes below the index have no marks, and each that was met is one step of the count.
use Rattle.std.proofs.Common.{◌≡◌, ℕ, ◌+◌, ◌*◌, ◌≤◌, List, length, ap, subst, sym, arith}
use Rattle.std.specs.Prelude.{slice_set}
use Rattle.djq_index.specs.Entries.{Entry}
use Rattle.djq_index.specs.Tuple.{one_if}
use Rattle.djq_tree.specs.Tree.{node_at, has_child}
use Rattle.djq_propagate.specs.Updates.{HasCleared, steps}
use Rattle.djq_propagate.proofs.Walks.{has_table}
use Rattle.djq_propagate.proofs.Families.{family_read, length_read, marks_read, cleared_into}
use Rattle.djq_index.proofs.ClearedMarks.{length_marks}
use Rattle.djq_reduct.proofs.Paths.{path_zero}
use Rattle.djq_propagate.proofs.PathMarks.{path_next, steps_none, steps_more, steps_count, cleared_leaf, cleared_more}
use Rattle.djq_propagate.proofs.Updates.{leaf_within}
use Rattle.djq_propagate.proofs.Batches.{few_cleared, few_clear_more}
use Rattle.djq_propagate.proofs.path.clear_path.Goals as goal

pub index_mut-requires : goal.index_mut-requires
index_mut-requires g c =
    let within = leaf_within c.args.tree.now c.args.leaf c.requires.family.is_tree c.requires.leaf in
    omega (
      arith,
      has_table c.args.tree.now c.args.tables.now.items c.args.leaf c.requires.family within,
      c.args.tables.now.ok.0,
    )

pub loop-up-init : goal.loop-up-init
loop-up-init g c =
    let r = family_read c.args.tree.now c.args.tables.now.items c.args.leaf c.index_mut.result.now c.requires.family
    (leaf_within c.args.tree.now c.args.leaf c.requires.family.is_tree c.requires.leaf) c.index_mut.ensures.value in
    let y = cleared_into r c.clear_marks.ensures.table c.clear_marks.ensures.key c.clear_marks.ensures.width
    c.clear_marks.ensures.cleared in
    record {
      at = sym (path_zero c.args.tree.now.nodes c.args.leaf);
      cleared = cleared_leaf c.args.tree.now c.args.tables.now.items
          (slice_set c.args.tables.now.items c.args.leaf c.clear_marks.new.self) c.args.leaf
          c.requires.family y.changed y.cleared;
      counted = λ n h. let s : (1 + steps c.args.tree.now.nodes c.args.leaf 0) * (1 + n)
          ≡ 1 * (1 + n) = ap (λ (x : ℕ). (1 + x) * (1 + n)) (steps_none c.args.tree.now.nodes c.args.leaf) in omega (
            arith,
            c.clear_marks.ensures.counted,
            length_marks c.index_mut.result.now.entries,
            length_read r,
            h
                c.args.leaf,
          );
      few = λ n few. few_cleared n c.args.tables.now.items (slice_set c.args.tables.now.items c.args.leaf c.clear_marks.new.self)
          c.args.leaf y.changed
          y.cleared few;
      flat = λ n few. let s : (1 + steps c.args.tree.now.nodes c.args.leaf 0) * (1 + n)
          ≡ 1 * (1 + n) = ap (λ (x : ℕ). (1 + x) * (1 + n)) (steps_none c.args.tree.now.nodes c.args.leaf) in omega (
            arith,
            c.clear_marks.ensures.counted,
            ap (λ (es : List Entry). length es) (marks_read r),
            few.each
                c.args.leaf,
          );
    }

pub clear_above-at-requires-clause-family : goal.clear_above-at-requires-clause-family
clear_above-at-requires-clause-family g c =
    c.loop-up.invariant.cleared.family

pub clear_above-at-requires-clause-within : goal.clear_above-at-requires-clause-within
clear_above-at-requires-clause-within g c =
    let len = c.len-up-end.ensures.count in
    let h = c.loop-up-test.true in
    omega arith

pub loop-up-preserved : goal.loop-up-preserved
loop-up-preserved g c =
    record {
      at = path_next c.args.tree.now.nodes c.args.leaf c.loop-up.up c.loop-up.at c.clear_above-at.result
          c.loop-up.invariant.at c.clear_above-at.ensures.next;
      cleared = cleared_more c.args.tree.now c.args.tables.now.items c.loop-up.tables.items
          c.clear_above-at.new.tables.items c.args.leaf c.loop-up.up c.loop-up.at c.requires.leaf
          c.loop-up.invariant.cleared c.loop-up.invariant.at c.clear_above-at.ensures.cleared
          c.clear_above-at.ensures.changed c.clear_above-at.ensures.apart;
      counted = λ n h. steps_count (1 + steps c.args.tree.now.nodes c.args.leaf (c.loop-up.up + 1))
          (1 + steps c.args.tree.now.nodes c.args.leaf c.loop-up.up)
          (one_if (has_child (node_at c.args.tree.now.nodes c.loop-up.up) c.loop-up.at)) (1 + n) c.loop-up.tally
          c.args.tally.now c.clear_above-at.new.tally
          (let s = steps_more c.args.tree.now.nodes c.args.leaf c.loop-up.up c.loop-up.at c.loop-up.invariant.at in
          omega arith)
          (c.loop-up.invariant.counted n h)
          (c.clear_above-at.ensures.counted n
          (λ i. let e = c.loop-up.invariant.cleared.long i in let b = h i in omega arith));
      few = λ n few. few_clear_more n (node_at c.args.tree.now.nodes c.loop-up.up) c.loop-up.tables.items
          c.clear_above-at.new.tables.items c.loop-up.at c.loop-up.up c.clear_above-at.ensures.cleared
          c.clear_above-at.ensures.changed c.clear_above-at.ensures.apart (c.loop-up.invariant.few n few);
      flat = λ n few. steps_count (1 + steps c.args.tree.now.nodes c.args.leaf (c.loop-up.up + 1))
          (1 + steps c.args.tree.now.nodes c.args.leaf c.loop-up.up)
          (one_if (has_child (node_at c.args.tree.now.nodes c.loop-up.up) c.loop-up.at)) (1 + n) c.loop-up.tally
          c.args.tally.now
          c.clear_above-at.new.tally
          (let s = steps_more c.args.tree.now.nodes c.args.leaf c.loop-up.up c.loop-up.at c.loop-up.invariant.at in
          omega arith)
          (c.loop-up.invariant.flat n few) (c.clear_above-at.ensures.flat n (c.loop-up.invariant.few n few));
    }

pub returns-clause-cleared : goal.returns-clause-cleared
returns-clause-cleared g c =
    let len = c.len-up-end.ensures.count in
    let h = c.loop-up-test.false in
    let x = c.loop-up.auto.up-end in
    let e : c.loop-up.up ≡ length c.args.tree.now.nodes = omega arith in
    subst (λ (k : ℕ). HasCleared c.args.tree.now c.args.tables.now.items c.loop-up.tables.items c.args.leaf k) e
    c.loop-up.invariant.cleared

pub returns-clause-counted : goal.returns-clause-counted
returns-clause-counted g c =
    let len = c.len-up-end.ensures.count in
    let h = c.loop-up-test.false in
    let x = c.loop-up.auto.up-end in
    let e : c.loop-up.up ≡ length c.args.tree.now.nodes = omega arith in
    λ n b. subst (λ (k : ℕ). c.loop-up.tally ≤ c.args.tally.now + (1 + steps c.args.tree.now.nodes c.args.leaf k) *
    (1 + n)) e (c.loop-up.invariant.counted n b)

pub returns-clause-flat : goal.returns-clause-flat
returns-clause-flat g c =
    let len = c.len-up-end.ensures.count in
    let h = c.loop-up-test.false in
    let x = c.loop-up.auto.up-end in
    let e : c.loop-up.up ≡ length c.args.tree.now.nodes = omega arith in
    λ n few. subst (λ (k : ℕ). c.loop-up.tally ≤ c.args.tally.now + (1 + steps c.args.tree.now.nodes c.args.leaf k) *
    (1 + n)) e (c.loop-up.invariant.flat n few)
