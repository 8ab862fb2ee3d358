-- By the loop the walk is at the path's last node below the index, and up to there the marks are made.
use Rattle.std.proofs.Common.{◌≡◌, ℕ, ◌+◌, ◌*◌, ◌≤◌, true, false, length, subst, sym, arith}
use Rattle.djq_index.specs.Tuple.{one_if}
use Rattle.djq_index.specs.Entries.{marks}
use Rattle.djq_tree.specs.Tree.{node_at, has_child}
use Rattle.djq_reduct.specs.Tables.{entries_at}
use Rattle.djq_propagate.specs.Touches.{IsWalked, reach}
use Rattle.djq_propagate.specs.Updates.{steps}
use Rattle.djq_reduct.proofs.Paths.{path_zero}
use Rattle.djq_propagate.proofs.PathMarks.{path_next, up_none, up_more, steps_more, steps_count}
use Rattle.djq_propagate.proofs.Marks.{walk_none, walk_more}
use Rattle.djq_propagate.proofs.Batches.{few_more}
use Rattle.djq_propagate.proofs.path.touch_path.Goals as goal

pub loop-up-init : goal.loop-up-init
loop-up-init g c =
    record {
      at = sym (path_zero c.args.tree.now.nodes c.args.leaf);
      touched = up_none c.args.tree.now
          c.args.tables.now.items c.args.leaf c.requires.family;
      walked = walk_none c.args.tree.now
          c.args.tables.now.items c.args.leaf c.args.removal;
      counted = λ n h. omega arith;
      few = λ n meets few. few;
      flat =
          λ n meets few. omega arith;
    }

pub touch_above-at-requires-clause-family : goal.touch_above-at-requires-clause-family
touch_above-at-requires-clause-family g c =
    c.loop-up.invariant.touched.family

pub touch_above-at-requires-clause-within : goal.touch_above-at-requires-clause-within
touch_above-at-requires-clause-within g c =
    let len = c.len-up-end.ensures.count in
    let h = c.loop-up-test.true in
    omega arith

pub loop-up-preserved : goal.loop-up-preserved
loop-up-preserved g c =
    record {
      at = path_next c.args.tree.now.nodes c.args.leaf c.loop-up.up c.loop-up.at c.touch_above-at.result
          c.loop-up.invariant.at c.touch_above-at.ensures.next;
      touched = up_more c.args.tree.now c.args.tables.now.items c.loop-up.tables.items c.touch_above-at.new.tables.items
          c.args.leaf c.loop-up.up c.loop-up.at c.args.tree.now.second_stage c.args.removal
          (λ v. reach (node_at c.args.tree.now.nodes c.loop-up.up) false c.loop-up.at c.loop-up.tables.items
          (marks (entries_at c.loop-up.tables.items c.loop-up.at)) v)
          (λ v. reach (node_at c.args.tree.now.nodes c.loop-up.up) true c.loop-up.at c.loop-up.tables.items
          (marks (entries_at c.loop-up.tables.items c.loop-up.at)) v)
          c.loop-up.invariant.touched c.loop-up.invariant.at c.touch_above-at.ensures.above
          c.touch_above-at.ensures.below c.touch_above-at.ensures.idle c.touch_above-at.ensures.apart;
      walked = walk_more c.args.tree.now c.args.tables.now.items c.loop-up.tables.items
          c.touch_above-at.new.tables.items c.args.leaf c.loop-up.up c.loop-up.at c.args.removal c.requires.family
          c.requires.leaf c.requires.can
          (let len = c.len-up-end.ensures.count in let h = c.loop-up-test.true in omega arith)
          c.loop-up.invariant.touched c.loop-up.invariant.walked c.loop-up.invariant.at c.touch_above-at.ensures.above
          c.touch_above-at.ensures.below c.touch_above-at.ensures.idle c.touch_above-at.ensures.apart;
      counted = λ n h. steps_count (steps c.args.tree.now.nodes c.args.leaf (c.loop-up.up + 1))
          (steps c.args.tree.now.nodes c.args.leaf c.loop-up.up)
          (one_if (has_child (node_at c.args.tree.now.nodes c.loop-up.up) c.loop-up.at)) (1 + 5 * n) c.loop-up.tally
          c.args.tally.now c.touch_above-at.new.tally
          (steps_more c.args.tree.now.nodes c.args.leaf c.loop-up.up c.loop-up.at c.loop-up.invariant.at)
          (c.loop-up.invariant.counted n h)
          (c.touch_above-at.ensures.counted n
          (λ i. let e = c.loop-up.invariant.touched.long i in let b = h i in omega arith));
      few = λ n meets few. few_more n c.args.tree.now c.args.tables.now.items c.loop-up.tables.items
          c.touch_above-at.new.tables.items c.args.leaf c.loop-up.up c.loop-up.at c.args.removal meets c.requires.family
          c.requires.leaf c.requires.can
          (let len = c.len-up-end.ensures.count in let h = c.loop-up-test.true in omega arith)
          c.loop-up.invariant.touched c.loop-up.invariant.walked c.loop-up.invariant.at c.touch_above-at.ensures.above
          c.touch_above-at.ensures.below c.touch_above-at.ensures.idle c.touch_above-at.ensures.apart
          (c.loop-up.invariant.few n meets few);
      flat = λ n meets few. steps_count (steps c.args.tree.now.nodes c.args.leaf (c.loop-up.up + 1))
          (steps c.args.tree.now.nodes c.args.leaf c.loop-up.up)
          (one_if (has_child (node_at c.args.tree.now.nodes c.loop-up.up) c.loop-up.at)) (1 + 5 * n) c.loop-up.tally
          c.args.tally.now
          c.touch_above-at.new.tally
          (steps_more c.args.tree.now.nodes c.args.leaf c.loop-up.up c.loop-up.at c.loop-up.invariant.at)
          (c.loop-up.invariant.flat n meets few)
          (c.touch_above-at.ensures.flat n meets ((c.loop-up.invariant.few n meets few).each c.loop-up.at));
    }

pub returns-clause-touched : goal.returns-clause-touched
returns-clause-touched g c =
    c.loop-up.invariant.touched

pub returns-clause-walked : goal.returns-clause-walked
returns-clause-walked g c =
    let len = c.len-up-end.ensures.count in
    let h = c.loop-up-test.false in
    let x = c.loop-up.auto.up-end in
    let e : c.loop-up.up ≡ length c.args.tree.now.nodes = omega arith in
    subst (λ (k : ℕ). IsWalked c.args.tree.now c.args.tables.now.items c.loop-up.tables.items c.args.leaf c.args.removal
    k) e c.loop-up.invariant.walked

pub returns-clause-counted : goal.returns-clause-counted
returns-clause-counted g c =
    let len = c.len-up-end.ensures.count in
    let h = c.loop-up-test.false in
    let x = c.loop-up.auto.up-end in
    let e : c.loop-up.up ≡ length c.args.tree.now.nodes = omega arith in
    λ n b. subst (λ (k : ℕ). c.loop-up.tally ≤ c.args.tally.now + steps c.args.tree.now.nodes c.args.leaf k *
    (1 + 5 * n)) e (c.loop-up.invariant.counted n b)

pub returns-clause-few : goal.returns-clause-few
returns-clause-few g c =
    c.loop-up.invariant.few

pub returns-clause-flat : goal.returns-clause-flat
returns-clause-flat g c =
    let len = c.len-up-end.ensures.count in
    let h = c.loop-up-test.false in
    let x = c.loop-up.auto.up-end in
    let e : c.loop-up.up ≡ length c.args.tree.now.nodes = omega arith in
    λ n meets few. subst (λ (k : ℕ). c.loop-up.tally ≤ c.args.tally.now + steps c.args.tree.now.nodes c.args.leaf k *
    (1 + 5 * n)) e (c.loop-up.invariant.flat n meets few)
