-- By the loop what the marks before the index reach is marked; the children are below and stay as they were.
use Rattle.std.proofs.Common.{ℕ, ◌+◌, List, [], length, take, drop, ap, sym, ◌∙◌, arith}
use Rattle.djq_index.specs.Entries.{Entry, marks, head_at}
use Rattle.djq_tree.specs.Tree.{node_at}
use Rattle.djq_reduct.specs.Tables.{entries_at}
use Rattle.djq_propagate.specs.Touches.{reach_one, reach, cost_one}
use Rattle.djq_propagate.proofs.Families.{same_keys, family_read, marks_read, length_read, live_read}
use Rattle.djq_propagate.proofs.PathMarks.{head_none}
use Rattle.djq_propagate.proofs.Gains.{width_narrow}
use Rattle.djq_propagate.proofs.Walks.{has_table, cut_of, as_live, moved_at}
use Rattle.djq_propagate.proofs.Touches.{touched_none, touched_as, touched_more, reach_still, cost_still, reach_more}
use Rattle.djq_propagate.proofs.Touches.{reach_nothing, cost_none, cost_more, cost_le, cost_bound, take_whole, cut_mark}
use Rattle.djq_propagate.proofs.Touches.{drop_marks, step_lower, kids_still}
use Rattle.djq_propagate.proofs.Batches.{step_few}
use Rattle.djq_propagate.proofs.touch.touch_step.Goals as goal

pub index-table-requires : goal.index-table-requires
index-table-requires g c =
    let low = step_lower c.args.tree.now c.args.tables.now.items c.args.at c.args.up c.requires.step in
    let within = c.requires.step.within in
    omega (
      arith,
      has_table c.args.tree.now c.args.tables.now.items c.args.at c.requires.step.family (omega arith),
      c.args.tables.now.ok.0,
    )

pub loop-done-init : goal.loop-done-init
loop-done-init g c =
    let r = family_read c.args.tree.now c.args.tables.now.items c.args.at c.index-table.result.now
    c.requires.step.family
    (omega (
      arith,
      c.requires.step.within,
      step_lower c.args.tree.now c.args.tables.now.items c.args.at c.args.up
          c.requires.step,
    )) c.index-table.ensures in
    record {
      next = c.first_marked-next.ensures.found ∙ ap (λ (es : List Entry). head_at es) (marks_read r);
      touched = touched_none c.args.tree.now c.args.tables.now.items
          c.args.up (λ v. reach (node_at c.args.tree.now.nodes c.args.up) c.args.going c.args.at c.args.tables.now.items
          [] v) c.requires.step.family
          (λ v there some. absurd
          (omega (
            arith,
            reach_nothing (node_at c.args.tree.now.nodes c.args.up) c.args.going c.args.at
                c.args.tables.now.items v,
          )));
      counted = omega (
        arith,
        c.first_marked-next.ensures.counted,
        cost_none (node_at c.args.tree.now.nodes c.args.up) c.args.at
            c.args.tables.now.items,
      );
    }

pub read_at-requires-clause-within : goal.read_at-requires-clause-within
read_at-requires-clause-within g c =
    let low = step_lower c.args.tree.now c.args.tables.now.items c.args.at c.args.up c.requires.step in
    let within = c.requires.step.within in
    has_table c.args.tree.now c.loop-done.tables.items c.args.at c.loop-done.invariant.touched.family (omega arith)

pub read_at-requires-clause-narrow : goal.read_at-requires-clause-narrow
read_at-requires-clause-narrow g c =
    let low = step_lower c.args.tree.now c.args.tables.now.items c.args.at c.args.up c.requires.step in
    let within = c.requires.step.within in
    width_narrow c.args.tree.now c.loop-done.tables.items c.args.at c.loop-done.invariant.touched.family (omega arith)

pub read_at-requires-clause-live : goal.read_at-requires-clause-live
read_at-requires-clause-live g c =
    let k = cut_of (marks (entries_at c.args.tables.now.items c.args.at)) c.loop-done.done c.loop-done.next
    c.in-Some.place c.loop-done.invariant.next c.in-Some.is in
    let low = step_lower c.args.tree.now c.args.tables.now.items c.args.at c.args.up c.requires.step in
    let within = c.requires.step.within in
    as_live (entries_at c.loop-done.tables.items c.args.at) c.in-Some.place k.entry.tuple
    (moved_at (entries_at c.args.tables.now.items c.args.at) (entries_at c.loop-done.tables.items c.args.at)
    c.in-Some.place k.entry.tuple (c.loop-done.invariant.touched.others c.args.at (omega arith))
    (cut_mark (entries_at c.args.tables.now.items c.args.at) c.loop-done.done c.in-Some.place k))

pub touch_from-requires-clause-step : goal.touch_from-requires-clause-step
touch_from-requires-clause-step g c =
    record {
      family = c.loop-done.invariant.touched.family;
      within = c.requires.step.within;
      child =
          c.requires.step.child;
    }

pub touch_from-requires-clause-wide : goal.touch_from-requires-clause-wide
touch_from-requires-clause-wide g c =
    ap (λ (w : List ℕ). length w) c.as_slice.ensures ∙ c.read_at.ensures.wide

pub index-requires : goal.index-requires
index-requires g c =
    let low = step_lower c.args.tree.now c.args.tables.now.items c.args.at c.args.up c.requires.step in
    let within = c.requires.step.within in
    omega (
      arith,
      has_table c.args.tree.now c.touch_from.new.tables.items c.args.at c.touch_from.ensures.touched.family
          (omega arith),
      c.touch_from.new.tables.ok.0,
    )

pub next_marked-next-requires : goal.next_marked-next-requires
next_marked-next-requires g c =
    let k = cut_of (marks (entries_at c.args.tables.now.items c.args.at)) c.loop-done.done c.loop-done.next
    c.in-Some.place c.loop-done.invariant.next c.in-Some.is in
    let low = step_lower c.args.tree.now c.args.tables.now.items c.args.at c.args.up c.requires.step in
    let within = c.requires.step.within in
    let n = touched_more c.args.tree.now c.args.tables.now.items c.loop-done.tables.items c.touch_from.new.tables.items
    c.args.up (λ v. reach (node_at c.args.tree.now.nodes c.args.up) c.args.going c.args.at c.args.tables.now.items
    (take c.loop-done.done (marks (entries_at c.args.tables.now.items c.args.at))) v)
    (λ v. reach_one (node_at c.args.tree.now.nodes c.args.up) c.args.going c.args.at c.loop-done.tables.items
    c.as_slice.result.now v)
    (λ v. reach (node_at c.args.tree.now.nodes c.args.up) c.args.going c.args.at c.args.tables.now.items
    (take (c.loop-done.done + 1) (marks (entries_at c.args.tables.now.items c.args.at))) v) c.requires.step.family
    c.loop-done.invariant.touched c.touch_from.ensures.touched
    (λ v. reach_more (node_at c.args.tree.now.nodes c.args.up) c.args.going c.args.at c.args.tables.now.items
    (marks (entries_at c.args.tables.now.items c.args.at)) c.loop-done.done k.entry v k.is
    ∙ ap (λ (x : ℕ). reach (node_at c.args.tree.now.nodes c.args.up) c.args.going c.args.at c.args.tables.now.items
    (take c.loop-done.done (marks (entries_at c.args.tables.now.items c.args.at))) v + x)
    (sym (ap (λ (w : List ℕ). reach_one (node_at c.args.tree.now.nodes c.args.up) c.args.going c.args.at
    c.loop-done.tables.items w v)
    (c.as_slice.ensures ∙ c.read_at.ensures.tuple k.entry.tuple
    (moved_at (entries_at c.args.tables.now.items c.args.at) (entries_at c.loop-done.tables.items c.args.at)
    c.in-Some.place k.entry.tuple (c.loop-done.invariant.touched.others c.args.at (omega arith))
    (cut_mark (entries_at c.args.tables.now.items c.args.at) c.loop-done.done c.in-Some.place k)))
    ∙ reach_still (node_at c.args.tree.now.nodes c.args.up) c.args.going c.args.at c.args.tables.now.items
    c.loop-done.tables.items k.entry.tuple v
    (same_keys c.args.tree.now c.args.tables.now.items c.loop-done.tables.items c.requires.step.family
    c.loop-done.invariant.touched.family)
    (kids_still c.args.tree.now c.args.tables.now.items c.loop-done.tables.items c.args.up
    (λ v. reach (node_at c.args.tree.now.nodes c.args.up) c.args.going c.args.at c.args.tables.now.items
    (take c.loop-done.done (marks (entries_at c.args.tables.now.items c.args.at))) v) c.requires.step.family.is_tree
    c.loop-done.invariant.touched)))) in
    let r = family_read c.args.tree.now c.touch_from.new.tables.items c.args.at c.index.result.now
    c.touch_from.ensures.touched.family (omega arith) c.index.ensures in
    live_read r
    (moved_at (entries_at c.args.tables.now.items c.args.at) (entries_at c.touch_from.new.tables.items c.args.at)
    c.in-Some.place k.entry.tuple (n.others c.args.at (omega arith))
    (cut_mark (entries_at c.args.tables.now.items c.args.at) c.loop-done.done c.in-Some.place k))

pub loop-done-smaller : goal.loop-done-smaller
loop-done-smaller g c =
    let h = c.loop-done-test.true in
    omega arith

pub loop-done-preserved : goal.loop-done-preserved
loop-done-preserved g c =
    let k = cut_of (marks (entries_at c.args.tables.now.items c.args.at)) c.loop-done.done c.loop-done.next
    c.in-Some.place c.loop-done.invariant.next c.in-Some.is in
    let low = step_lower c.args.tree.now c.args.tables.now.items c.args.at c.args.up c.requires.step in
    let within = c.requires.step.within in
    let n = touched_more c.args.tree.now c.args.tables.now.items c.loop-done.tables.items c.touch_from.new.tables.items
    c.args.up (λ v. reach (node_at c.args.tree.now.nodes c.args.up) c.args.going c.args.at c.args.tables.now.items
    (take c.loop-done.done (marks (entries_at c.args.tables.now.items c.args.at))) v)
    (λ v. reach_one (node_at c.args.tree.now.nodes c.args.up) c.args.going c.args.at c.loop-done.tables.items
    c.as_slice.result.now v)
    (λ v. reach (node_at c.args.tree.now.nodes c.args.up) c.args.going c.args.at c.args.tables.now.items
    (take (c.loop-done.done + 1) (marks (entries_at c.args.tables.now.items c.args.at))) v) c.requires.step.family
    c.loop-done.invariant.touched c.touch_from.ensures.touched
    (λ v. reach_more (node_at c.args.tree.now.nodes c.args.up) c.args.going c.args.at c.args.tables.now.items
    (marks (entries_at c.args.tables.now.items c.args.at)) c.loop-done.done k.entry v k.is
    ∙ ap (λ (x : ℕ). reach (node_at c.args.tree.now.nodes c.args.up) c.args.going c.args.at c.args.tables.now.items
    (take c.loop-done.done (marks (entries_at c.args.tables.now.items c.args.at))) v + x)
    (sym (ap (λ (w : List ℕ). reach_one (node_at c.args.tree.now.nodes c.args.up) c.args.going c.args.at
    c.loop-done.tables.items w v)
    (c.as_slice.ensures ∙ c.read_at.ensures.tuple k.entry.tuple
    (moved_at (entries_at c.args.tables.now.items c.args.at) (entries_at c.loop-done.tables.items c.args.at)
    c.in-Some.place k.entry.tuple (c.loop-done.invariant.touched.others c.args.at (omega arith))
    (cut_mark (entries_at c.args.tables.now.items c.args.at) c.loop-done.done c.in-Some.place k)))
    ∙ reach_still (node_at c.args.tree.now.nodes c.args.up) c.args.going c.args.at c.args.tables.now.items
    c.loop-done.tables.items k.entry.tuple v
    (same_keys c.args.tree.now c.args.tables.now.items c.loop-done.tables.items c.requires.step.family
    c.loop-done.invariant.touched.family)
    (kids_still c.args.tree.now c.args.tables.now.items c.loop-done.tables.items c.args.up
    (λ v. reach (node_at c.args.tree.now.nodes c.args.up) c.args.going c.args.at c.args.tables.now.items
    (take c.loop-done.done (marks (entries_at c.args.tables.now.items c.args.at))) v) c.requires.step.family.is_tree
    c.loop-done.invariant.touched)))) in
    let r = family_read c.args.tree.now c.touch_from.new.tables.items c.args.at c.index.result.now
    c.touch_from.ensures.touched.family (omega arith) c.index.ensures in
    record {
      next = c.next_marked-next.ensures.found
          (take c.loop-done.done (marks (entries_at c.args.tables.now.items c.args.at))) k.entry
          (drop (c.loop-done.done + 1) (marks (entries_at c.args.tables.now.items c.args.at)))
          (marks_read r ∙ ap (λ (es : List Entry). marks es) (n.others c.args.at (omega arith)) ∙ k.is) k.at;
      touched = n;
      counted = omega (
        arith,
        c.loop-done.invariant.counted,
        c.touch_from.ensures.counted,
        c.next_marked-next.ensures.counted,
        cost_more (node_at c.args.tree.now.nodes c.args.up) c.args.at
            c.args.tables.now.items (marks (entries_at c.args.tables.now.items c.args.at))
            c.loop-done.done k.entry k.is,
        ap (λ (w : List ℕ). cost_one (node_at c.args.tree.now.nodes c.args.up) c.args.at c.loop-done.tables.items w)
            (c.as_slice.ensures ∙ c.read_at.ensures.tuple k.entry.tuple
            (moved_at (entries_at c.args.tables.now.items c.args.at) (entries_at c.loop-done.tables.items c.args.at)
            c.in-Some.place k.entry.tuple (c.loop-done.invariant.touched.others c.args.at (omega arith))
            (cut_mark (entries_at c.args.tables.now.items c.args.at) c.loop-done.done c.in-Some.place k))),
        cost_still
            (node_at c.args.tree.now.nodes c.args.up) c.args.at c.args.tables.now.items c.loop-done.tables.items
            k.entry.tuple (same_keys c.args.tree.now c.args.tables.now.items c.loop-done.tables.items
            c.requires.step.family c.loop-done.invariant.touched.family)
            (kids_still c.args.tree.now c.args.tables.now.items c.loop-done.tables.items c.args.up
            (λ v. reach (node_at c.args.tree.now.nodes c.args.up) c.args.going c.args.at c.args.tables.now.items
            (take c.loop-done.done (marks (entries_at c.args.tables.now.items c.args.at))) v)
            c.requires.step.family.is_tree c.loop-done.invariant.touched),
      );
    }

pub returns-in-None-clause-touched : goal.returns-in-None-clause-touched
returns-in-None-clause-touched g c =
    touched_as c.args.tree.now c.args.tables.now.items c.loop-done.tables.items c.args.up
    (λ v. reach (node_at c.args.tree.now.nodes c.args.up) c.args.going c.args.at c.args.tables.now.items
    (take c.loop-done.done (marks (entries_at c.args.tables.now.items c.args.at))) v)
    (λ v. reach (node_at c.args.tree.now.nodes c.args.up) c.args.going c.args.at c.args.tables.now.items
    (marks (entries_at c.args.tables.now.items c.args.at)) v) c.loop-done.invariant.touched
    (λ v. ap (λ (es : List Entry). reach (node_at c.args.tree.now.nodes c.args.up) c.args.going c.args.at
    c.args.tables.now.items es v)
    (sym (take_whole (marks (entries_at c.args.tables.now.items c.args.at)) c.loop-done.done
    (head_none (drop c.loop-done.done (marks (entries_at c.args.tables.now.items c.args.at)))
    (sym c.loop-done.invariant.next ∙ c.in-None.is)))))

pub returns-in-None-clause-counted : goal.returns-in-None-clause-counted
returns-in-None-clause-counted g c =
    λ n h. omega (
      arith,
      c.loop-done.invariant.counted,
      cost_le (node_at c.args.tree.now.nodes c.args.up) c.args.at
          c.args.tables.now.items (marks (entries_at c.args.tables.now.items c.args.at)) c.loop-done.done,
      cost_bound
          c.args.tree.now c.args.tables.now.items (node_at c.args.tree.now.nodes c.args.up) c.args.at n
          c.requires.step.family h,
    )

pub returns-clause-touched : goal.returns-clause-touched
returns-clause-touched g c =
    let h = c.loop-done-test.false in
    let x = c.loop-done.auto.done-end in
    let r = family_read c.args.tree.now c.args.tables.now.items c.args.at c.index-table.result.now
    c.requires.step.family
    (omega (
      arith,
      c.requires.step.within,
      step_lower c.args.tree.now c.args.tables.now.items c.args.at c.args.up
          c.requires.step,
    )) c.index-table.ensures in
    touched_as c.args.tree.now c.args.tables.now.items c.loop-done.tables.items c.args.up
    (λ v. reach (node_at c.args.tree.now.nodes c.args.up) c.args.going c.args.at c.args.tables.now.items
    (take c.loop-done.done (marks (entries_at c.args.tables.now.items c.args.at))) v)
    (λ v. reach (node_at c.args.tree.now.nodes c.args.up) c.args.going c.args.at c.args.tables.now.items
    (marks (entries_at c.args.tables.now.items c.args.at)) v) c.loop-done.invariant.touched
    (λ v. ap (λ (es : List Entry). reach (node_at c.args.tree.now.nodes c.args.up) c.args.going c.args.at
    c.args.tables.now.items es v)
    (sym (take_whole (marks (entries_at c.args.tables.now.items c.args.at)) c.loop-done.done
    (drop_marks (entries_at c.args.tables.now.items c.args.at) c.loop-done.done
    (omega (arith, c.len-count.ensures, length_read r))))))

pub returns-clause-counted : goal.returns-clause-counted
returns-clause-counted g c =
    λ n h. omega (
      arith,
      c.loop-done.invariant.counted,
      cost_le (node_at c.args.tree.now.nodes c.args.up) c.args.at
          c.args.tables.now.items (marks (entries_at c.args.tables.now.items c.args.at)) c.loop-done.done,
      cost_bound
          c.args.tree.now c.args.tables.now.items (node_at c.args.tree.now.nodes c.args.up) c.args.at n
          c.requires.step.family h,
    )

pub returns-in-None-clause-flat : goal.returns-in-None-clause-flat
returns-in-None-clause-flat g c =
    λ n meets few. omega (
      arith,
      c.loop-done.invariant.counted,
      cost_le (node_at c.args.tree.now.nodes c.args.up)
          c.args.at c.args.tables.now.items (marks (entries_at c.args.tables.now.items c.args.at)) c.loop-done.done,
      step_few n c.args.tree.now c.args.tables.now.items c.args.at c.args.up meets c.requires.step few,
    )

pub returns-clause-flat : goal.returns-clause-flat
returns-clause-flat g c =
    λ n meets few. omega (
      arith,
      c.loop-done.invariant.counted,
      cost_le (node_at c.args.tree.now.nodes c.args.up)
          c.args.at c.args.tables.now.items (marks (entries_at c.args.tables.now.items c.args.at)) c.loop-done.done,
      step_few n c.args.tree.now c.args.tables.now.items c.args.at c.args.up meets c.requires.step few,
    )
