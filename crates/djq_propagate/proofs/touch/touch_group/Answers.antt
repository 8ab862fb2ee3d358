-- By the loop those of the group before the index are marked; the guard is below the meet and stays as it was.
use Rattle.std.proofs.Common.{ℕ, ◌+◌, List, take, drop, ap, sym, ◌∙◌, arith}
use Rattle.djq_index.specs.Tuple.{same, one_if}
use Rattle.djq_index.specs.Entries.{Entry, count_of, group_of, head_at}
use Rattle.djq_index.proofs.Tuples.{length_grp}
use Rattle.djq_reduct.specs.Tables.{entries_at, key_at}
use Rattle.djq_propagate.proofs.PathMarks.{head_none, drop_group, take_all, cut_cnt}
use Rattle.djq_propagate.proofs.Gains.{width_narrow}
use Rattle.djq_propagate.proofs.Walks.{has_table, cut_of, cut_at, as_live, moved_at, group_still}
use Rattle.djq_propagate.proofs.Families.{family_read, group_read, length_read, live_read}
use Rattle.djq_propagate.proofs.Touches.{touched_none, touched_as, touched_more, take_zero, cut_length}
use Rattle.djq_propagate.proofs.touch.touch_group.Goals as goal

pub index-table-requires : goal.index-table-requires
index-table-requires g c =
    let glow = c.requires.lower in
    let within = c.requires.within in
    omega (
      arith,
      has_table c.args.tree.now c.args.tables.now.items c.args.guard c.requires.family (omega arith),
      c.args.tables.now.ok.0,
    )

pub loop-done-init : goal.loop-done-init
loop-done-init g c =
    let r = family_read c.args.tree.now c.args.tables.now.items c.args.guard c.index-table.result.now c.requires.family
    (omega (arith, c.requires.lower, c.requires.within)) c.index-table.ensures in
    record {
      next = c.first-next.ensures.found ∙ ap (λ (es : List Entry). head_at es) (group_read c.args.cells.now r);
      touched = touched_none c.args.tree.now c.args.tables.now.items
          c.args.up (λ v. count_of (take 0
          (group_of (key_at c.args.tables.now.items c.args.guard) (entries_at c.args.tables.now.items c.args.guard)
          c.args.cells.now)) v) c.requires.family
          (λ v there some. absurd
          (omega (
            arith,
            take_zero
                (group_of (key_at c.args.tables.now.items c.args.guard) (entries_at c.args.tables.now.items
                c.args.guard)
                c.args.cells.now) v,
          )));
      bound = omega arith;
      counted = omega (arith, c.first-next.ensures.counted);
    }

pub read_at-requires-clause-within : goal.read_at-requires-clause-within
read_at-requires-clause-within g c =
    let glow = c.requires.lower in
    let within = c.requires.within in
    has_table c.args.tree.now c.loop-done.tables.items c.args.guard c.loop-done.invariant.touched.family (omega arith)

pub read_at-requires-clause-narrow : goal.read_at-requires-clause-narrow
read_at-requires-clause-narrow g c =
    let glow = c.requires.lower in
    let within = c.requires.within in
    width_narrow c.args.tree.now c.loop-done.tables.items c.args.guard c.loop-done.invariant.touched.family
    (omega arith)

pub read_at-requires-clause-live : goal.read_at-requires-clause-live
read_at-requires-clause-live g c =
    let k = cut_of (group_of (key_at c.args.tables.now.items c.args.guard) (entries_at c.args.tables.now.items
    c.args.guard)
    c.args.cells.now) c.loop-done.done c.loop-done.next c.in-Some.place c.loop-done.invariant.next c.in-Some.is in
    let glow = c.requires.lower in
    let within = c.requires.within in
    as_live (entries_at c.loop-done.tables.items c.args.guard) c.in-Some.place k.entry.tuple
    (moved_at (entries_at c.args.tables.now.items c.args.guard) (entries_at c.loop-done.tables.items c.args.guard)
    c.in-Some.place k.entry.tuple (c.loop-done.invariant.touched.others c.args.guard (omega arith))
    (cut_at (key_at c.args.tables.now.items c.args.guard) (entries_at c.args.tables.now.items c.args.guard)
    c.args.cells.now c.loop-done.done c.in-Some.place k))

pub touch_tuple-requires-clause-family : goal.touch_tuple-requires-clause-family
touch_tuple-requires-clause-family g c =
    c.loop-done.invariant.touched.family

pub touch_tuple-requires-clause-within : goal.touch_tuple-requires-clause-within
touch_tuple-requires-clause-within g c =
    c.requires.within

pub index-requires : goal.index-requires
index-requires g c =
    let glow = c.requires.lower in
    let within = c.requires.within in
    omega (
      arith,
      has_table c.args.tree.now c.touch_tuple.new.tables.items c.args.guard c.touch_tuple.ensures.touched.family
          (omega arith),
      c.touch_tuple.new.tables.ok.0,
    )

pub next-next-requires : goal.next-next-requires
next-next-requires g c =
    let k = cut_of (group_of (key_at c.args.tables.now.items c.args.guard) (entries_at c.args.tables.now.items
    c.args.guard)
    c.args.cells.now) c.loop-done.done c.loop-done.next c.in-Some.place c.loop-done.invariant.next c.in-Some.is in
    let glow = c.requires.lower in
    let within = c.requires.within in
    let n = touched_more c.args.tree.now c.args.tables.now.items c.loop-done.tables.items c.touch_tuple.new.tables.items
    c.args.up (λ v. count_of (take c.loop-done.done
    (group_of (key_at c.args.tables.now.items c.args.guard) (entries_at c.args.tables.now.items c.args.guard)
    c.args.cells.now)) v) (λ v. one_if (same c.as_slice.result.now v))
    (λ v. count_of (take (c.loop-done.done + 1)
    (group_of (key_at c.args.tables.now.items c.args.guard) (entries_at c.args.tables.now.items c.args.guard)
    c.args.cells.now)) v) c.requires.family c.loop-done.invariant.touched c.touch_tuple.ensures.touched
    (λ v. (cut_cnt (group_of (key_at c.args.tables.now.items c.args.guard)
    (entries_at c.args.tables.now.items c.args.guard) c.args.cells.now) c.loop-done.done k.entry v k.is).1
    ∙ ap (λ (w : List ℕ). count_of
    (take c.loop-done.done
    (group_of (key_at c.args.tables.now.items c.args.guard) (entries_at c.args.tables.now.items c.args.guard)
    c.args.cells.now)) v + one_if (same w v))
    (sym (c.as_slice.ensures
    ∙ c.read_at.ensures.tuple k.entry.tuple
    (moved_at (entries_at c.args.tables.now.items c.args.guard) (entries_at c.loop-done.tables.items c.args.guard)
    c.in-Some.place k.entry.tuple (c.loop-done.invariant.touched.others c.args.guard (omega arith))
    (cut_at (key_at c.args.tables.now.items c.args.guard) (entries_at c.args.tables.now.items c.args.guard)
    c.args.cells.now c.loop-done.done c.in-Some.place k))))) in
    let r = family_read c.args.tree.now c.touch_tuple.new.tables.items c.args.guard c.index.result.now
    c.touch_tuple.ensures.touched.family (omega arith) c.index.ensures in
    live_read r
    (moved_at (entries_at c.args.tables.now.items c.args.guard)
    (entries_at c.touch_tuple.new.tables.items c.args.guard) c.in-Some.place k.entry.tuple
    (n.others c.args.guard (omega arith))
    (cut_at (key_at c.args.tables.now.items c.args.guard) (entries_at c.args.tables.now.items c.args.guard)
    c.args.cells.now c.loop-done.done c.in-Some.place k))

pub loop-done-smaller : goal.loop-done-smaller
loop-done-smaller g c =
    let h = c.loop-done-test.true in
    omega arith

pub loop-done-preserved : goal.loop-done-preserved
loop-done-preserved g c =
    let k = cut_of (group_of (key_at c.args.tables.now.items c.args.guard) (entries_at c.args.tables.now.items
    c.args.guard)
    c.args.cells.now) c.loop-done.done c.loop-done.next c.in-Some.place c.loop-done.invariant.next c.in-Some.is in
    let glow = c.requires.lower in
    let within = c.requires.within in
    let n = touched_more c.args.tree.now c.args.tables.now.items c.loop-done.tables.items c.touch_tuple.new.tables.items
    c.args.up (λ v. count_of (take c.loop-done.done
    (group_of (key_at c.args.tables.now.items c.args.guard) (entries_at c.args.tables.now.items c.args.guard)
    c.args.cells.now)) v) (λ v. one_if (same c.as_slice.result.now v))
    (λ v. count_of (take (c.loop-done.done + 1)
    (group_of (key_at c.args.tables.now.items c.args.guard) (entries_at c.args.tables.now.items c.args.guard)
    c.args.cells.now)) v) c.requires.family c.loop-done.invariant.touched c.touch_tuple.ensures.touched
    (λ v. (cut_cnt (group_of (key_at c.args.tables.now.items c.args.guard)
    (entries_at c.args.tables.now.items c.args.guard) c.args.cells.now) c.loop-done.done k.entry v k.is).1
    ∙ ap (λ (w : List ℕ). count_of
    (take c.loop-done.done
    (group_of (key_at c.args.tables.now.items c.args.guard) (entries_at c.args.tables.now.items c.args.guard)
    c.args.cells.now)) v + one_if (same w v))
    (sym (c.as_slice.ensures
    ∙ c.read_at.ensures.tuple k.entry.tuple
    (moved_at (entries_at c.args.tables.now.items c.args.guard) (entries_at c.loop-done.tables.items c.args.guard)
    c.in-Some.place k.entry.tuple (c.loop-done.invariant.touched.others c.args.guard (omega arith))
    (cut_at (key_at c.args.tables.now.items c.args.guard) (entries_at c.args.tables.now.items c.args.guard)
    c.args.cells.now c.loop-done.done c.in-Some.place k))))) in
    let r = family_read c.args.tree.now c.touch_tuple.new.tables.items c.args.guard c.index.result.now
    c.touch_tuple.ensures.touched.family (omega arith) c.index.ensures in
    record {
      next = c.next-next.ensures.found c.args.cells.now
          (take c.loop-done.done
          (group_of (key_at c.args.tables.now.items c.args.guard) (entries_at c.args.tables.now.items c.args.guard)
          c.args.cells.now)) k.entry
          (drop (c.loop-done.done + 1)
          (group_of (key_at c.args.tables.now.items c.args.guard) (entries_at c.args.tables.now.items c.args.guard)
          c.args.cells.now)) (group_read c.args.cells.now r
          ∙ group_still c.args.tree.now c.args.tables.now.items c.touch_tuple.new.tables.items
          c.args.guard c.args.cells.now c.requires.family n.family (n.others c.args.guard (omega arith)) ∙ k.is) k.at;
      touched = n;
      bound = cut_length (group_of (key_at c.args.tables.now.items c.args.guard)
          (entries_at c.args.tables.now.items c.args.guard) c.args.cells.now) c.loop-done.done k.entry k.is;
      counted = omega (
        arith,
        c.loop-done.invariant.counted,
        c.touch_tuple.ensures.counted,
        c.next-next.ensures.counted,
      );
    }

pub returns-in-None-clause-touched : goal.returns-in-None-clause-touched
returns-in-None-clause-touched g c =
    touched_as c.args.tree.now c.args.tables.now.items c.loop-done.tables.items c.args.up
    (λ v. count_of (take c.loop-done.done
    (group_of (key_at c.args.tables.now.items c.args.guard) (entries_at c.args.tables.now.items c.args.guard)
    c.args.cells.now)) v)
    (λ v. count_of (group_of (key_at c.args.tables.now.items c.args.guard) (entries_at c.args.tables.now.items
    c.args.guard)
    c.args.cells.now) v) c.loop-done.invariant.touched
    (λ v. sym (take_all (group_of (key_at c.args.tables.now.items c.args.guard)
    (entries_at c.args.tables.now.items c.args.guard) c.args.cells.now) c.loop-done.done v
    (head_none (drop c.loop-done.done
    (group_of (key_at c.args.tables.now.items c.args.guard) (entries_at c.args.tables.now.items c.args.guard)
    c.args.cells.now)) (sym c.loop-done.invariant.next ∙ c.in-None.is))))

pub returns-in-None-clause-counted : goal.returns-in-None-clause-counted
returns-in-None-clause-counted g c =
    omega (
      arith,
      c.loop-done.invariant.counted,
      c.loop-done.invariant.bound,
      length_grp
          (key_at c.args.tables.now.items c.args.guard) (entries_at c.args.tables.now.items c.args.guard)
          c.args.cells.now,
    )

pub returns-clause-touched : goal.returns-clause-touched
returns-clause-touched g c =
    let h = c.loop-done-test.false in
    let x = c.loop-done.auto.done-end in
    let r = family_read c.args.tree.now c.args.tables.now.items c.args.guard c.index-table.result.now c.requires.family
    (omega (arith, c.requires.lower, c.requires.within)) c.index-table.ensures in
    touched_as c.args.tree.now c.args.tables.now.items c.loop-done.tables.items c.args.up
    (λ v. count_of (take c.loop-done.done
    (group_of (key_at c.args.tables.now.items c.args.guard) (entries_at c.args.tables.now.items c.args.guard)
    c.args.cells.now)) v)
    (λ v. count_of (group_of (key_at c.args.tables.now.items c.args.guard) (entries_at c.args.tables.now.items
    c.args.guard)
    c.args.cells.now) v) c.loop-done.invariant.touched
    (λ v. sym (take_all (group_of (key_at c.args.tables.now.items c.args.guard)
    (entries_at c.args.tables.now.items c.args.guard) c.args.cells.now) c.loop-done.done v
    (drop_group (key_at c.args.tables.now.items c.args.guard) (entries_at c.args.tables.now.items c.args.guard)
    c.args.cells.now c.loop-done.done (omega (arith, c.len-count.ensures, length_read r)))))

pub returns-clause-counted : goal.returns-clause-counted
returns-clause-counted g c =
    omega (
      arith,
      c.loop-done.invariant.counted,
      c.loop-done.invariant.bound,
      length_grp
          (key_at c.args.tables.now.items c.args.guard) (entries_at c.args.tables.now.items c.args.guard)
          c.args.cells.now,
    )
