-- A node's loss is its parent's, by the parent's equation, whose other tables stay; each step goes one up.
use Rattle.std.proofs.Common.{rules, ◌≡◌, ℕ, ◌+◌, ◌-◌, ◌<◌, List, take, drop, ap, subst, sym, ◌∙◌, arith}
use Rattle.djq_index.specs.Entries.{Entry, supports_of, count_of, group_of, head_at}
use Rattle.std.specs.Prelude.{slice_set}
use Rattle.djq_index.specs.Table.{IsLowerable}
use Rattle.djq_index.proofs.Groups.{removed_length, supported_length}
use Rattle.djq_tree.specs.declared.node.Node.TheVariants.{Trim, Meet}
use Rattle.djq_reduct.specs.Tables.{entries_at, key_at}
use Rattle.djq_propagate.specs.Walks.{RemovedUpwards, IsEmptied}
use Rattle.djq_propagate.proofs.Families.{apart_of, lower_of, now_family, ready_up, topmost, wide_family, is_none}
use Rattle.djq_propagate.proofs.Families.{to_read, at_read, supported_into, part_none, part_one, family_read}
use Rattle.djq_propagate.proofs.Families.{length_read, group_read, live_read}
use Rattle.djq_propagate.proofs.PathMarks.{fewer_refl, fewer_trans, removed_fewer, lowered_fewer, group_once, head_none}
use Rattle.djq_propagate.proofs.PathMarks.{drop_group, present, emptied_none, emptied_ready, emptied_more, emptied_all}
use Rattle.djq_propagate.proofs.PathMarks.{still_there}
use Rattle.djq_propagate.proofs.Gains.{width_narrow, trim_few}
use Rattle.djq_propagate.proofs.Losses.{trim_lowered, trim_died, trim_missing, guard_died, guard_idle, side_full}
use Rattle.djq_propagate.proofs.Losses.{side_righted, died_here}
use Rattle.djq_propagate.proofs.Walks.{has_table, wide_now, under_leaf, under_trim, under_guard, under_side, cut_of}
use Rattle.djq_propagate.proofs.Walks.{cut_at, guard_read, as_live, moved_at, group_still}
use Rattle.djq_propagate.proofs.removal.+remove_tuple.Goals as goal

pub remove_tuple-remove_at-requires-clause-within : goal.remove_tuple-remove_at-requires-clause-within
remove_tuple-remove_at-requires-clause-within g t c =
    has_table c.args.tree.now c.args.tables.now.items c.args.at c.requires.ready.family c.requires.ready.within

pub remove_tuple-remove_at-requires-clause-live : goal.remove_tuple-remove_at-requires-clause-live
remove_tuple-remove_at-requires-clause-live g t c =
    as_live (entries_at c.args.tables.now.items c.args.at) c.args.place c.args.tuple.now c.requires.lies

pub remove_tuple-remove_above-requires : goal.remove_tuple-remove_above-requires
remove_tuple-remove_above-requires g t c κs hκ =
    let d = c.decreases in (
      omega arith,
      (
        hκ,
        (
          record {
            was = c.args.tables.now.items;
            began = record
                { ready = c.requires.ready; changed = c.remove_at.ensures.changed };
            loses = c.remove_at.ensures.removed
                c.args.tuple.now c.requires.lies;
          },
          wide_family c.args.tree.now c.args.tables.now.items c.args.at c.args.place c.args.tuple.now
              c.requires.ready.family c.requires.lies
              ∙ sym (wide_now c.args.tree.now c.args.tables.now.items c.remove_at.new.tables.items c.args.at
              c.requires.ready.family (c.remove_at.ensures.changed.family c.args.tree.now c.requires.ready.family)
              c.requires.ready.within),
        ),
      ),
    )

pub remove_tuple-returns-clause-died : goal.remove_tuple-returns-clause-died
remove_tuple-returns-clause-died g t c =
    died_here c.args.tree.now c.args.tables.now.items c.remove_at.new.tables.items c.remove_above.new.tables.items
    c.args.at
    c.args.tuple.now c.remove_at.ensures.changed (c.remove_at.ensures.removed c.args.tuple.now c.requires.lies)
    c.remove_above.ensures.righted

pub remove_tuple-returns-clause-fewer : goal.remove_tuple-returns-clause-fewer
remove_tuple-returns-clause-fewer g t c =
    fewer_trans c.args.tables.now.items c.remove_at.new.tables.items c.remove_above.new.tables.items
    (removed_fewer c.args.tables.now.items c.remove_at.new.tables.items c.args.at c.args.tuple.now
    c.remove_at.ensures.changed (c.remove_at.ensures.removed c.args.tuple.now c.requires.lies))
    c.remove_above.ensures.fewer

pub remove_tuple-returns-clause-counted : goal.remove_tuple-returns-clause-counted
remove_tuple-returns-clause-counted g t c =
    omega (
      arith,
      c.remove_at.ensures.counted,
      c.remove_at.ensures.changed.size,
      removed_length
          (entries_at c.args.tables.now.items c.args.at) (entries_at c.remove_at.new.tables.items c.args.at)
          c.args.tuple.now (c.remove_at.ensures.removed c.args.tuple.now c.requires.lies),
      c.remove_above.ensures.counted,
    )

pub remove_above-parent-requires : goal.remove_above-parent-requires
remove_above-parent-requires g t c =
    c.requires.losing.began.ready.within

pub remove_above-node-requires : goal.remove_above-node-requires
remove_above-node-requires g t c =
    c.in-Some.ensures.above.1

pub remove_above-remove_above_trim-requires : goal.remove_above-remove_above_trim-requires
remove_above-remove_above_trim-requires g t c κs hκ =
    let d = c.decreases in (
      omega arith,
      (
        hκ,
        (
          c.requires.losing,
          (
            c.requires.wide,
            (under_trim c.args.tree.now c.args.at c.in-Some.up c.in-Trim.child c.parent.result
                c.node.result c.requires.losing.began.ready.family.is_tree c.parent.ensures.parent c.in-Some.is
                c.in-Some.ensures.above.1 c.node.ensures c.in-Trim.is),
          ),
        ),
      ),
    )

pub remove_above-remove_above_guard-requires : goal.remove_above-remove_above_guard-requires
remove_above-remove_above_guard-requires g t c κs hκ =
    let d = c.decreases in (
      omega arith,
      (
        hκ,
        (
          c.requires.losing,
          (under_guard c.args.tree.now c.args.at c.in-Some.up c.in-Meet.guard c.in-Meet.side
              c.parent.result c.node.result
              c.requires.losing.began.ready.family.is_tree c.parent.ensures.parent c.in-Some.is
              c.in-Some.ensures.above.1
              c.node.ensures c.in-Meet.is c.if-guard-at.true),
        ),
      ),
    )

pub remove_above-remove_above_side-requires : goal.remove_above-remove_above_side-requires
remove_above-remove_above_side-requires g t c κs hκ =
    let d = c.decreases in (
      omega arith,
      (
        hκ,
        (
          c.requires.losing,
          (under_side c.args.tree.now c.args.at c.in-Some.up c.in-Meet.guard c.in-Meet.side
              c.parent.result c.node.result
              c.requires.losing.began.ready.family.is_tree c.parent.ensures.parent c.in-Some.is
              c.in-Some.ensures.above.1
              c.node.ensures c.in-Meet.is c.if-guard-at.false),
        ),
      ),
    )

pub remove_above-returns-in-None : goal.remove_above-returns-in-None
remove_above-returns-in-None g t c =
    record {
      righted = topmost c.args.tree.now c.requires.losing.was c.args.tables.now.items c.args.at c.requires.losing.began
          c.in-None.ensures.root;
      fewer = fewer_refl c.args.tables.now.items;
      counted = omega arith;
    }

pub remove_above-returns-in-Leaf : goal.remove_above-returns-in-Leaf
remove_above-returns-in-Leaf g t c =
    record {
      righted = absurd (under_leaf c.args.tree.now c.args.at c.in-Some.up _ c.parent.result c.node.result
          c.requires.losing.began.ready.family.is_tree c.parent.ensures.parent c.in-Some.is c.node.ensures
          c.in-Leaf.is);
      fewer = fewer_refl c.args.tables.now.items;
      counted = omega arith;
    }

pub remove_above-returns-in-Trim : goal.remove_above-returns-in-Trim
remove_above-returns-in-Trim g t c =
    c.remove_above_trim.ensures

pub remove_above-returns-then-guard-at : goal.remove_above-returns-then-guard-at
remove_above-returns-then-guard-at g t c =
    c.remove_above_guard.ensures

pub remove_above-returns-else-guard-at : goal.remove_above-returns-else-guard-at
remove_above-returns-else-guard-at g t c =
    c.remove_above_side.ensures

pub remove_above_guard-find_at-requires : goal.remove_above_guard-find_at-requires
remove_above_guard-find_at-requires g t c =
    has_table c.args.tree.now c.args.tables.now.items c.args.up
    (now_family c.args.tree.now c.requires.losing.was c.args.tables.now.items c.args.at c.requires.losing.began)
    c.requires.under.within

pub remove_above_guard-remove_tuple-requires : goal.remove_above_guard-remove_tuple-requires
remove_above_guard-remove_tuple-requires g t c κs hκ =
    let low = lower_of c.args.tree.now c.args.up (Meet c.args.at c.args.side) c.args.at
    c.requires.losing.began.ready.family.is_tree c.requires.under in
    let within = c.requires.under.within in
    let d = c.decreases in (
      omega arith,
      (
        hκ,
        (
          ready_up c.args.tree.now c.requires.losing.was c.args.tables.now.items c.args.at c.args.up
              (Meet c.args.at c.args.side) c.requires.losing.began c.requires.under,
          c.in-Some.ensures.found,
        ),
      ),
    )

pub remove_above_guard-returns-in-Some : goal.remove_above_guard-returns-in-Some
remove_above_guard-returns-in-Some g t c =
    record {
      righted = guard_died c.args.tree.now c.requires.losing.was c.args.tables.now.items
          c.remove_tuple.new.tables.items c.args.at
          c.args.side c.args.up c.args.tuple.now c.requires.losing.began c.requires.losing.loses c.requires.under
          c.remove_tuple.ensures.died;
      fewer = c.remove_tuple.ensures.fewer;
      counted = omega (arith, c.find_at.ensures.counted, c.remove_tuple.ensures.counted);
    }

pub remove_above_guard-returns-in-None : goal.remove_above_guard-returns-in-None
remove_above_guard-returns-in-None g t c =
    record {
      righted = guard_idle c.args.tree.now c.requires.losing.was c.args.tables.now.items c.args.at c.args.side c.args.up
          c.args.tuple.now c.requires.losing.began c.requires.losing.loses c.requires.under c.in-None.ensures.found;
      fewer = fewer_refl c.args.tables.now.items;
      counted = omega (arith, c.find_at.ensures.counted);
    }

pub remove_above_side-index-requires : goal.remove_above_side-index-requires
remove_above_side-index-requires g t c =
    let m = c.requires.losing.began.ready.family.is_tree.meet c.args.up c.args.guard c.args.at c.requires.under.node in
    let mg = m.guard_lower in
    let ms = m.side_lower in
    let within = c.requires.under.within in
    omega (
      arith,
      has_table c.args.tree.now c.args.tables.now.items c.args.guard
          (now_family c.args.tree.now c.requires.losing.was c.args.tables.now.items c.args.at c.requires.losing.began)
          (omega arith),
      c.args.tables.now.ok.0,
    )

pub remove_above_side-remove_group_from_meet-requires : goal.remove_above_side-remove_group_from_meet-requires
remove_above_side-remove_group_from_meet-requires g t c κs hκ =
    let m = c.requires.losing.began.ready.family.is_tree.meet c.args.up c.args.guard c.args.at c.requires.under.node in
    let mg = m.guard_lower in
    let ms = m.side_lower in
    let low = lower_of c.args.tree.now c.args.up (Meet c.args.guard c.args.at) c.args.at
    c.requires.losing.began.ready.family.is_tree c.requires.under in
    let within = c.requires.under.within in
    let d = c.decreases in (
      omega arith,
      (
        hκ,
        (
          ready_up c.args.tree.now c.requires.losing.was c.args.tables.now.items c.args.at c.args.up
              (Meet c.args.guard c.args.at) c.requires.losing.began c.requires.under,
          (
            m.guard_lower,
            side_full c.args.tree.now c.requires.losing.was c.args.tables.now.items c.args.guard c.args.at
                c.args.up c.len-count.result c.args.tuple.now c.requires.losing.began c.requires.losing.loses
                c.requires.under,
          ),
        ),
      ),
    )

pub remove_above_side-returns : goal.remove_above_side-returns
remove_above_side-returns g t c =
    record {
      righted = side_righted c.args.tree.now c.requires.losing.was c.args.tables.now.items
          c.remove_group_from_meet.new.tables.items
          c.args.guard c.args.at c.args.up c.len-count.result c.args.tuple.now c.requires.losing.began
          c.requires.losing.loses c.requires.under c.remove_group_from_meet.ensures.emptied
          (drop_group (key_at c.args.tables.now.items c.args.guard) (entries_at c.args.tables.now.items c.args.guard)
          c.args.tuple.now c.len-count.result
          (c.len-count.ensures ∙ length_read (guard_read c.args.tree.now c.args.tables.now.items c.args.at c.args.up
          c.args.guard c.index.result.now
          (now_family c.args.tree.now c.requires.losing.was c.args.tables.now.items c.args.at c.requires.losing.began)
          c.requires.under c.index.ensures)));
      fewer = c.remove_group_from_meet.ensures.fewer;
      counted = omega (arith, c.remove_group_from_meet.ensures.counted);
    }

pub remove_above_trim-column_of-requires : goal.remove_above_trim-column_of-requires
remove_above_trim-column_of-requires g t c =
    has_table c.args.tree.now c.args.tables.now.items c.args.at
    (now_family c.args.tree.now c.requires.losing.was c.args.tables.now.items c.args.at c.requires.losing.began)
    c.requires.losing.began.ready.within

pub remove_above_trim-remove_above_part-requires : goal.remove_above_trim-remove_above_part-requires
remove_above_trim-remove_above_part-requires g t c κs hκ =
    let d = c.decreases in (
      omega arith,
      (
        hκ,
        (
          c.requires.losing,
          (
            c.requires.wide,
            (
              c.requires.under,
              part_one (key_at c.args.tables.now.items c.args.at) c.in-Some.column c.args.tuple.now
                  c.in-Some.ensures.key,
            ),
          ),
        ),
      ),
    )

pub remove_above_trim-index-requires : goal.remove_above_trim-index-requires
remove_above_trim-index-requires g t c =
    omega (
      arith,
      has_table c.args.tree.now c.args.tables.now.items c.args.at
          (now_family c.args.tree.now c.requires.losing.was c.args.tables.now.items c.args.at c.requires.losing.began)
          c.requires.losing.began.ready.within,
      c.args.tables.now.ok.0,
    )

pub remove_above_trim-remove_above_part-requires-then-is_empty :
    goal.remove_above_trim-remove_above_part-requires-then-is_empty
remove_above_trim-remove_above_part-requires-then-is_empty g t c κs hκ =
    let r = family_read c.args.tree.now c.args.tables.now.items c.args.at c.index.result.now
    (now_family c.args.tree.now c.requires.losing.was c.args.tables.now.items c.args.at c.requires.losing.began)
    c.requires.losing.began.ready.within c.index.ensures in
    let d = c.decreases in (
      omega arith,
      (
        hκ,
        (
          c.requires.losing,
          (
            c.requires.wide,
            (
              c.requires.under,
              part_none (key_at c.args.tables.now.items c.args.at) c.args.tuple.now
                  (sym (c.key.ensures ∙ r.key) ∙ is_none c.key.result.now (search rules)),
            ),
          ),
        ),
      ),
    )

pub remove_above_trim-remove_above_wide-requires : goal.remove_above_trim-remove_above_wide-requires
remove_above_trim-remove_above_wide-requires g t c κs hκ =
    let d = c.decreases in (
      omega arith,
      (hκ, (c.requires.losing, (c.requires.wide, c.requires.under))),
    )

pub remove_above_wide-remove_above_part-requires : goal.remove_above_wide-remove_above_part-requires
remove_above_wide-remove_above_part-requires g t c κs hκ =
    let d = c.decreases in (
      omega arith,
      (
        hκ,
        (
          c.requires.losing,
          (c.requires.wide, (c.requires.under, c.as_slice.ensures ∙ c.part_of.ensures)),
        ),
      ),
    )

pub remove_above_wide-part_of-requires-clause-within : goal.remove_above_wide-part_of-requires-clause-within
remove_above_wide-part_of-requires-clause-within g t c =
    has_table c.args.tree.now c.args.tables.now.items c.args.at
    (now_family c.args.tree.now c.requires.losing.was c.args.tables.now.items c.args.at c.requires.losing.began)
    c.requires.losing.began.ready.within

pub remove_above_wide-part_of-requires-clause-narrow : goal.remove_above_wide-part_of-requires-clause-narrow
remove_above_wide-part_of-requires-clause-narrow g t c =
    width_narrow c.args.tree.now c.args.tables.now.items c.args.at
    (now_family c.args.tree.now c.requires.losing.was c.args.tables.now.items c.args.at c.requires.losing.began)
    c.requires.losing.began.ready.within

pub remove_above_wide-part_of-requires-clause-few : goal.remove_above_wide-part_of-requires-clause-few
remove_above_wide-part_of-requires-clause-few g t c =
    trim_few c.args.tree.now c.args.tables.now.items c.args.at c.args.up
    (now_family c.args.tree.now c.requires.losing.was c.args.tables.now.items c.args.at c.requires.losing.began)
    c.requires.losing.began.ready.within c.requires.under

pub remove_above_wide-part_of-requires-clause-wide : goal.remove_above_wide-part_of-requires-clause-wide
remove_above_wide-part_of-requires-clause-wide g t c =
    c.requires.wide

pub remove_above_part-find_at-requires : goal.remove_above_part-find_at-requires
remove_above_part-find_at-requires g t c =
    has_table c.args.tree.now c.args.tables.now.items c.args.up
    (now_family c.args.tree.now c.requires.losing.was c.args.tables.now.items c.args.at c.requires.losing.began)
    c.requires.under.within

pub remove_above_part-index-requires : goal.remove_above_part-index-requires
remove_above_part-index-requires g t c =
    omega (
      arith,
      has_table c.args.tree.now c.args.tables.now.items c.args.up
          (now_family c.args.tree.now c.requires.losing.was c.args.tables.now.items c.args.at c.requires.losing.began)
          c.requires.under.within,
      c.args.tables.now.ok.0,
    )

pub remove_above_part-supports-requires : goal.remove_above_part-supports-requires
remove_above_part-supports-requires g t c =
    live_read (family_read c.args.tree.now c.args.tables.now.items c.args.up c.index.result.now
    (now_family c.args.tree.now c.requires.losing.was c.args.tables.now.items c.args.at c.requires.losing.began)
    c.requires.under.within c.index.ensures) c.in-Some.ensures.found

pub remove_above_part-index_mut-requires : goal.remove_above_part-index_mut-requires
remove_above_part-index_mut-requires g t c =
    omega (
      arith,
      has_table c.args.tree.now c.args.tables.now.items c.args.up
          (now_family c.args.tree.now c.requires.losing.was c.args.tables.now.items c.args.at c.requires.losing.began)
          c.requires.under.within,
      c.args.tables.now.ok.0,
    )

pub remove_above_part-lower-requires : goal.remove_above_part-lower-requires
remove_above_part-lower-requires g t c =
    let r = family_read c.args.tree.now c.args.tables.now.items c.args.up c.index.result.now
    (now_family c.args.tree.now c.requires.losing.was c.args.tables.now.items c.args.at c.requires.losing.began)
    c.requires.under.within c.index.ensures in
    let e = c.supports.ensures c.args.cells.now (at_read r c.in-Some.ensures.found)
    ∙ ap (λ (es : List Entry). supports_of es c.args.cells.now) r.entries in
    to_read (λ es. IsLowerable es c.in-Some.place) (family_read c.args.tree.now c.args.tables.now.items c.args.up
    c.index_mut.result.now
    (now_family c.args.tree.now c.requires.losing.was c.args.tables.now.items c.args.at c.requires.losing.began)
    c.requires.under.within c.index_mut.ensures.value)
    (record {
      tuple = c.args.cells.now;
      is_at = c.in-Some.ensures.found;
      some = omega (arith, e, c.if-supports-gt1.true);
    })

pub remove_above_part-remove_tuple-requires : goal.remove_above_part-remove_tuple-requires
remove_above_part-remove_tuple-requires g t c κs hκ =
    let low = lower_of c.args.tree.now c.args.up (Trim c.args.at) c.args.at c.requires.losing.began.ready.family.is_tree
    c.requires.under in
    let within = c.requires.under.within in
    let d = c.decreases in (
      omega arith,
      (
        hκ,
        (
          ready_up c.args.tree.now c.requires.losing.was c.args.tables.now.items c.args.at c.args.up
              (Trim c.args.at) c.requires.losing.began c.requires.under,
          c.in-Some.ensures.found,
        ),
      ),
    )

pub remove_above_part-returns-then-supports-gt1 : goal.remove_above_part-returns-then-supports-gt1
remove_above_part-returns-then-supports-gt1 g t c =
    let r = family_read c.args.tree.now c.args.tables.now.items c.args.up c.index_mut.result.now
    (now_family c.args.tree.now c.requires.losing.was c.args.tables.now.items c.args.at c.requires.losing.began)
    c.requires.under.within c.index_mut.ensures.value in
    let q = family_read c.args.tree.now c.args.tables.now.items c.args.up c.index.result.now
    (now_family c.args.tree.now c.requires.losing.was c.args.tables.now.items c.args.at c.requires.losing.began)
    c.requires.under.within c.index.ensures in
    let e = c.supports.ensures c.args.cells.now (at_read q c.in-Some.ensures.found)
    ∙ ap (λ (es : List Entry). supports_of es c.args.cells.now) (q.entries ∙ sym r.entries) in
    let n = supported_into (λ (x : ℕ). x - 1) c.args.cells.now r c.lower.ensures.table c.lower.ensures.key
    c.lower.ensures.width (c.lower.ensures.lowered c.args.cells.now (at_read r c.in-Some.ensures.found))
    (omega (arith, e, c.if-supports-gt1.true)) in
    record {
      righted = trim_lowered c.args.tree.now c.requires.losing.was c.args.tables.now.items
          (slice_set c.args.tables.now.items c.args.up c.lower.new.self) c.args.at c.args.up c.args.tuple.now
          c.args.cells.now c.requires.losing.began c.requires.losing.loses c.requires.under n.changed n.supported
          c.requires.part;
      fewer = lowered_fewer c.args.tables.now.items (slice_set c.args.tables.now.items c.args.up c.lower.new.self)
          c.args.up
          c.args.cells.now (supports_of (entries_at c.args.tables.now.items c.args.up) c.args.cells.now)
          ((supports_of (entries_at c.args.tables.now.items c.args.up) c.args.cells.now) - 1) n.changed n.supported;
      counted = omega (
        arith,
        c.find_at.ensures.counted,
        c.lower.ensures.counted,
        n.changed.size,
        supported_length (entries_at c.args.tables.now.items c.args.up)
            (entries_at (slice_set c.args.tables.now.items c.args.up c.lower.new.self) c.args.up) c.args.cells.now
            (supports_of (entries_at c.args.tables.now.items c.args.up) c.args.cells.now)
            ((supports_of (entries_at c.args.tables.now.items c.args.up) c.args.cells.now) - 1) n.supported,
      );
    }

pub remove_above_part-returns-else-supports-gt1 : goal.remove_above_part-returns-else-supports-gt1
remove_above_part-returns-else-supports-gt1 g t c =
    record {
      righted = (let r = family_read c.args.tree.now c.args.tables.now.items c.args.up c.index.result.now
          (now_family c.args.tree.now c.requires.losing.was c.args.tables.now.items c.args.at c.requires.losing.began)
          c.requires.under.within c.index.ensures in
          let e = c.supports.ensures c.args.cells.now (at_read r c.in-Some.ensures.found)
          ∙ ap (λ (es : List Entry). supports_of es c.args.cells.now) r.entries in
          trim_died c.args.tree.now c.requires.losing.was c.args.tables.now.items c.remove_tuple.new.tables.items
          c.args.at
          c.args.up
          c.args.tuple.now c.args.cells.now c.requires.losing.began c.requires.losing.loses c.requires.under
          c.remove_tuple.ensures.died c.requires.part
          (omega (arith, e, c.if-supports-gt1.false)));
      fewer = c.remove_tuple.ensures.fewer;
      counted = omega (arith, c.find_at.ensures.counted, c.remove_tuple.ensures.counted);
    }

pub remove_above_part-returns-in-None : goal.remove_above_part-returns-in-None
remove_above_part-returns-in-None g t c =
    record {
      righted = absurd (trim_missing c.args.tree.now c.requires.losing.was c.args.tables.now.items c.args.at c.args.up
          c.args.tuple.now c.args.cells.now c.requires.losing.began c.requires.losing.loses c.requires.under
          c.requires.part c.in-None.ensures.found);
      fewer = fewer_refl c.args.tables.now.items;
      counted = omega (arith, c.find_at.ensures.counted);
    }

pub find_and_remove-find_at-requires : goal.find_and_remove-find_at-requires
find_and_remove-find_at-requires g t c =
    has_table c.args.tree.now c.args.tables.now.items c.args.at c.requires.ready.family c.requires.ready.within

pub find_and_remove-remove_tuple-requires : goal.find_and_remove-remove_tuple-requires
find_and_remove-remove_tuple-requires g t c κs hκ =
    let d = c.decreases in
    (omega arith, (hκ, (c.requires.ready, c.in-Some.ensures.found)))

pub find_and_remove-returns-in-Some-clause-died : goal.find_and_remove-returns-in-Some-clause-died
find_and_remove-returns-in-Some-clause-died g t c =
    c.remove_tuple.ensures.died

pub find_and_remove-returns-in-Some-clause-fewer : goal.find_and_remove-returns-in-Some-clause-fewer
find_and_remove-returns-in-Some-clause-fewer g t c =
    c.remove_tuple.ensures.fewer

pub find_and_remove-returns-in-Some-clause-counted : goal.find_and_remove-returns-in-Some-clause-counted
find_and_remove-returns-in-Some-clause-counted g t c =
    omega (arith, c.find_at.ensures.counted, c.remove_tuple.ensures.counted)

pub find_and_remove-returns-in-None-clause-died : goal.find_and_remove-returns-in-None-clause-died
find_and_remove-returns-in-None-clause-died g t c =
    absurd (omega (arith, c.requires.there, c.in-None.ensures.found))

pub find_and_remove-returns-in-None-clause-fewer : goal.find_and_remove-returns-in-None-clause-fewer
find_and_remove-returns-in-None-clause-fewer g t c =
    absurd (omega (arith, c.requires.there, c.in-None.ensures.found))

pub find_and_remove-returns-in-None-clause-counted : goal.find_and_remove-returns-in-None-clause-counted
find_and_remove-returns-in-None-clause-counted g t c =
    absurd (omega (arith, c.requires.there, c.in-None.ensures.found))

pub remove_group_from_meet-index-requires : goal.remove_group_from_meet-index-requires
remove_group_from_meet-index-requires g t c =
    let glow = c.requires.lower in
    let within = c.requires.ready.within in
    omega (
      arith,
      has_table c.args.tree.now c.args.tables.now.items c.args.guard c.requires.ready.family (omega arith),
      c.args.tables.now.ok.0,
    )

pub remove_group_from_meet-loop-done-init : goal.remove_group_from_meet-loop-done-init
remove_group_from_meet-loop-done-init g t c =
    let r = family_read c.args.tree.now c.args.tables.now.items c.args.guard c.index.result.now c.requires.ready.family
    (omega (arith, c.requires.lower, c.requires.ready.within)) c.index.ensures in
    record {
      next = c.first-next.ensures.found ∙ ap (λ (es : List Entry). head_at es) (group_read c.args.cells.now r);
      emptied = emptied_none c.args.tree.now c.args.tables.now.items
          c.args.up (group_of (key_at c.args.tables.now.items c.args.guard) (entries_at c.args.tables.now.items
          c.args.guard)
          c.args.cells.now) c.requires.ready;
      lesser = fewer_refl c.args.tables.now.items;
      counted = omega
          (arith, c.first-next.ensures.counted);
    }

pub remove_group_from_meet-read_at-requires-clause-within : goal.remove_group_from_meet-read_at-requires-clause-within
remove_group_from_meet-read_at-requires-clause-within g t c =
    let glow = c.requires.lower in
    let within = c.requires.ready.within in
    has_table c.args.tree.now c.loop-done.tables.items c.args.guard c.loop-done.invariant.emptied.family (omega arith)

pub remove_group_from_meet-read_at-requires-clause-narrow : goal.remove_group_from_meet-read_at-requires-clause-narrow
remove_group_from_meet-read_at-requires-clause-narrow g t c =
    let glow = c.requires.lower in
    let within = c.requires.ready.within in
    width_narrow c.args.tree.now c.loop-done.tables.items c.args.guard c.loop-done.invariant.emptied.family
    (omega arith)

pub remove_group_from_meet-read_at-requires-clause-live : goal.remove_group_from_meet-read_at-requires-clause-live
remove_group_from_meet-read_at-requires-clause-live g t c =
    let k = cut_of (group_of (key_at c.args.tables.now.items c.args.guard) (entries_at c.args.tables.now.items
    c.args.guard)
    c.args.cells.now) c.loop-done._done c.loop-done.next c.in-Some.place c.loop-done.invariant.next c.in-Some.is in
    as_live (entries_at c.loop-done.tables.items c.args.guard) c.in-Some.place k.entry.tuple
    (moved_at (entries_at c.args.tables.now.items c.args.guard) (entries_at c.loop-done.tables.items c.args.guard)
    c.in-Some.place k.entry.tuple (c.loop-done.invariant.emptied.low c.args.guard c.requires.lower)
    (cut_at (key_at c.args.tables.now.items c.args.guard) (entries_at c.args.tables.now.items c.args.guard)
    c.args.cells.now c.loop-done._done c.in-Some.place k))

pub remove_group_from_meet-find_and_remove-requires : goal.remove_group_from_meet-find_and_remove-requires
remove_group_from_meet-find_and_remove-requires g t c κs hκ =
    let d = c.decreases in
    let k = cut_of (group_of (key_at c.args.tables.now.items c.args.guard) (entries_at c.args.tables.now.items
    c.args.guard)
    c.args.cells.now) c.loop-done._done c.loop-done.next c.in-Some.place c.loop-done.invariant.next c.in-Some.is in (
      omega arith,
      (
        hκ,
        (
          emptied_ready c.args.tree.now c.args.tables.now.items c.loop-done.tables.items c.args.up
              (take c.loop-done._done
              (group_of (key_at c.args.tables.now.items c.args.guard) (entries_at c.args.tables.now.items c.args.guard)
              c.args.cells.now)) c.requires.ready.within c.loop-done.invariant.emptied,
          subst (λ (w : List ℕ). 0 < count_of (entries_at c.loop-done.tables.items c.args.up) w)
              (sym (c.as_slice.ensures
              ∙ c.read_at.ensures.tuple k.entry.tuple
              (moved_at (entries_at c.args.tables.now.items c.args.guard)
              (entries_at c.loop-done.tables.items c.args.guard) c.in-Some.place k.entry.tuple
              (c.loop-done.invariant.emptied.low c.args.guard c.requires.lower)
              (cut_at (key_at c.args.tables.now.items c.args.guard) (entries_at c.args.tables.now.items c.args.guard)
              c.args.cells.now c.loop-done._done c.in-Some.place k))))
              (present (entries_at c.loop-done.tables.items c.args.up) k.entry.tuple
              (let s = (still_there c.args.tree.now c.args.tables.now.items c.loop-done.tables.items c.args.up
              (group_of (key_at c.args.tables.now.items c.args.guard) (entries_at c.args.tables.now.items c.args.guard)
              c.args.cells.now) c.loop-done._done c.args.count k.entry c.loop-done.invariant.emptied c.requires.full
              c.loop-done-test.true
              (λ v. group_once (key_at c.args.tables.now.items c.args.guard)
              (entries_at c.args.tables.now.items c.args.guard) c.args.cells.now v
              (apart_of c.args.tree.now c.args.tables.now.items c.requires.ready.family c.args.guard)) k.is) in omega
              arith)),
        ),
      ),
    )

pub remove_group_from_meet-index-requires-in-Some : goal.remove_group_from_meet-index-requires-in-Some
remove_group_from_meet-index-requires-in-Some g t c =
    let glow = c.requires.lower in
    let within = c.requires.ready.within in
    omega (
      arith,
      has_table c.args.tree.now c.find_and_remove.new.tables.items c.args.guard c.find_and_remove.ensures.died.family
          (omega arith),
      c.find_and_remove.new.tables.ok.0,
    )

pub remove_group_from_meet-next-next-requires : goal.remove_group_from_meet-next-next-requires
remove_group_from_meet-next-next-requires g t c =
    let k = cut_of (group_of (key_at c.args.tables.now.items c.args.guard) (entries_at c.args.tables.now.items
    c.args.guard)
    c.args.cells.now) c.loop-done._done c.loop-done.next c.in-Some.place c.loop-done.invariant.next c.in-Some.is in
    let n = (emptied_more c.args.tree.now c.args.tables.now.items c.loop-done.tables.items
    c.find_and_remove.new.tables.items
    c.args.up (group_of (key_at c.args.tables.now.items c.args.guard) (entries_at c.args.tables.now.items c.args.guard)
    c.args.cells.now) c.loop-done._done k.entry c.loop-done.invariant.emptied
    (subst (λ (w : List ℕ). RemovedUpwards c.args.tree.now c.loop-done.tables.items c.find_and_remove.new.tables.items
    c.args.up w)
    (c.as_slice.ensures ∙ c.read_at.ensures.tuple k.entry.tuple
    (moved_at (entries_at c.args.tables.now.items c.args.guard) (entries_at c.loop-done.tables.items c.args.guard)
    c.in-Some.place k.entry.tuple (c.loop-done.invariant.emptied.low c.args.guard c.requires.lower)
    (cut_at (key_at c.args.tables.now.items c.args.guard) (entries_at c.args.tables.now.items c.args.guard)
    c.args.cells.now c.loop-done._done c.in-Some.place k))) c.find_and_remove.ensures.died)
    (still_there c.args.tree.now c.args.tables.now.items c.loop-done.tables.items c.args.up
    (group_of (key_at c.args.tables.now.items c.args.guard) (entries_at c.args.tables.now.items c.args.guard)
    c.args.cells.now) c.loop-done._done c.args.count k.entry c.loop-done.invariant.emptied c.requires.full
    c.loop-done-test.true
    (λ v. group_once (key_at c.args.tables.now.items c.args.guard) (entries_at c.args.tables.now.items c.args.guard)
    c.args.cells.now v (apart_of c.args.tree.now c.args.tables.now.items c.requires.ready.family c.args.guard))
    k.is) k.is) in
    live_read (family_read c.args.tree.now c.find_and_remove.new.tables.items c.args.guard c.index-in-Some.result.now
    c.find_and_remove.ensures.died.family (omega (arith, c.requires.lower, c.requires.ready.within))
    c.index-in-Some.ensures)
    (moved_at (entries_at c.args.tables.now.items c.args.guard)
    (entries_at c.find_and_remove.new.tables.items c.args.guard) c.in-Some.place k.entry.tuple
    (n.low c.args.guard c.requires.lower)
    (cut_at (key_at c.args.tables.now.items c.args.guard) (entries_at c.args.tables.now.items c.args.guard)
    c.args.cells.now c.loop-done._done c.in-Some.place k))

pub remove_group_from_meet-loop-done-smaller : goal.remove_group_from_meet-loop-done-smaller
remove_group_from_meet-loop-done-smaller g t c =
    let h = c.loop-done-test.true in
    omega arith

pub remove_group_from_meet-loop-done-preserved : goal.remove_group_from_meet-loop-done-preserved
remove_group_from_meet-loop-done-preserved g t c =
    let k = cut_of (group_of (key_at c.args.tables.now.items c.args.guard) (entries_at c.args.tables.now.items
    c.args.guard)
    c.args.cells.now) c.loop-done._done c.loop-done.next c.in-Some.place c.loop-done.invariant.next c.in-Some.is in
    let n = (emptied_more c.args.tree.now c.args.tables.now.items c.loop-done.tables.items
    c.find_and_remove.new.tables.items
    c.args.up (group_of (key_at c.args.tables.now.items c.args.guard) (entries_at c.args.tables.now.items c.args.guard)
    c.args.cells.now) c.loop-done._done k.entry c.loop-done.invariant.emptied
    (subst (λ (w : List ℕ). RemovedUpwards c.args.tree.now c.loop-done.tables.items c.find_and_remove.new.tables.items
    c.args.up w)
    (c.as_slice.ensures ∙ c.read_at.ensures.tuple k.entry.tuple
    (moved_at (entries_at c.args.tables.now.items c.args.guard) (entries_at c.loop-done.tables.items c.args.guard)
    c.in-Some.place k.entry.tuple (c.loop-done.invariant.emptied.low c.args.guard c.requires.lower)
    (cut_at (key_at c.args.tables.now.items c.args.guard) (entries_at c.args.tables.now.items c.args.guard)
    c.args.cells.now c.loop-done._done c.in-Some.place k))) c.find_and_remove.ensures.died)
    (still_there c.args.tree.now c.args.tables.now.items c.loop-done.tables.items c.args.up
    (group_of (key_at c.args.tables.now.items c.args.guard) (entries_at c.args.tables.now.items c.args.guard)
    c.args.cells.now) c.loop-done._done c.args.count k.entry c.loop-done.invariant.emptied c.requires.full
    c.loop-done-test.true
    (λ v. group_once (key_at c.args.tables.now.items c.args.guard) (entries_at c.args.tables.now.items c.args.guard)
    c.args.cells.now v (apart_of c.args.tree.now c.args.tables.now.items c.requires.ready.family c.args.guard))
    k.is) k.is) in
    let r = family_read c.args.tree.now c.find_and_remove.new.tables.items c.args.guard c.index-in-Some.result.now
    c.find_and_remove.ensures.died.family (omega (arith, c.requires.lower, c.requires.ready.within))
    c.index-in-Some.ensures in
    record {
      next = c.next-next.ensures.found c.args.cells.now
          (take c.loop-done._done
          (group_of (key_at c.args.tables.now.items c.args.guard) (entries_at c.args.tables.now.items c.args.guard)
          c.args.cells.now)) k.entry
          (drop (c.loop-done._done + 1)
          (group_of (key_at c.args.tables.now.items c.args.guard) (entries_at c.args.tables.now.items c.args.guard)
          c.args.cells.now)) (group_read c.args.cells.now r
          ∙ group_still c.args.tree.now c.args.tables.now.items c.find_and_remove.new.tables.items
          c.args.guard c.args.cells.now c.requires.ready.family n.family (n.low c.args.guard c.requires.lower) ∙ k.is)
          k.at;
      emptied = n;
      lesser = fewer_trans c.args.tables.now.items c.loop-done.tables.items c.find_and_remove.new.tables.items
          c.loop-done.invariant.lesser c.find_and_remove.ensures.fewer;
      counted = omega (
        arith,
        c.loop-done.invariant.counted,
        c.find_and_remove.ensures.counted,
        c.next-next.ensures.counted,
      );
    }

pub remove_group_from_meet-returns-in-None-clause-emptied : goal.remove_group_from_meet-returns-in-None-clause-emptied
remove_group_from_meet-returns-in-None-clause-emptied g t c =
    let h = c.loop-done-test.true in
    emptied_all c.args.tree.now c.args.tables.now.items c.loop-done.tables.items c.args.up
    (group_of (key_at c.args.tables.now.items c.args.guard) (entries_at c.args.tables.now.items c.args.guard)
    c.args.cells.now) c.loop-done._done c.args.count c.loop-done.invariant.emptied (omega arith)
    (head_none (drop c.loop-done._done
    (group_of (key_at c.args.tables.now.items c.args.guard) (entries_at c.args.tables.now.items c.args.guard)
    c.args.cells.now)) (sym c.loop-done.invariant.next ∙ c.in-None.is))

pub remove_group_from_meet-returns-in-None-clause-fewer : goal.remove_group_from_meet-returns-in-None-clause-fewer
remove_group_from_meet-returns-in-None-clause-fewer g t c =
    c.loop-done.invariant.lesser

pub remove_group_from_meet-returns-in-None-clause-counted : goal.remove_group_from_meet-returns-in-None-clause-counted
remove_group_from_meet-returns-in-None-clause-counted g t c =
    c.loop-done.invariant.counted

pub remove_group_from_meet-returns-clause-emptied : goal.remove_group_from_meet-returns-clause-emptied
remove_group_from_meet-returns-clause-emptied g t c =
    let h = c.loop-done-test.false in
    let x = c.loop-done.auto._done-end in
    let e : c.loop-done._done ≡ c.args.count = omega arith in
    subst (λ (n : ℕ). IsEmptied c.args.tree.now c.args.tables.now.items c.loop-done.tables.items c.args.up
    (take n (group_of (key_at c.args.tables.now.items c.args.guard) (entries_at c.args.tables.now.items c.args.guard)
    c.args.cells.now))) e c.loop-done.invariant.emptied

pub remove_group_from_meet-returns-clause-fewer : goal.remove_group_from_meet-returns-clause-fewer
remove_group_from_meet-returns-clause-fewer g t c =
    c.loop-done.invariant.lesser

pub remove_group_from_meet-returns-clause-counted : goal.remove_group_from_meet-returns-clause-counted
remove_group_from_meet-returns-clause-counted g t c =
    c.loop-done.invariant.counted
