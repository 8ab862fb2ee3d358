-- A node's gain is its parent's, by the parent's equation; where one is refused, all supports are as before.
use Rattle.std.proofs.Common.{◌≡◌, ℕ, ◌+◌, ◌-◌, ◌*◌, ◌<◌, ◌≤◌, List, length, take, drop, ap, subst, sym, ◌∙◌, arith}
use Rattle.std.proofs.Common.{rules}
use Rattle.djq_index.specs.Entries.{Entry, supports_of, count_of, group_of, head_at}
use Rattle.std.specs.Prelude.{slice_set}
use Rattle.djq_index.specs.Table.{IsRaisable}
use Rattle.djq_index.proofs.Groups.{inserted_length, supported_length}
use Rattle.djq_tree.specs.declared.node.Node.TheVariants.{Trim, Meet}
use Rattle.djq_tree.specs.Flat.{HasEqualMeets}
use Rattle.djq_reduct.specs.Tables.{entries_at, key_at}
use Rattle.djq_propagate.specs.Sizes.{size, AreAtMost}
use Rattle.djq_propagate.specs.Walks.{InsertedUpwards, Refused, ReducedAbove, UnchangedAbove, CoversAll}
use Rattle.djq_propagate.proofs.Families.{lower_of, now_family, ready_up, topmost, stayed, is_none, to_read, at_read}
use Rattle.djq_propagate.proofs.Families.{supported_into, part_none, part_one, family_read, of_read, length_read}
use Rattle.djq_propagate.proofs.Families.{group_read, live_read}
use Rattle.djq_propagate.proofs.PathMarks.{bare_at, still_bare, plain_refl, plain_trans, inserted_same, raised_same}
use Rattle.djq_propagate.proofs.PathMarks.{removed_fewer, back_same, head_none, drop_group, grown_none, grown_ready}
use Rattle.djq_propagate.proofs.PathMarks.{grown_more}
use Rattle.djq_propagate.proofs.Gains.{width_narrow, trim_few, trim_wide, trim_raised, trim_lived, trim_room, guard_few}
use Rattle.djq_propagate.proofs.Gains.{guard_wide, guard_absent, guard_lived, guard_idle, side_absent, side_righted}
use Rattle.djq_propagate.proofs.Gains.{side_full, refused_ready, same_group, side_stayed, refused_here, lived_here}
use Rattle.djq_propagate.proofs.Walks.{has_table, wide_now, under_leaf, under_trim, under_guard, under_side}
use Rattle.djq_propagate.proofs.Walks.{guard_under, cut_of, cut_at, as_live, moved_at, guard_read, group_still, on_err}
use Rattle.djq_propagate.proofs.Walks.{ok_map, err_map, refused_none, plain_none}
use Rattle.djq_propagate.proofs.RefusedCosts.{room_size, most_more, trim_fits, guard_fits, next_fits, side_fits}
use Rattle.djq_propagate.proofs.RefusedCosts.{side_bounded, side_flat}
use Rattle.djq_propagate.proofs.insertion.+insert_tuple.Goals as goal

pub insert_tuple-insert_at-requires-clause-within : goal.insert_tuple-insert_at-requires-clause-within
insert_tuple-insert_at-requires-clause-within g t c =
    has_table c.args.tree.now c.args.tables.now.items c.args.at c.requires.ready.family c.requires.ready.within

pub insert_tuple-insert_at-requires-clause-absent : goal.insert_tuple-insert_at-requires-clause-absent
insert_tuple-insert_at-requires-clause-absent g t c =
    c.requires.absent

pub insert_tuple-insert_at-requires-clause-wide : goal.insert_tuple-insert_at-requires-clause-wide
insert_tuple-insert_at-requires-clause-wide g t c =
    c.requires.wide

pub insert_tuple-insert_at-requires-clause-plain : goal.insert_tuple-insert_at-requires-clause-plain
insert_tuple-insert_at-requires-clause-plain g t c =
    λ e. bare_at c.args.tables.now.items c.args.at (c.requires.bare e)

pub insert_tuple-insert_at-requires-clause-few : goal.insert_tuple-insert_at-requires-clause-few
insert_tuple-insert_at-requires-clause-few g t c =
    c.requires.few

pub insert_tuple-returns-in_err-place-clause-ok : goal.insert_tuple-returns-in_err-place-clause-ok
insert_tuple-returns-in_err-place-clause-ok g t c =
    search rules

pub insert_tuple-returns-in_err-place-clause-refused : goal.insert_tuple-returns-in_err-place-clause-refused
insert_tuple-returns-in_err-place-clause-refused g t c =
    on_err c.from_residual.result
    (Refused c.args.tree.now c.args.tables.now.items c.insert_at.new.tables.items c.args.at)
    (refused_none c.args.tree.now c.args.tables.now.items c.insert_at.new.tables.items c.args.at
    c.requires.ready.family c.insert_at.ensures.changed c.in_err-place.ensures.refused)

pub insert_tuple-returns-in_err-place-clause-plain : goal.insert_tuple-returns-in_err-place-clause-plain
insert_tuple-returns-in_err-place-clause-plain g t c =
    plain_none c.args.tables.now.items c.insert_at.new.tables.items c.args.at c.insert_at.ensures.changed
    c.in_err-place.ensures.refused

pub insert_tuple-returns-in_err-place-clause-counted : goal.insert_tuple-returns-in_err-place-clause-counted
insert_tuple-returns-in_err-place-clause-counted g t c =
    search rules

pub insert_tuple-returns-in_err-place-clause-bounded : goal.insert_tuple-returns-in_err-place-clause-bounded
insert_tuple-returns-in_err-place-clause-bounded g t c =
    on_err c.from_residual.result
    ((n : ℕ) → AreAtMost c.args.tables.now.items n → length (entries_at c.args.tables.now.items c.args.at) < n
    → c.insert_at.new.tally + 9 * size c.args.tables.now.items ≤ c.args.tally.now + 9 *
    (n * length c.args.tree.now.nodes))
    (λ n few room. omega (
      arith,
      c.insert_at.ensures.counted,
      room_size c.args.tree.now c.args.tables.now.items n
          c.args.at c.requires.ready.family c.requires.ready.within few room,
    ))

pub insert_tuple-insert_above-requires : goal.insert_tuple-insert_above-requires
insert_tuple-insert_above-requires g t c κs hκ =
    let d = c.decreases in (
      omega arith,
      (
        hκ,
        (
          record {
            was = c.args.tables.now.items;
            began = record
                { ready = c.requires.ready; changed = c.insert_at.ensures.changed };
            mark = c.args.marked;
            gains =
                c.in_ok-place.ensures.inserted;
          },
          (
            c.requires.wide ∙ sym
                (wide_now c.args.tree.now c.args.tables.now.items c.insert_at.new.tables.items c.args.at
                c.requires.ready.family (c.insert_at.ensures.changed.family c.args.tree.now c.requires.ready.family)
                c.requires.ready.within),
            still_bare c.args.marked c.args.tables.now.items c.insert_at.new.tables.items
                (inserted_same c.args.tables.now.items c.insert_at.new.tables.items c.args.at c.args.tuple.now
                c.insert_at.ensures.changed c.in_ok-place.ensures.inserted) c.requires.bare,
          ),
        ),
      ),
    )

pub insert_tuple-remove_at-requires-clause-within : goal.insert_tuple-remove_at-requires-clause-within
insert_tuple-remove_at-requires-clause-within g t c =
    has_table c.args.tree.now c.insert_above.new.tables.items c.args.at c.in-Err.ensures.refused.family
    c.requires.ready.within

pub insert_tuple-remove_at-requires-clause-live : goal.insert_tuple-remove_at-requires-clause-live
insert_tuple-remove_at-requires-clause-live g t c =
    as_live (entries_at c.insert_above.new.tables.items c.args.at) c.in_ok-place.place c.args.tuple.now
    (moved_at (entries_at c.insert_at.new.tables.items c.args.at) (entries_at c.insert_above.new.tables.items c.args.at)
    c.in_ok-place.place c.args.tuple.now c.in-Err.ensures.refused.at c.in_ok-place.ensures.lies)

pub insert_tuple-returns-in-Ok-clause-ok : goal.insert_tuple-returns-in-Ok-clause-ok
insert_tuple-returns-in-Ok-clause-ok g t c =
    lived_here c.args.tree.now c.args.tables.now.items c.insert_at.new.tables.items c.insert_above.new.tables.items
    c.args.at
    c.args.tuple.now c.insert_at.ensures.changed c.in_ok-place.ensures.inserted c.in-Ok.ensures.ok

pub insert_tuple-returns-in-Ok-clause-plain : goal.insert_tuple-returns-in-Ok-clause-plain
insert_tuple-returns-in-Ok-clause-plain g t c =
    plain_trans c.args.tables.now.items c.insert_at.new.tables.items c.insert_above.new.tables.items
    (inserted_same c.args.tables.now.items c.insert_at.new.tables.items c.args.at c.args.tuple.now
    c.insert_at.ensures.changed c.in_ok-place.ensures.inserted) c.insert_above.ensures.plain

pub insert_tuple-returns-in-Ok-clause-counted : goal.insert_tuple-returns-in-Ok-clause-counted
insert_tuple-returns-in-Ok-clause-counted g t c =
    omega (
      arith,
      c.insert_at.ensures.counted,
      c.insert_at.ensures.changed.size,
      inserted_length
          (key_at c.args.tables.now.items c.args.at) (entries_at c.args.tables.now.items c.args.at)
          (entries_at c.insert_at.new.tables.items c.args.at) c.args.tuple.now c.in_ok-place.ensures.inserted,
      c.in-Ok.ensures.counted,
    )

pub insert_tuple-returns-in-Err-clause-refused : goal.insert_tuple-returns-in-Err-clause-refused
insert_tuple-returns-in-Err-clause-refused g t c =
    (refused_here c.args.tree.now c.args.tables.now.items c.insert_at.new.tables.items c.insert_above.new.tables.items
    c.remove_at.new.tables.items c.args.at c.args.tuple.now c.requires.ready c.requires.absent
    c.insert_at.ensures.changed c.in_ok-place.ensures.inserted c.in-Err.ensures.refused c.remove_at.ensures.changed
    (c.remove_at.ensures.removed c.args.tuple.now
    (moved_at (entries_at c.insert_at.new.tables.items c.args.at) (entries_at c.insert_above.new.tables.items c.args.at)
    c.in_ok-place.place c.args.tuple.now c.in-Err.ensures.refused.at c.in_ok-place.ensures.lies)))

pub insert_tuple-returns-in-Err-clause-plain : goal.insert_tuple-returns-in-Err-clause-plain
insert_tuple-returns-in-Err-clause-plain g t c =
    back_same c.args.tree.now c.args.tables.now.items c.insert_above.new.tables.items c.remove_at.new.tables.items
    c.requires.ready.family c.in-Err.ensures.refused.family
    (c.remove_at.ensures.changed.family c.args.tree.now c.in-Err.ensures.refused.family)
    (plain_trans c.args.tables.now.items c.insert_at.new.tables.items c.insert_above.new.tables.items
    (inserted_same c.args.tables.now.items c.insert_at.new.tables.items c.args.at c.args.tuple.now
    c.insert_at.ensures.changed c.in_ok-place.ensures.inserted) c.insert_above.ensures.plain)
    (removed_fewer c.insert_above.new.tables.items c.remove_at.new.tables.items c.args.at c.args.tuple.now
    c.remove_at.ensures.changed
    (c.remove_at.ensures.removed c.args.tuple.now
    (moved_at (entries_at c.insert_at.new.tables.items c.args.at) (entries_at c.insert_above.new.tables.items c.args.at)
    c.in_ok-place.place c.args.tuple.now c.in-Err.ensures.refused.at c.in_ok-place.ensures.lies)))
    (refused_here c.args.tree.now c.args.tables.now.items c.insert_at.new.tables.items c.insert_above.new.tables.items
    c.remove_at.new.tables.items c.args.at c.args.tuple.now c.requires.ready c.requires.absent
    c.insert_at.ensures.changed c.in_ok-place.ensures.inserted c.in-Err.ensures.refused c.remove_at.ensures.changed
    (c.remove_at.ensures.removed c.args.tuple.now
    (moved_at (entries_at c.insert_at.new.tables.items c.args.at) (entries_at c.insert_above.new.tables.items c.args.at)
    c.in_ok-place.place c.args.tuple.now c.in-Err.ensures.refused.at c.in_ok-place.ensures.lies))).supports

pub insert_tuple-returns-in-Err-clause-bounded : goal.insert_tuple-returns-in-Err-clause-bounded
insert_tuple-returns-in-Err-clause-bounded g t c =
    λ n few room. omega (
      arith,
      c.insert_at.ensures.counted,
      c.insert_at.ensures.changed.size,
      inserted_length (key_at c.args.tables.now.items c.args.at) (entries_at c.args.tables.now.items c.args.at)
          (entries_at c.insert_at.new.tables.items c.args.at) c.args.tuple.now c.in_ok-place.ensures.inserted,
      c.in-Err.ensures.bounded n
          (most_more c.args.tables.now.items c.insert_at.new.tables.items n c.args.at c.args.tuple.now
          c.insert_at.ensures.changed c.in_ok-place.ensures.inserted few room),
      c.remove_at.ensures.counted,
    )

pub insert_above-parent-requires : goal.insert_above-parent-requires
insert_above-parent-requires g t c =
    c.requires.gaining.began.ready.within

pub insert_above-node-requires : goal.insert_above-node-requires
insert_above-node-requires g t c =
    c.in-Some.ensures.above.1

pub insert_above-insert_above_trim-requires : goal.insert_above-insert_above_trim-requires
insert_above-insert_above_trim-requires g t c κs hκ =
    let d = c.decreases in (
      omega arith,
      (
        hκ,
        (
          c.requires.gaining,
          (
            c.requires.wide,
            (
              under_trim c.args.tree.now c.args.at c.in-Some.up c.in-Trim.child c.parent.result
                  c.node.result c.requires.gaining.began.ready.family.is_tree c.parent.ensures.parent c.in-Some.is
                  c.in-Some.ensures.above.1 c.node.ensures c.in-Trim.is,
              c.requires.bare,
            ),
          ),
        ),
      ),
    )

pub insert_above-insert_above_guard-requires : goal.insert_above-insert_above_guard-requires
insert_above-insert_above_guard-requires g t c κs hκ =
    let d = c.decreases in (
      omega arith,
      (
        hκ,
        (
          c.requires.gaining,
          (
            c.requires.wide,
            (
              under_guard c.args.tree.now c.args.at c.in-Some.up c.in-Meet.guard c.in-Meet.side
                  c.parent.result c.node.result c.requires.gaining.began.ready.family.is_tree
                  c.parent.ensures.parent c.in-Some.is
                  c.in-Some.ensures.above.1 c.node.ensures c.in-Meet.is c.if-guard-at.true,
              c.requires.bare,
            ),
          ),
        ),
      ),
    )

pub insert_above-insert_above_side-requires : goal.insert_above-insert_above_side-requires
insert_above-insert_above_side-requires g t c κs hκ =
    let d = c.decreases in (
      omega arith,
      (
        hκ,
        (
          c.requires.gaining,
          (
            under_side c.args.tree.now c.args.at c.in-Some.up c.in-Meet.guard c.in-Meet.side
                c.parent.result c.node.result
                c.requires.gaining.began.ready.family.is_tree c.parent.ensures.parent c.in-Some.is
                c.in-Some.ensures.above.1
                c.node.ensures c.in-Meet.is c.if-guard-at.false,
            c.requires.bare,
          ),
        ),
      ),
    )

pub insert_above-returns-in-None : goal.insert_above-returns-in-None
insert_above-returns-in-None g t c =
    record {
      ok = topmost c.args.tree.now c.requires.gaining.was c.args.tables.now.items c.args.at c.requires.gaining.began
          c.in-None.ensures.root;
      refused = search rules;
      plain = plain_refl c.args.tables.now.items;
      counted = omega arith;
      bounded = search rules;
      flat = search rules;
    }

pub insert_above-returns-in-Leaf : goal.insert_above-returns-in-Leaf
insert_above-returns-in-Leaf g t c =
    record {
      ok = absurd (under_leaf c.args.tree.now c.args.at c.in-Some.up _ c.parent.result c.node.result
          c.requires.gaining.began.ready.family.is_tree c.parent.ensures.parent c.in-Some.is c.node.ensures
          c.in-Leaf.is);
      refused = search rules;
      plain = plain_refl c.args.tables.now.items;
      counted = omega arith;
      bounded = search rules;
      flat = search rules;
    }

pub insert_above-returns-in-Trim : goal.insert_above-returns-in-Trim
insert_above-returns-in-Trim g t c =
    c.insert_above_trim.ensures

pub insert_above-returns-then-guard-at : goal.insert_above-returns-then-guard-at
insert_above-returns-then-guard-at g t c =
    c.insert_above_guard.ensures

pub insert_above-returns-else-guard-at : goal.insert_above-returns-else-guard-at
insert_above-returns-else-guard-at g t c =
    c.insert_above_side.ensures

pub insert_above_guard-index-requires : goal.insert_above_guard-index-requires
insert_above_guard-index-requires g t c =
    omega (
      arith,
      has_table c.args.tree.now c.args.tables.now.items c.args.at
          (now_family c.args.tree.now c.requires.gaining.was c.args.tables.now.items c.args.at c.requires.gaining.began)
          c.requires.gaining.began.ready.within,
      c.args.tables.now.ok.0,
    )

pub insert_above_guard-find_part-requires-clause-within : goal.insert_above_guard-find_part-requires-clause-within
insert_above_guard-find_part-requires-clause-within g t c =
    has_table c.args.tree.now c.args.tables.now.items c.args.at
    (now_family c.args.tree.now c.requires.gaining.was c.args.tables.now.items c.args.at c.requires.gaining.began)
    c.requires.gaining.began.ready.within

pub insert_above_guard-find_part-requires-clause-narrow : goal.insert_above_guard-find_part-requires-clause-narrow
insert_above_guard-find_part-requires-clause-narrow g t c =
    width_narrow c.args.tree.now c.args.tables.now.items c.args.at
    (now_family c.args.tree.now c.requires.gaining.was c.args.tables.now.items c.args.at c.requires.gaining.began)
    c.requires.gaining.began.ready.within

pub insert_above_guard-find_part-requires-clause-few : goal.insert_above_guard-find_part-requires-clause-few
insert_above_guard-find_part-requires-clause-few g t c =
    guard_few c.args.tree.now c.args.tables.now.items c.args.at c.args.side c.args.up
    (now_family c.args.tree.now c.requires.gaining.was c.args.tables.now.items c.args.at c.requires.gaining.began)
    c.requires.gaining.began.ready.within c.requires.under

pub insert_above_guard-find_part-requires-clause-wide : goal.insert_above_guard-find_part-requires-clause-wide
insert_above_guard-find_part-requires-clause-wide g t c =
    c.requires.wide

pub insert_above_guard-find_part-requires-clause-there : goal.insert_above_guard-find_part-requires-clause-there
insert_above_guard-find_part-requires-clause-there g t c =
    let m = c.requires.gaining.began.ready.family.is_tree.meet c.args.up c.args.at c.args.side c.requires.under.node in
    let ms = m.side_lower in
    let within = c.requires.under.within in
    has_table c.args.tree.now c.args.tables.now.items c.args.side
    (now_family c.args.tree.now c.requires.gaining.was c.args.tables.now.items c.args.at c.requires.gaining.began)
    (omega arith)

pub insert_above_guard-insert_tuple-requires : goal.insert_above_guard-insert_tuple-requires
insert_above_guard-insert_tuple-requires g t c κs hκ =
    let low = lower_of c.args.tree.now c.args.up (Meet c.args.at c.args.side) c.args.at
    c.requires.gaining.began.ready.family.is_tree c.requires.under in
    let within = c.requires.under.within in
    let d = c.decreases in (
      omega arith,
      (
        hκ,
        (
          ready_up c.args.tree.now c.requires.gaining.was c.args.tables.now.items c.args.at c.args.up
              (Meet c.args.at c.args.side) c.requires.gaining.began c.requires.under,
          (
            guard_absent c.args.tree.now c.requires.gaining.was c.args.tables.now.items c.args.at c.args.side c.args.up
                c.args.tuple.now c.requires.gaining.began c.requires.gaining.gains c.requires.under,
            (
              c.requires.wide ∙ sym
                  (guard_wide c.args.tree.now c.args.tables.now.items c.args.at c.args.side c.args.up
                  (now_family c.args.tree.now c.requires.gaining.was c.args.tables.now.items c.args.at
                  c.requires.gaining.began)
                  c.requires.gaining.began.ready.within c.requires.under),
              (
                guard_fits c.args.tree.now c.requires.gaining.was c.args.tables.now.items c.args.at
                    c.args.side c.args.up
                    4294967295 c.args.tuple.now c.requires.gaining.began c.requires.gaining.gains c.requires.under
                    (of_read (λ es. length es ≤ 4294967295) (family_read c.args.tree.now c.args.tables.now.items
                    c.args.at
                    c.index.result.now (now_family c.args.tree.now c.requires.gaining.was c.args.tables.now.items
                    c.args.at
                    c.requires.gaining.began) c.requires.gaining.began.ready.within c.index.ensures)
                    c.is_small.ensures),
                c.requires.bare,
              ),
            ),
          ),
        ),
      ),
    )

pub insert_above_guard-returns-in-Some : goal.insert_above_guard-returns-in-Some
insert_above_guard-returns-in-Some g t c =
    record {
      ok = ok_map c.insert_tuple.result (InsertedUpwards c.args.tree.now c.args.tables.now.items
          c.insert_tuple.new.tables.items c.args.up
          c.args.tuple.now) (ReducedAbove c.args.tree.now c.args.tables.now.items c.insert_tuple.new.tables.items
          c.args.at)
          (λ l. guard_lived c.args.tree.now c.requires.gaining.was c.args.tables.now.items
          c.insert_tuple.new.tables.items
          c.args.at c.args.side c.args.up c.args.tuple.now c.in-Some._place c.requires.gaining.began
          c.requires.gaining.gains c.requires.under l
          c.in-Some.ensures.found) c.insert_tuple.ensures.ok;
      refused = err_map c.insert_tuple.result (Refused c.args.tree.now c.args.tables.now.items
          c.insert_tuple.new.tables.items
          c.args.up)
          (UnchangedAbove c.args.tree.now c.args.tables.now.items c.insert_tuple.new.tables.items c.args.at)
          (λ r. stayed c.args.tree.now c.args.tables.now.items c.insert_tuple.new.tables.items c.args.at c.args.up
          (Meet c.args.at c.args.side) c.requires.gaining.began.ready.family.is_tree c.requires.under r)
          c.insert_tuple.ensures.refused;
      plain = c.insert_tuple.ensures.plain;
      counted = ok_map c.insert_tuple.result (c.insert_tuple.new.tally + 1 + 4 * size c.args.tables.now.items
          ≤ c.find_part.new.tally + 4 * size
          c.insert_tuple.new.tables.items)
          (c.insert_tuple.new.tally + 4 * size c.args.tables.now.items ≤ c.args.tally.now + 2 + 4
          * size c.insert_tuple.new.tables.items)
          (λ h. omega (arith, h, c.find_part.ensures.counted)) c.insert_tuple.ensures.counted;
      bounded = err_map c.insert_tuple.result
          ((n : ℕ) → AreAtMost c.args.tables.now.items n → length (entries_at c.args.tables.now.items c.args.up) < n
          → c.insert_tuple.new.tally + 9 * size c.args.tables.now.items ≤ c.find_part.new.tally + 9 *
          (n * length c.args.tree.now.nodes))
          ((n : ℕ) → AreAtMost c.args.tables.now.items n
          → c.insert_tuple.new.tally + 9 * size c.args.tables.now.items ≤ c.args.tally.now + 7 + 9 *
          (n * length c.args.tree.now.nodes))
          (λ h n few. omega (
            arith,
            c.find_part.ensures.counted,
            h n few
                (guard_fits c.args.tree.now c.requires.gaining.was c.args.tables.now.items c.args.at c.args.side
                c.args.up n
                c.args.tuple.now c.requires.gaining.began c.requires.gaining.gains c.requires.under
                (few.each c.args.at)),
          ))
          c.insert_tuple.ensures.bounded;
      flat = err_map c.insert_tuple.result
          (HasEqualMeets c.args.tree.now
          → c.insert_tuple.new.tally ≤ c.find_part.new.tally + 5 * (length c.args.tree.now.nodes - c.args.up))
          (HasEqualMeets c.args.tree.now
          → c.insert_tuple.new.tally + 2 ≤ c.args.tally.now + 5 * (length c.args.tree.now.nodes - c.args.at))
          (λ h meets. let low = lower_of c.args.tree.now c.args.up (Meet c.args.at c.args.side) c.args.at
          c.requires.gaining.began.ready.family.is_tree c.requires.under in let within =
          c.requires.under.within in omega
          (arith, c.find_part.ensures.counted, h meets)) c.insert_tuple.ensures.flat;
    }

pub insert_above_guard-returns-in-None : goal.insert_above_guard-returns-in-None
insert_above_guard-returns-in-None g t c =
    record {
      ok = guard_idle c.args.tree.now c.requires.gaining.was c.args.tables.now.items c.args.at c.args.side c.args.up
          c.args.tuple.now c.requires.gaining.began c.requires.gaining.gains c.requires.under
          c.in-None.ensures.found;
      refused = search rules;
      plain = plain_refl c.args.tables.now.items;
      counted = omega (arith, c.find_part.ensures.counted);
      bounded = search rules;
      flat = search rules;
    }

pub insert_above_trim-column_of-requires : goal.insert_above_trim-column_of-requires
insert_above_trim-column_of-requires g t c =
    has_table c.args.tree.now c.args.tables.now.items c.args.at
    (now_family c.args.tree.now c.requires.gaining.was c.args.tables.now.items c.args.at c.requires.gaining.began)
    c.requires.gaining.began.ready.within

pub insert_above_trim-insert_above_part-requires : goal.insert_above_trim-insert_above_part-requires
insert_above_trim-insert_above_part-requires g t c κs hκ =
    let d = c.decreases in (
      omega arith,
      (
        hκ,
        (
          c.requires.gaining,
          (
            c.requires.wide,
            (
              c.requires.under,
              (
                part_one (key_at c.args.tables.now.items c.args.at) c.in-Some.column c.args.tuple.now
                    c.in-Some.ensures.key,
                c.requires.bare,
              ),
            ),
          ),
        ),
      ),
    )

pub insert_above_trim-index-requires : goal.insert_above_trim-index-requires
insert_above_trim-index-requires g t c =
    omega (
      arith,
      has_table c.args.tree.now c.args.tables.now.items c.args.at
          (now_family c.args.tree.now c.requires.gaining.was c.args.tables.now.items c.args.at c.requires.gaining.began)
          c.requires.gaining.began.ready.within,
      c.args.tables.now.ok.0,
    )

pub insert_above_trim-insert_above_part-requires-then-is_empty :
    goal.insert_above_trim-insert_above_part-requires-then-is_empty
insert_above_trim-insert_above_part-requires-then-is_empty g t c κs hκ =
    let r = family_read c.args.tree.now c.args.tables.now.items c.args.at c.index.result.now
    (now_family c.args.tree.now c.requires.gaining.was c.args.tables.now.items c.args.at c.requires.gaining.began)
    c.requires.gaining.began.ready.within c.index.ensures in
    let d = c.decreases in (
      omega arith,
      (
        hκ,
        (
          c.requires.gaining,
          (
            c.requires.wide,
            (
              c.requires.under,
              (
                part_none (key_at c.args.tables.now.items c.args.at) c.args.tuple.now
                    (sym (c.key.ensures ∙ r.key) ∙ is_none c.key.result.now (search rules)),
                c.requires.bare,
              ),
            ),
          ),
        ),
      ),
    )

pub insert_above_trim-insert_above_wide-requires : goal.insert_above_trim-insert_above_wide-requires
insert_above_trim-insert_above_wide-requires g t c κs hκ =
    let d = c.decreases in (
      omega arith,
      (hκ, (c.requires.gaining, (c.requires.wide, (c.requires.under, c.requires.bare)))),
    )

pub insert_above_wide-insert_above_part-requires : goal.insert_above_wide-insert_above_part-requires
insert_above_wide-insert_above_part-requires g t c κs hκ =
    let d = c.decreases in (
      omega arith,
      (
        hκ,
        (
          c.requires.gaining,
          (
            c.requires.wide,
            (c.requires.under, (c.as_slice.ensures ∙ c.part_of.ensures, c.requires.bare)),
          ),
        ),
      ),
    )

pub insert_above_wide-part_of-requires-clause-within : goal.insert_above_wide-part_of-requires-clause-within
insert_above_wide-part_of-requires-clause-within g t c =
    has_table c.args.tree.now c.args.tables.now.items c.args.at
    (now_family c.args.tree.now c.requires.gaining.was c.args.tables.now.items c.args.at c.requires.gaining.began)
    c.requires.gaining.began.ready.within

pub insert_above_wide-part_of-requires-clause-narrow : goal.insert_above_wide-part_of-requires-clause-narrow
insert_above_wide-part_of-requires-clause-narrow g t c =
    width_narrow c.args.tree.now c.args.tables.now.items c.args.at
    (now_family c.args.tree.now c.requires.gaining.was c.args.tables.now.items c.args.at c.requires.gaining.began)
    c.requires.gaining.began.ready.within

pub insert_above_wide-part_of-requires-clause-few : goal.insert_above_wide-part_of-requires-clause-few
insert_above_wide-part_of-requires-clause-few g t c =
    trim_few c.args.tree.now c.args.tables.now.items c.args.at c.args.up
    (now_family c.args.tree.now c.requires.gaining.was c.args.tables.now.items c.args.at c.requires.gaining.began)
    c.requires.gaining.began.ready.within c.requires.under

pub insert_above_wide-part_of-requires-clause-wide : goal.insert_above_wide-part_of-requires-clause-wide
insert_above_wide-part_of-requires-clause-wide g t c =
    c.requires.wide

pub insert_above_part-find_at-requires : goal.insert_above_part-find_at-requires
insert_above_part-find_at-requires g t c =
    has_table c.args.tree.now c.args.tables.now.items c.args.up
    (now_family c.args.tree.now c.requires.gaining.was c.args.tables.now.items c.args.at c.requires.gaining.began)
    c.requires.under.within

pub insert_above_part-index-requires : goal.insert_above_part-index-requires
insert_above_part-index-requires g t c =
    omega (
      arith,
      has_table c.args.tree.now c.args.tables.now.items c.args.at
          (now_family c.args.tree.now c.requires.gaining.was c.args.tables.now.items c.args.at c.requires.gaining.began)
          c.requires.gaining.began.ready.within,
      c.args.tables.now.ok.0,
    )

pub insert_above_part-index_mut-requires : goal.insert_above_part-index_mut-requires
insert_above_part-index_mut-requires g t c =
    omega (
      arith,
      has_table c.args.tree.now c.args.tables.now.items c.args.up
          (now_family c.args.tree.now c.requires.gaining.was c.args.tables.now.items c.args.at c.requires.gaining.began)
          c.requires.under.within,
      c.args.tables.now.ok.0,
    )

pub insert_above_part-raise-requires : goal.insert_above_part-raise-requires
insert_above_part-raise-requires g t c =
    to_read (λ es. IsRaisable es c.in-Some.place) (family_read c.args.tree.now c.args.tables.now.items c.args.up
    c.index_mut.result.now
    (now_family c.args.tree.now c.requires.gaining.was c.args.tables.now.items c.args.at c.requires.gaining.began)
    c.requires.under.within c.index_mut.ensures.value)
    (record {
      tuple = c.args.cells.now;
      is_at = c.in-Some.ensures.found;
      room = trim_room c.args.tree.now
          c.requires.gaining.was c.args.tables.now.items c.args.at c.args.up c.args.tuple.now
          c.args.cells.now
          c.requires.gaining.began c.requires.gaining.gains c.requires.under
          (of_read (λ es. length es ≤ 4294967295) (family_read c.args.tree.now c.args.tables.now.items c.args.at
          c.index.result.now (now_family c.args.tree.now c.requires.gaining.was c.args.tables.now.items c.args.at
          c.requires.gaining.began)
          c.requires.gaining.began.ready.within c.index.ensures) c.is_small.ensures);
    })

pub insert_above_part-insert_tuple-requires : goal.insert_above_part-insert_tuple-requires
insert_above_part-insert_tuple-requires g t c κs hκ =
    let low = lower_of c.args.tree.now c.args.up (Trim c.args.at) c.args.at
    c.requires.gaining.began.ready.family.is_tree c.requires.under in
    let within = c.requires.under.within in
    let d = c.decreases in (
      omega arith,
      (
        hκ,
        (
          ready_up c.args.tree.now c.requires.gaining.was c.args.tables.now.items c.args.at c.args.up
              (Trim c.args.at) c.requires.gaining.began c.requires.under,
          (
            c.in-None.ensures.found,
            (
              trim_wide c.args.tree.now c.args.tables.now.items c.args.at c.args.up c.args.tuple.now
                  c.args.cells.now
                  (now_family c.args.tree.now c.requires.gaining.was c.args.tables.now.items c.args.at
                  c.requires.gaining.began)
                  c.requires.gaining.began.ready.within c.requires.under c.requires.part,
              (
                trim_fits c.args.tree.now c.requires.gaining.was c.args.tables.now.items c.args.at c.args.up 4294967295
                    c.args.tuple.now c.requires.gaining.began c.requires.gaining.gains c.requires.under
                    (of_read (λ es. length es ≤ 4294967295) (family_read c.args.tree.now c.args.tables.now.items
                    c.args.at
                    c.index.result.now (now_family c.args.tree.now c.requires.gaining.was c.args.tables.now.items
                    c.args.at
                    c.requires.gaining.began) c.requires.gaining.began.ready.within c.index.ensures)
                    c.is_small.ensures),
                c.requires.bare,
              ),
            ),
          ),
        ),
      ),
    )

pub insert_above_part-returns-in-Some : goal.insert_above_part-returns-in-Some
insert_above_part-returns-in-Some g t c =
    let r = family_read c.args.tree.now c.args.tables.now.items c.args.up c.index_mut.result.now
    (now_family c.args.tree.now c.requires.gaining.was c.args.tables.now.items c.args.at c.requires.gaining.began)
    c.requires.under.within c.index_mut.ensures.value in
    let n = supported_into (λ (x : ℕ). x + 1) c.args.cells.now r c.raise.ensures.table c.raise.ensures.key
    c.raise.ensures.width (c.raise.ensures.raised c.args.cells.now (at_read r c.in-Some.ensures.found)) (omega arith) in
    record {
      ok = trim_raised c.args.tree.now c.requires.gaining.was c.args.tables.now.items
          (slice_set c.args.tables.now.items c.args.up c.raise.new.self) c.args.at c.args.up c.args.tuple.now
          c.args.cells.now c.requires.gaining.began c.requires.gaining.gains c.requires.under n.changed n.supported
          c.requires.part;
      refused = search rules;
      plain = raised_same c.args.tables.now.items (slice_set c.args.tables.now.items c.args.up c.raise.new.self)
          c.args.up
          c.args.cells.now (supports_of (entries_at c.args.tables.now.items c.args.up) c.args.cells.now)
          ((supports_of (entries_at c.args.tables.now.items c.args.up) c.args.cells.now) + 1) n.changed n.supported;
      counted = omega (
        arith,
        c.find_at.ensures.counted,
        c.raise.ensures.counted,
        n.changed.size,
        supported_length (entries_at c.args.tables.now.items c.args.up)
            (entries_at (slice_set c.args.tables.now.items c.args.up c.raise.new.self) c.args.up) c.args.cells.now
            (supports_of (entries_at c.args.tables.now.items c.args.up) c.args.cells.now)
            ((supports_of (entries_at c.args.tables.now.items c.args.up) c.args.cells.now) + 1) n.supported,
      );
      bounded = search rules;
      flat = search rules;
    }

pub insert_above_part-returns-in-None : goal.insert_above_part-returns-in-None
insert_above_part-returns-in-None g t c =
    record {
      ok = ok_map c.insert_tuple.result (InsertedUpwards c.args.tree.now c.args.tables.now.items
          c.insert_tuple.new.tables.items c.args.up
          c.args.cells.now) (ReducedAbove c.args.tree.now c.args.tables.now.items c.insert_tuple.new.tables.items
          c.args.at)
          (λ l. trim_lived c.args.tree.now c.requires.gaining.was c.args.tables.now.items
          c.insert_tuple.new.tables.items
          c.args.at c.args.up c.args.tuple.now c.args.cells.now c.requires.gaining.began
          c.requires.gaining.gains c.requires.under l c.requires.part) c.insert_tuple.ensures.ok;
      refused = err_map c.insert_tuple.result (Refused c.args.tree.now c.args.tables.now.items
          c.insert_tuple.new.tables.items
          c.args.up)
          (UnchangedAbove c.args.tree.now c.args.tables.now.items c.insert_tuple.new.tables.items c.args.at)
          (λ r. stayed c.args.tree.now c.args.tables.now.items c.insert_tuple.new.tables.items c.args.at c.args.up
          (Trim c.args.at) c.requires.gaining.began.ready.family.is_tree c.requires.under r)
          c.insert_tuple.ensures.refused;
      plain = c.insert_tuple.ensures.plain;
      counted = ok_map c.insert_tuple.result (c.insert_tuple.new.tally + 1 + 4 * size c.args.tables.now.items
          ≤ c.find_at.new.tally + 4 * size
          c.insert_tuple.new.tables.items)
          (c.insert_tuple.new.tally + 4 * size c.args.tables.now.items ≤ c.args.tally.now + 2 + 4
          * size c.insert_tuple.new.tables.items)
          (λ h. omega (arith, h, c.find_at.ensures.counted)) c.insert_tuple.ensures.counted;
      bounded = err_map c.insert_tuple.result
          ((n : ℕ) → AreAtMost c.args.tables.now.items n → length (entries_at c.args.tables.now.items c.args.up) < n
          → c.insert_tuple.new.tally + 9 * size c.args.tables.now.items ≤ c.find_at.new.tally + 9 *
          (n * length c.args.tree.now.nodes))
          ((n : ℕ) → AreAtMost c.args.tables.now.items n
          → c.insert_tuple.new.tally + 9 * size c.args.tables.now.items ≤ c.args.tally.now + 7 + 9 *
          (n * length c.args.tree.now.nodes))
          (λ h n few. omega (
            arith,
            c.find_at.ensures.counted,
            h n few
                (trim_fits c.args.tree.now c.requires.gaining.was c.args.tables.now.items c.args.at c.args.up n
                c.args.tuple.now
                c.requires.gaining.began c.requires.gaining.gains c.requires.under (few.each c.args.at)),
          ))
          c.insert_tuple.ensures.bounded;
      flat = err_map c.insert_tuple.result
          (HasEqualMeets c.args.tree.now
          → c.insert_tuple.new.tally ≤ c.find_at.new.tally + 5 * (length c.args.tree.now.nodes - c.args.up))
          (HasEqualMeets c.args.tree.now
          → c.insert_tuple.new.tally + 2 ≤ c.args.tally.now + 5 * (length c.args.tree.now.nodes - c.args.at))
          (λ h meets. let low = lower_of c.args.tree.now c.args.up (Trim c.args.at) c.args.at
          c.requires.gaining.began.ready.family.is_tree c.requires.under in let within =
          c.requires.under.within in omega
          (arith, c.find_at.ensures.counted, h meets)) c.insert_tuple.ensures.flat;
    }

pub insert_above_side-index-table-requires : goal.insert_above_side-index-table-requires
insert_above_side-index-table-requires g t c =
    let m = c.requires.gaining.began.ready.family.is_tree.meet c.args.up c.args.guard c.args.at c.requires.under.node in
    let mg = m.guard_lower in
    let within = c.requires.under.within in
    omega (
      arith,
      has_table c.args.tree.now c.args.tables.now.items c.args.guard
          (now_family c.args.tree.now c.requires.gaining.was c.args.tables.now.items c.args.at c.requires.gaining.began)
          (omega arith),
      c.args.tables.now.ok.0,
    )

pub insert_above_side-loop-done-init : goal.insert_above_side-loop-done-init
insert_above_side-loop-done-init g t c =
    let r = guard_read c.args.tree.now c.args.tables.now.items c.args.at c.args.up c.args.guard c.index-table.result.now
    (now_family c.args.tree.now c.requires.gaining.was c.args.tables.now.items c.args.at c.requires.gaining.began)
    c.requires.under c.index-table.ensures in
    record {
      next = c.first-next.ensures.found ∙ ap (λ (es : List Entry). head_at es) (group_read c.args.tuple.now r);
      grown = grown_none c.args.tree.now c.args.tables.now.items c.args.up
          (group_of (key_at c.args.tables.now.items c.args.guard) (entries_at c.args.tables.now.items c.args.guard)
          c.args.tuple.now) (ready_up c.args.tree.now c.requires.gaining.was c.args.tables.now.items c.args.at c.args.up
          (Meet c.args.guard c.args.at) c.requires.gaining.began c.requires.under);
      unchanged = plain_refl
          c.args.tables.now.items;
      counted = omega (arith, c.first-next.ensures.counted);
    }

pub insert_above_side-read_at-requires-clause-within : goal.insert_above_side-read_at-requires-clause-within
insert_above_side-read_at-requires-clause-within g t c =
    let m = c.requires.gaining.began.ready.family.is_tree.meet c.args.up c.args.guard c.args.at c.requires.under.node in
    let mg = m.guard_lower in
    let within = c.requires.under.within in
    has_table c.args.tree.now c.loop-done.tables.items c.args.guard c.loop-done.invariant.grown.family (omega arith)

pub insert_above_side-read_at-requires-clause-narrow : goal.insert_above_side-read_at-requires-clause-narrow
insert_above_side-read_at-requires-clause-narrow g t c =
    let m = c.requires.gaining.began.ready.family.is_tree.meet c.args.up c.args.guard c.args.at c.requires.under.node in
    let mg = m.guard_lower in
    let within = c.requires.under.within in
    width_narrow c.args.tree.now c.loop-done.tables.items c.args.guard c.loop-done.invariant.grown.family (omega arith)

pub insert_above_side-read_at-requires-clause-live : goal.insert_above_side-read_at-requires-clause-live
insert_above_side-read_at-requires-clause-live g t c =
    let k = cut_of (group_of (key_at c.args.tables.now.items c.args.guard) (entries_at c.args.tables.now.items
    c.args.guard)
    c.args.tuple.now) c.loop-done.done c.loop-done.next c.in-Some.place c.loop-done.invariant.next c.in-Some.is in
    as_live (entries_at c.loop-done.tables.items c.args.guard) c.in-Some.place k.entry.tuple
    (moved_at (entries_at c.args.tables.now.items c.args.guard) (entries_at c.loop-done.tables.items c.args.guard)
    c.in-Some.place k.entry.tuple
    (c.loop-done.invariant.grown.low c.args.guard
    (c.requires.gaining.began.ready.family.is_tree.meet c.args.up c.args.guard c.args.at
    c.requires.under.node).guard_lower)
    (cut_at (key_at c.args.tables.now.items c.args.guard) (entries_at c.args.tables.now.items c.args.guard)
    c.args.tuple.now c.loop-done.done c.in-Some.place k))

pub insert_above_side-insert_tuple-requires : goal.insert_above_side-insert_tuple-requires
insert_above_side-insert_tuple-requires g t c κs hκ =
    let m = c.requires.gaining.began.ready.family.is_tree.meet c.args.up c.args.guard c.args.at c.requires.under.node in
    let mg = m.guard_lower in
    let within = c.requires.under.within in
    let low = lower_of c.args.tree.now c.args.up (Meet c.args.guard c.args.at) c.args.at
    c.requires.gaining.began.ready.family.is_tree c.requires.under in
    let within = c.requires.under.within in
    let d = c.decreases in
    let k = cut_of (group_of (key_at c.args.tables.now.items c.args.guard) (entries_at c.args.tables.now.items
    c.args.guard)
    c.args.tuple.now) c.loop-done.done c.loop-done.next c.in-Some.place c.loop-done.invariant.next c.in-Some.is in (
      omega arith,
      (
        hκ,
        (
          grown_ready c.args.tree.now c.args.tables.now.items c.loop-done.tables.items c.args.up
              (take c.loop-done.done
              (group_of (key_at c.args.tables.now.items c.args.guard) (entries_at c.args.tables.now.items c.args.guard)
              c.args.tuple.now)) c.requires.under.within c.loop-done.invariant.grown,
          (
            subst (λ (w : List ℕ). count_of (entries_at c.loop-done.tables.items c.args.up) w ≡ 0)
                (sym (c.as_slice.ensures
                ∙ c.read_at.ensures.tuple k.entry.tuple
                (moved_at (entries_at c.args.tables.now.items c.args.guard)
                (entries_at c.loop-done.tables.items c.args.guard) c.in-Some.place k.entry.tuple
                (c.loop-done.invariant.grown.low c.args.guard
                (c.requires.gaining.began.ready.family.is_tree.meet c.args.up c.args.guard c.args.at
                c.requires.under.node).guard_lower)
                (cut_at (key_at c.args.tables.now.items c.args.guard) (entries_at c.args.tables.now.items c.args.guard)
                c.args.tuple.now c.loop-done.done c.in-Some.place k))))
                (side_absent c.args.tree.now c.requires.gaining.was c.args.tables.now.items c.loop-done.tables.items
                c.args.guard c.args.at c.args.up c.loop-done.done c.args.tuple.now k.entry c.requires.gaining.began
                c.requires.gaining.gains c.requires.under c.loop-done.invariant.grown k.is),
            (
              ap (λ (w : List ℕ). length w) c.as_slice.ensures ∙ c.read_at.ensures.wide
                  ∙ sym (guard_wide c.args.tree.now c.loop-done.tables.items c.args.guard c.args.at c.args.up
                  c.loop-done.invariant.grown.family (omega arith)
                  (guard_under c.args.tree.now c.args.up c.args.guard c.args.at c.args.at c.requires.under)),
              (
                omega (
                  arith,
                  next_fits c.args.tree.now c.requires.gaining.was c.args.tables.now.items
                      c.loop-done.tables.items c.args.guard c.args.at c.args.up c.loop-done.done
                      c.args.tuple.now k.entry
                      c.requires.gaining.began c.requires.gaining.gains c.requires.under
                      c.loop-done.invariant.grown k.is,
                  c.is_small.ensures,
                  length_read (guard_read c.args.tree.now c.args.tables.now.items c.args.at c.args.up c.args.guard
                      c.index-table.result.now
                      (now_family c.args.tree.now c.requires.gaining.was c.args.tables.now.items c.args.at
                      c.requires.gaining.began)
                      c.requires.under c.index-table.ensures),
                ),
                still_bare c.args.marked c.args.tables.now.items c.loop-done.tables.items
                    c.loop-done.invariant.unchanged c.requires.bare,
              ),
            ),
          ),
        ),
      ),
    )

pub insert_above_side-remove_group_from_meet-requires-clause-ready :
    goal.insert_above_side-remove_group_from_meet-requires-clause-ready
insert_above_side-remove_group_from_meet-requires-clause-ready g t c =
    refused_ready c.args.tree.now c.args.tables.now.items c.loop-done.tables.items c.insert_tuple.new.tables.items
    c.args.up
    (take c.loop-done.done
    (group_of (key_at c.args.tables.now.items c.args.guard) (entries_at c.args.tables.now.items c.args.guard)
    c.args.tuple.now)) c.requires.under.within c.loop-done.invariant.grown c.in-Err.ensures.refused

pub insert_above_side-remove_group_from_meet-requires-clause-lower :
    goal.insert_above_side-remove_group_from_meet-requires-clause-lower
insert_above_side-remove_group_from_meet-requires-clause-lower g t c =
    (c.requires.gaining.began.ready.family.is_tree.meet c.args.up c.args.guard c.args.at
    c.requires.under.node).guard_lower

pub insert_above_side-remove_group_from_meet-requires-clause-full :
    goal.insert_above_side-remove_group_from_meet-requires-clause-full
insert_above_side-remove_group_from_meet-requires-clause-full g t c =
    subst (λ (es : List Entry). CoversAll (entries_at c.insert_tuple.new.tables.items c.args.up) es)
    (sym (same_group c.args.tree.now c.args.tables.now.items c.loop-done.tables.items c.insert_tuple.new.tables.items
    c.args.guard c.args.up c.loop-done.done c.args.tuple.now
    (take c.loop-done.done
    (group_of (key_at c.args.tables.now.items c.args.guard) (entries_at c.args.tables.now.items c.args.guard)
    c.args.tuple.now)) c.requires.gaining.began.ready.family.is_tree
    (now_family c.args.tree.now c.requires.gaining.was c.args.tables.now.items c.args.at c.requires.gaining.began)
    (c.requires.gaining.began.ready.family.is_tree.meet c.args.up c.args.guard c.args.at
    c.requires.under.node).guard_lower c.loop-done.invariant.grown c.in-Err.ensures.refused))
    (side_full c.args.tree.now c.requires.gaining.was c.args.tables.now.items c.loop-done.tables.items
    c.insert_tuple.new.tables.items c.args.guard c.args.at c.args.up c.loop-done.done c.args.tuple.now
    c.requires.gaining.began c.requires.gaining.gains c.requires.under c.loop-done.invariant.grown
    c.in-Err.ensures.refused)

pub insert_above_side-returns-in-Err : goal.insert_above_side-returns-in-Err
insert_above_side-returns-in-Err g t c =
    record {
      ok = search rules;
      refused = (side_stayed c.args.tree.now c.requires.gaining.was c.args.tables.now.items c.loop-done.tables.items
          c.insert_tuple.new.tables.items c.remove_group_from_meet.new.tables.items c.args.guard c.args.at c.args.up
          c.loop-done.done
          c.args.tuple.now c.requires.gaining.began c.requires.under c.loop-done.invariant.grown
          c.in-Err.ensures.refused
          c.remove_group_from_meet.ensures.emptied);
      plain = back_same c.args.tree.now c.args.tables.now.items c.insert_tuple.new.tables.items
          c.remove_group_from_meet.new.tables.items
          (now_family c.args.tree.now c.requires.gaining.was c.args.tables.now.items c.args.at c.requires.gaining.began)
          c.in-Err.ensures.refused.family c.remove_group_from_meet.ensures.emptied.family
          (plain_trans c.args.tables.now.items c.loop-done.tables.items c.insert_tuple.new.tables.items
          c.loop-done.invariant.unchanged c.insert_tuple.ensures.plain) c.remove_group_from_meet.ensures.fewer
          (side_stayed c.args.tree.now c.requires.gaining.was c.args.tables.now.items c.loop-done.tables.items
          c.insert_tuple.new.tables.items c.remove_group_from_meet.new.tables.items c.args.guard c.args.at c.args.up
          c.loop-done.done
          c.args.tuple.now c.requires.gaining.began c.requires.under c.loop-done.invariant.grown
          c.in-Err.ensures.refused
          c.remove_group_from_meet.ensures.emptied).supports;
      counted = search rules;
      bounded = λ n few.
          let k = cut_of (group_of (key_at c.args.tables.now.items c.args.guard) (entries_at c.args.tables.now.items
          c.args.guard)
          c.args.tuple.now) c.loop-done.done c.loop-done.next c.in-Some.place c.loop-done.invariant.next c.in-Some.is in
          let fits = side_fits c.args.tree.now c.requires.gaining.was c.args.tables.now.items c.loop-done.tables.items
          c.args.guard c.args.at c.args.up c.loop-done.done n c.args.tuple.now k.entry c.requires.gaining.began
          c.requires.gaining.gains c.requires.under c.loop-done.invariant.grown k.is few in
          let back = side_stayed c.args.tree.now c.requires.gaining.was c.args.tables.now.items c.loop-done.tables.items
          c.insert_tuple.new.tables.items c.remove_group_from_meet.new.tables.items c.args.guard c.args.at c.args.up
          c.loop-done.done
          c.args.tuple.now c.requires.gaining.began c.requires.under c.loop-done.invariant.grown
          c.in-Err.ensures.refused
          c.remove_group_from_meet.ensures.emptied in
          side_bounded c.args.tree.now c.args.tables.now.items c.loop-done.tables.items c.insert_tuple.new.tables.items
          c.remove_group_from_meet.new.tables.items (n * length c.args.tree.now.nodes) c.args.tally.now
          c.loop-done.tally
          c.insert_tuple.new.tally c.remove_group_from_meet.new.tally
          (now_family c.args.tree.now c.requires.gaining.was c.args.tables.now.items c.args.at c.requires.gaining.began)
          c.loop-done.invariant.grown.family c.in-Err.ensures.refused.family
          c.remove_group_from_meet.ensures.emptied.family
          c.in-Err.ensures.refused.supports back.supports c.loop-done.invariant.counted
          (c.in-Err.ensures.bounded n fits.1 fits.0) c.remove_group_from_meet.ensures.counted;
      flat = λ meets.
          let k = cut_of (group_of (key_at c.args.tables.now.items c.args.guard) (entries_at c.args.tables.now.items
          c.args.guard)
          c.args.tuple.now) c.loop-done.done c.loop-done.next c.in-Some.place c.loop-done.invariant.next c.in-Some.is in
          let back = side_stayed c.args.tree.now c.requires.gaining.was c.args.tables.now.items c.loop-done.tables.items
          c.insert_tuple.new.tables.items c.remove_group_from_meet.new.tables.items c.args.guard c.args.at c.args.up
          c.loop-done.done
          c.args.tuple.now c.requires.gaining.began c.requires.under c.loop-done.invariant.grown
          c.in-Err.ensures.refused
          c.remove_group_from_meet.ensures.emptied in
          side_flat c.args.tree.now c.requires.gaining.was c.args.tables.now.items c.loop-done.tables.items
          c.insert_tuple.new.tables.items c.remove_group_from_meet.new.tables.items c.args.guard c.args.at c.args.up
          c.loop-done.done
          c.args.tally.now c.loop-done.tally c.insert_tuple.new.tally c.remove_group_from_meet.new.tally
          c.args.tuple.now
          k.entry
          meets c.requires.gaining.began c.requires.under c.loop-done.invariant.grown k.is
          c.in-Err.ensures.refused.family
          c.remove_group_from_meet.ensures.emptied.family c.in-Err.ensures.refused.supports back.supports
          c.loop-done.invariant.counted (c.in-Err.ensures.flat meets) c.remove_group_from_meet.ensures.counted;
    }

pub insert_above_side-index-requires : goal.insert_above_side-index-requires
insert_above_side-index-requires g t c =
    let m = c.requires.gaining.began.ready.family.is_tree.meet c.args.up c.args.guard c.args.at c.requires.under.node in
    let mg = m.guard_lower in
    let within = c.requires.under.within in
    omega (
      arith,
      has_table c.args.tree.now c.insert_tuple.new.tables.items c.args.guard c.in-Ok.ensures.ok.family
          (omega arith),
      c.insert_tuple.new.tables.ok.0,
    )

pub insert_above_side-next-next-requires : goal.insert_above_side-next-next-requires
insert_above_side-next-next-requires g t c =
    let k = cut_of (group_of (key_at c.args.tables.now.items c.args.guard) (entries_at c.args.tables.now.items
    c.args.guard)
    c.args.tuple.now) c.loop-done.done c.loop-done.next c.in-Some.place c.loop-done.invariant.next c.in-Some.is in
    let n = (grown_more c.args.tree.now c.args.tables.now.items c.loop-done.tables.items c.insert_tuple.new.tables.items
    c.args.up (group_of (key_at c.args.tables.now.items c.args.guard) (entries_at c.args.tables.now.items c.args.guard)
    c.args.tuple.now) c.loop-done.done k.entry c.loop-done.invariant.grown
    (subst (λ (w : List ℕ). InsertedUpwards c.args.tree.now c.loop-done.tables.items c.insert_tuple.new.tables.items
    c.args.up w)
    (c.as_slice.ensures ∙ c.read_at.ensures.tuple k.entry.tuple
    (moved_at (entries_at c.args.tables.now.items c.args.guard) (entries_at c.loop-done.tables.items c.args.guard)
    c.in-Some.place k.entry.tuple
    (c.loop-done.invariant.grown.low c.args.guard
    (c.requires.gaining.began.ready.family.is_tree.meet c.args.up c.args.guard c.args.at
    c.requires.under.node).guard_lower)
    (cut_at (key_at c.args.tables.now.items c.args.guard) (entries_at c.args.tables.now.items c.args.guard)
    c.args.tuple.now c.loop-done.done c.in-Some.place k))) c.in-Ok.ensures.ok) k.is) in
    live_read (guard_read c.args.tree.now c.insert_tuple.new.tables.items c.args.at c.args.up c.args.guard
    c.index.result.now
    c.in-Ok.ensures.ok.family c.requires.under c.index.ensures)
    (moved_at (entries_at c.args.tables.now.items c.args.guard) (entries_at c.insert_tuple.new.tables.items
    c.args.guard)
    c.in-Some.place k.entry.tuple
    (n.low c.args.guard (c.requires.gaining.began.ready.family.is_tree.meet c.args.up c.args.guard c.args.at
    c.requires.under.node).guard_lower)
    (cut_at (key_at c.args.tables.now.items c.args.guard) (entries_at c.args.tables.now.items c.args.guard)
    c.args.tuple.now c.loop-done.done c.in-Some.place k))

pub insert_above_side-loop-done-smaller : goal.insert_above_side-loop-done-smaller
insert_above_side-loop-done-smaller g t c =
    let h = c.loop-done-test.true in
    omega arith

pub insert_above_side-loop-done-preserved : goal.insert_above_side-loop-done-preserved
insert_above_side-loop-done-preserved g t c =
    let k = cut_of (group_of (key_at c.args.tables.now.items c.args.guard) (entries_at c.args.tables.now.items
    c.args.guard)
    c.args.tuple.now) c.loop-done.done c.loop-done.next c.in-Some.place c.loop-done.invariant.next c.in-Some.is in
    let n = (grown_more c.args.tree.now c.args.tables.now.items c.loop-done.tables.items c.insert_tuple.new.tables.items
    c.args.up (group_of (key_at c.args.tables.now.items c.args.guard) (entries_at c.args.tables.now.items c.args.guard)
    c.args.tuple.now) c.loop-done.done k.entry c.loop-done.invariant.grown
    (subst (λ (w : List ℕ). InsertedUpwards c.args.tree.now c.loop-done.tables.items c.insert_tuple.new.tables.items
    c.args.up w)
    (c.as_slice.ensures ∙ c.read_at.ensures.tuple k.entry.tuple
    (moved_at (entries_at c.args.tables.now.items c.args.guard) (entries_at c.loop-done.tables.items c.args.guard)
    c.in-Some.place k.entry.tuple
    (c.loop-done.invariant.grown.low c.args.guard
    (c.requires.gaining.began.ready.family.is_tree.meet c.args.up c.args.guard c.args.at
    c.requires.under.node).guard_lower)
    (cut_at (key_at c.args.tables.now.items c.args.guard) (entries_at c.args.tables.now.items c.args.guard)
    c.args.tuple.now c.loop-done.done c.in-Some.place k))) c.in-Ok.ensures.ok) k.is) in
    let r = guard_read c.args.tree.now c.insert_tuple.new.tables.items c.args.at c.args.up c.args.guard
    c.index.result.now
    c.in-Ok.ensures.ok.family c.requires.under c.index.ensures in
    record {
      next = c.next-next.ensures.found c.args.tuple.now
          (take c.loop-done.done
          (group_of (key_at c.args.tables.now.items c.args.guard) (entries_at c.args.tables.now.items c.args.guard)
          c.args.tuple.now)) k.entry
          (drop (c.loop-done.done + 1)
          (group_of (key_at c.args.tables.now.items c.args.guard) (entries_at c.args.tables.now.items c.args.guard)
          c.args.tuple.now)) (group_read c.args.tuple.now r
          ∙ group_still c.args.tree.now c.args.tables.now.items c.insert_tuple.new.tables.items
          c.args.guard
          c.args.tuple.now (now_family c.args.tree.now c.requires.gaining.was c.args.tables.now.items c.args.at
          c.requires.gaining.began) n.family
          (n.low c.args.guard (c.requires.gaining.began.ready.family.is_tree.meet c.args.up c.args.guard c.args.at
          c.requires.under.node).guard_lower) ∙ k.is) k.at;
      grown = n;
      unchanged = plain_trans c.args.tables.now.items c.loop-done.tables.items c.insert_tuple.new.tables.items
          c.loop-done.invariant.unchanged c.insert_tuple.ensures.plain;
      counted = omega (arith, c.loop-done.invariant.counted, c.in-Ok.ensures.counted, c.next-next.ensures.counted);
    }

pub insert_above_side-returns-in-None : goal.insert_above_side-returns-in-None
insert_above_side-returns-in-None g t c =
    record {
      ok = side_righted c.args.tree.now c.requires.gaining.was c.args.tables.now.items c.loop-done.tables.items
          c.args.guard
          c.args.at c.args.up c.loop-done.done c.args.tuple.now c.requires.gaining.began c.requires.gaining.gains
          c.requires.under c.loop-done.invariant.grown
          (head_none (drop c.loop-done.done
          (group_of (key_at c.args.tables.now.items c.args.guard) (entries_at c.args.tables.now.items c.args.guard)
          c.args.tuple.now)) (sym c.loop-done.invariant.next ∙ c.in-None.is));
      refused = search rules;
      plain = c.loop-done.invariant.unchanged;
      counted = omega (arith, c.loop-done.invariant.counted);
      bounded = search rules;
      flat = search rules;
    }

pub insert_above_side-returns : goal.insert_above_side-returns
insert_above_side-returns g t c =
    record {
      ok = (let h = c.loop-done-test.false in
          let x = c.loop-done.auto.done-end in
          side_righted c.args.tree.now c.requires.gaining.was c.args.tables.now.items c.loop-done.tables.items
          c.args.guard
          c.args.at c.args.up c.loop-done.done c.args.tuple.now c.requires.gaining.began c.requires.gaining.gains
          c.requires.under c.loop-done.invariant.grown
          (drop_group (key_at c.args.tables.now.items c.args.guard) (entries_at c.args.tables.now.items c.args.guard)
          c.args.tuple.now c.loop-done.done (omega (
            arith,
            c.len-count.ensures,
            length_read (guard_read c.args.tree.now c.args.tables.now.items c.args.at c.args.up c.args.guard
                c.index-table.result.now
                (now_family c.args.tree.now c.requires.gaining.was c.args.tables.now.items c.args.at
                c.requires.gaining.began)
                c.requires.under c.index-table.ensures),
          ))));
      refused = search rules;
      plain = c.loop-done.invariant.unchanged;
      counted = omega (arith, c.loop-done.invariant.counted);
      bounded = search rules;
      flat = search rules;
    }

pub insert_tuple-returns-in_err-place-clause-flat : goal.insert_tuple-returns-in_err-place-clause-flat
insert_tuple-returns-in_err-place-clause-flat g t c =
    on_err c.from_residual.result
    (HasEqualMeets c.args.tree.now
    → c.insert_at.new.tally ≤ c.args.tally.now + 5 * (length c.args.tree.now.nodes - c.args.at))
    (λ meets. let within = c.requires.ready.within in omega (arith, c.insert_at.ensures.counted))

pub insert_tuple-returns-in-Err-clause-flat : goal.insert_tuple-returns-in-Err-clause-flat
insert_tuple-returns-in-Err-clause-flat g t c =
    λ meets. omega (arith, c.insert_at.ensures.counted, c.in-Err.ensures.flat meets, c.remove_at.ensures.counted)
