-- No row: nothing goes. Else rows are marked while their tuples are still there, so what the marks list is what goes with
-- them, and then they are taken out.
use Rattle.std.proofs.Common.{◌<◌, Bool, false, length, subst, sym, ◌∙◌, arith}
use Rattle.std.proofs.lemmas.Bool.{eqb-true, eqb-false}
use Rattle.djq_tree.specs.Tree.{Tree}
use Rattle.djq_enumeration.specs.Changed.{IsGained}
use Rattle.djq_propagate.proofs.Removals.{marks_on_path}
use Rattle.djq_leaves.specs.Stepping.{ListsWhere}
use Rattle.djq_leaves.proofs.LeafUpdates.{lists_none, same_lists}
use Rattle.djq_leaves.proofs.Removals.{gone_none, marked_still, none_lost, rows_count, rows_lost, tables_both}
use Rattle.djq_leaves.proofs.removing.delete_all_from_leaf.Goals as goal

pub returns-then-is_empty-clause-lost : goal.returns-then-is_empty-clause-lost
returns-then-is_empty-clause-lost g c =
    none_lost c.args.rows.now c.args.pattern.now c.args.leaf c.args.reducts.now
    (eqb-true (length c.args.rows.now) 0 (sym c.is_empty.ensures ∙ c.if-is_empty.true)) c.laws.ensures.sound
    c.requires.bare

pub returns-then-is_empty-clause-listed : goal.returns-then-is_empty-clause-listed
returns-then-is_empty-clause-listed g c =
    lists_none c.args.wanted false c.args.reducts.now (length c.args.reducts.now.tree.head) 1
    c.args.log.now c.args.steps.now.listing

pub returns-then-is_empty-clause-updates : goal.returns-then-is_empty-clause-updates
returns-then-is_empty-clause-updates g c =
    gone_none (length c.args.rows.now) c.args.reducts.now 1 c.args.steps.now.update

pub mark_above-requires-clause-leaf : goal.mark_above-requires-clause-leaf
mark_above-requires-clause-leaf g c =
    subst (λ (t : Tree). c.args.leaf < t.leaves) (sym c.mark_rows.ensures.marked.tree) c.requires.leaf

pub mark_above-requires-clause-only : goal.mark_above-requires-clause-only
mark_above-requires-clause-only g c = c.mark_rows.ensures.marked.only

pub list_changes-requires-clause-leaf : goal.list_changes-requires-clause-leaf
list_changes-requires-clause-leaf g c =
    subst (λ (t : Tree). c.args.leaf < t.leaves) (sym (c.mark_above.ensures.marked.tree ∙ c.mark_rows.ensures.marked.tree))
    c.requires.leaf

pub list_changes-requires-clause-marks : goal.list_changes-requires-clause-marks
list_changes-requires-clause-marks g c = c.mark_above.ensures.marked.are_marks

pub finish_removal-requires-clause-leaf : goal.finish_removal-requires-clause-leaf
finish_removal-requires-clause-leaf g c =
    subst (λ (t : Tree). c.args.leaf < t.leaves) (sym (c.mark_above.ensures.marked.tree ∙ c.mark_rows.ensures.marked.tree))
    c.requires.leaf

pub finish_removal-requires-clause-path : goal.finish_removal-requires-clause-path
finish_removal-requires-clause-path g c = c.mark_above.ensures.marked.are_marks.path

pub returns-then-wanted-clause-lost : goal.returns-then-wanted-clause-lost
returns-then-wanted-clause-lost g c =
    let m = c.mark_rows.ensures.marked in
    let a = c.mark_above.ensures.marked in
    rows_lost c.args.rows.now c.args.pattern.now c.args.leaf c.args.reducts.now c.mark_above.new.reducts
    c.finish_removal.new.reducts a.sound (a.tree ∙ m.tree)
    (tables_both c.args.reducts.now c.mark_rows.new.reducts c.mark_above.new.reducts m.tables a.tables)
    (marked_still c.args.rows.now c.args.pattern.now c.args.leaf c.args.reducts.now c.mark_rows.new.reducts
    c.mark_above.new.reducts m a) c.finish_removal.ensures.dropped

pub returns-then-wanted-clause-listed : goal.returns-then-wanted-clause-listed
returns-then-wanted-clause-listed g c =
    let m = c.mark_rows.ensures.marked in
    let a = c.mark_above.ensures.marked in
    subst (λ (b : Bool). ListsWhere b false (IsGained c.args.reducts.now c.finish_removal.new.reducts)
    (length c.args.reducts.now.tree.head) 1 c.args.log.now c.list_changes.new.log
    c.args.steps.now.listing c.list_changes.new.listing) (sym c.if-wanted.true)
    (same_lists false c.args.reducts.now c.mark_above.new.reducts c.finish_removal.new.reducts
    c.args.log.now c.list_changes.new.log c.args.steps.now.listing c.list_changes.new.listing c.laws.ensures.sound
    a.sound (a.tree ∙ m.tree)
    (tables_both c.args.reducts.now c.mark_rows.new.reducts c.mark_above.new.reducts m.tables a.tables)
    (c.list_changes.ensures c.finish_removal.new.reducts
    c.finish_removal.ensures.dropped.sound c.finish_removal.ensures.dropped.without))

pub returns-then-wanted-clause-updates : goal.returns-then-wanted-clause-updates
returns-then-wanted-clause-updates g c =
    let m = c.mark_rows.ensures.marked in
    let a = c.mark_above.ensures.marked in
    let some = eqb-false (length c.args.rows.now) 0 (sym c.is_empty.ensures ∙ c.if-is_empty.false) in
    rows_count c.args.rows.now c.args.pattern.now c.args.leaf c.args.reducts.now c.mark_rows.new.reducts
    c.mark_above.new.reducts c.args.steps.now.update c.mark_rows.new.update c.mark_above.new.tally
    c.finish_removal.new.tally c.laws.ensures.sound c.requires.leaf (omega arith) m m.tree
    (a.tree ∙ m.tree)
    (tables_both c.args.reducts.now c.mark_rows.new.reducts c.mark_above.new.reducts m.tables a.tables)
    c.mark_rows.ensures.counted c.mark_above.ensures.counted c.mark_above.ensures.flat c.mark_above.ensures.few
    c.finish_removal.ensures.counted c.finish_removal.ensures.flat

pub finish_removal-requires-2-clause-leaf : goal.finish_removal-requires-2-clause-leaf
finish_removal-requires-2-clause-leaf g c =
    subst (λ (t : Tree). c.args.leaf < t.leaves) (sym c.mark_rows.ensures.marked.tree) c.requires.leaf

pub finish_removal-requires-2-clause-path : goal.finish_removal-requires-2-clause-path
finish_removal-requires-2-clause-path g c =
    marks_on_path c.mark_rows.new.reducts c.args.leaf c.mark_rows.ensures.marked.only

pub returns-clause-lost : goal.returns-clause-lost
returns-clause-lost g c =
    let m = c.mark_rows.ensures.marked in
    rows_lost c.args.rows.now c.args.pattern.now c.args.leaf c.args.reducts.now c.mark_rows.new.reducts
    c.finish_removal-2.new.reducts m.sound m.tree m.tables m.marked c.finish_removal-2.ensures.dropped

pub returns-clause-updates : goal.returns-clause-updates
returns-clause-updates g c =
    let m = c.mark_rows.ensures.marked in
    let some = eqb-false (length c.args.rows.now) 0 (sym c.is_empty.ensures ∙ c.if-is_empty.false) in
    rows_count c.args.rows.now c.args.pattern.now c.args.leaf c.args.reducts.now c.mark_rows.new.reducts
    c.mark_rows.new.reducts c.args.steps.now.update c.mark_rows.new.update c.mark_rows.new.update
    c.finish_removal-2.new.tally c.laws.ensures.sound c.requires.leaf (omega arith) m m.tree m.tree m.tables
    c.mark_rows.ensures.counted (λ n most. omega arith) (λ n meets few. omega arith) (λ n meets few. few)
    c.finish_removal-2.ensures.counted c.finish_removal-2.ensures.flat
