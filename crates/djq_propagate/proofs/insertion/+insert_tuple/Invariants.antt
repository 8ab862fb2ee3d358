use Rattle.std.proofs.Common.{◌≡◌, ◌+◌, ◌-◌, ◌*◌, ◌≤◌, length, take, drop}
use Rattle.djq_index.specs.Entries.{group_of, head_at}
use Rattle.djq_reduct.specs.Tables.{entries_at, key_at}
use Rattle.djq_propagate.specs.Sizes.{size}
use Rattle.djq_propagate.specs.Walks.{IsGrown, CameAs}
use Rattle.djq_propagate.proofs.insertion.+insert_tuple.Given as goal

abbrev pub decreases-insert_tuple : goal.decreases-insert_tuple
decreases-insert_tuple g l = 5 * (length l.tree.now.nodes - l.at) + 4

abbrev pub decreases-insert_above : goal.decreases-insert_above
decreases-insert_above g l = 5 * (length l.tree.now.nodes - l.at) + 3

abbrev pub decreases-insert_above_guard : goal.decreases-insert_above_guard
decreases-insert_above_guard g l = 5 * (length l.tree.now.nodes - l.at)

abbrev pub decreases-insert_above_side : goal.decreases-insert_above_side
decreases-insert_above_side g l = 5 * (length l.tree.now.nodes - l.at)

abbrev pub decreases-insert_above_trim : goal.decreases-insert_above_trim
decreases-insert_above_trim g l = 5 * (length l.tree.now.nodes - l.at) + 2

abbrev pub decreases-insert_above_wide : goal.decreases-insert_above_wide
decreases-insert_above_wide g l = 5 * (length l.tree.now.nodes - l.at) + 1

abbrev pub decreases-insert_above_part : goal.decreases-insert_above_part
decreases-insert_above_part g l = 5 * (length l.tree.now.nodes - l.at)

abbrev pub invariant-insert_above_side-loop-done : goal.invariant-insert_above_side-loop-done
invariant-insert_above_side-loop-done g l = record {
  next : l.next ≡ head_at
      (drop l.done (group_of (key_at l.fn.tables.items l.guard) (entries_at l.fn.tables.items l.guard) l.tuple));
  grown : IsGrown l.tree l.fn.tables.items l.tables.items l.up
      (take l.done (group_of (key_at l.fn.tables.items l.guard) (entries_at l.fn.tables.items l.guard) l.tuple));
  unchanged : CameAs l.marked l.fn.tables.items l.tables.items;
  counted : l.tally + 4 * size l.fn.tables.items ≤ l.fn.tally + 1 + 4 * size l.tables.items;
}
