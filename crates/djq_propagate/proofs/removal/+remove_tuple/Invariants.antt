use Rattle.std.proofs.Common.{◌≡◌, ◌+◌, ◌-◌, ◌*◌, ◌≤◌, length, take, drop}
use Rattle.djq_index.specs.Entries.{group_of, head_at}
use Rattle.djq_reduct.specs.Tables.{entries_at, key_at}
use Rattle.djq_propagate.specs.Sizes.{size}
use Rattle.djq_propagate.specs.Walks.{IsEmptied, Fewer}
use Rattle.djq_propagate.proofs.removal.+remove_tuple.Given as goal

abbrev pub decreases-remove_group_from_meet : goal.decreases-remove_group_from_meet
decreases-remove_group_from_meet g l = 7 * (length l.tree.now.nodes - l.up) + 6

abbrev pub decreases-remove_above : goal.decreases-remove_above
decreases-remove_above g l = 7 * (length l.tree.now.nodes - l.at) + 3

abbrev pub decreases-remove_above_guard : goal.decreases-remove_above_guard
decreases-remove_above_guard g l = 7 * (length l.tree.now.nodes - l.at)

abbrev pub decreases-remove_above_side : goal.decreases-remove_above_side
decreases-remove_above_side g l = 7 * (length l.tree.now.nodes - l.at)

abbrev pub decreases-remove_above_trim : goal.decreases-remove_above_trim
decreases-remove_above_trim g l = 7 * (length l.tree.now.nodes - l.at) + 2

abbrev pub decreases-remove_above_wide : goal.decreases-remove_above_wide
decreases-remove_above_wide g l = 7 * (length l.tree.now.nodes - l.at) + 1

abbrev pub decreases-remove_above_part : goal.decreases-remove_above_part
decreases-remove_above_part g l = 7 * (length l.tree.now.nodes - l.at)

abbrev pub decreases-remove_tuple : goal.decreases-remove_tuple
decreases-remove_tuple g l = 7 * (length l.tree.now.nodes - l.at) + 4

abbrev pub decreases-find_and_remove : goal.decreases-find_and_remove
decreases-find_and_remove g l = 7 * (length l.tree.now.nodes - l.at) + 5

abbrev pub invariant-remove_group_from_meet-loop-done : goal.invariant-remove_group_from_meet-loop-done
invariant-remove_group_from_meet-loop-done g l = record {
  next : l.next ≡ head_at
      (drop l._done (group_of (key_at l.fn.tables.items l.guard) (entries_at l.fn.tables.items l.guard) l.cells));
  emptied : IsEmptied l.tree l.fn.tables.items l.tables.items l.up
      (take l._done (group_of (key_at l.fn.tables.items l.guard) (entries_at l.fn.tables.items l.guard) l.cells));
  lesser : Fewer l.fn.tables.items l.tables.items;
  counted : l.tally + 5 * size l.tables.items ≤ l.fn.tally + 1 + 5 * size l.fn.tables.items;
}
