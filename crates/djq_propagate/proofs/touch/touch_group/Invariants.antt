use Rattle.std.proofs.Common.{◌≡◌, ◌+◌, ◌*◌, ◌≤◌, length, take, drop}
use Rattle.djq_index.specs.Entries.{count_of, group_of, head_at}
use Rattle.djq_reduct.specs.Tables.{entries_at, key_at}
use Rattle.djq_propagate.specs.Touches.{IsTouched}
use Rattle.djq_propagate.proofs.touch.touch_group.Given as goal

abbrev pub invariant-loop-done : goal.invariant-loop-done
invariant-loop-done g l = record {
  next : l.next ≡ head_at
      (drop l.done (group_of (key_at l.fn.tables.items l.guard) (entries_at l.fn.tables.items l.guard) l.cells));
  touched : IsTouched l.tree l.fn.tables.items l.tables.items l.up
      (λ v. count_of (take l.done (group_of (key_at l.fn.tables.items l.guard) (entries_at l.fn.tables.items l.guard)
      l.cells))
      v);
  bound : l.done ≤ length (group_of (key_at l.fn.tables.items l.guard) (entries_at l.fn.tables.items l.guard) l.cells);
  counted : l.tally ≤ l.fn.tally + 1 + 3 * l.done;
}
