use Rattle.std.proofs.Common.{◌≡◌, ◌+◌, ◌≤◌, take, drop}
use Rattle.djq_index.specs.Entries.{marks, head_at}
use Rattle.djq_tree.specs.Tree.{node_at}
use Rattle.djq_reduct.specs.Tables.{entries_at}
use Rattle.djq_propagate.specs.Touches.{IsTouched, reach, cost}
use Rattle.djq_propagate.proofs.touch.touch_step.Given as goal

abbrev pub invariant-loop-done : goal.invariant-loop-done
invariant-loop-done g l = record {
  next : l.next ≡ head_at (drop l.done (marks (entries_at l.fn.tables.items l.at)));
  touched : IsTouched l.tree l.fn.tables.items l.tables.items l.up
      (λ v. reach (node_at l.tree.nodes l.up) l.going l.at l.fn.tables.items
      (take l.done (marks (entries_at l.fn.tables.items l.at))) v);
  counted : l.tally ≤ l.fn.tally + 1 + cost (node_at l.tree.nodes l.up) l.at l.fn.tables.items
      (take l.done (marks (entries_at l.fn.tables.items l.at)));
}
