use Rattle.std.proofs.Common.{◌+◌, ◌*◌, ◌≤◌, length, take}
use Rattle.djq_index.specs.Entries.{marks}
use Rattle.djq_reduct.specs.Tables.{entries_at}
use Rattle.djq_leaves.specs.Batching.{HasMarkedRows}
use Rattle.djq_leaves.proofs.removing.mark_rows.Given as goal

abbrev pub invariant-rows : goal.invariant-rows
invariant-rows g l = record {
  marked : HasMarkedRows (take l.i l.rows) l.pattern l.leaf l.fn.reducts l.reducts;
  counted : l.update ≤ l.fn.update + 2 * length (marks (entries_at l.reducts.tables l.leaf));
}
