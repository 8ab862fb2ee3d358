use Rattle.std.proofs.Common.{◌≡◌, ◌+◌, ◌*◌, ◌≤◌, length}
use Rattle.djq_index.specs.Entries.{marks}
use Rattle.djq_tree.specs.Flat.{HasEqualMeets}
use Rattle.djq_reduct.specs.Tables.{entries_at}
use Rattle.djq_propagate.specs.Updates.{steps}
use Rattle.djq_propagate.specs.Sizes.{size}
use Rattle.djq_propagate.proofs.Updates.{IsTaking}
use Rattle.djq_propagate.proofs.path.take_marked.Given as goal

abbrev pub invariant-loop-done : goal.invariant-loop-done
invariant-loop-done g l = record {
  taking : IsTaking l.tree l.fn.tables.items l.tables.items l.leaf;
  few : length (entries_at l.tables.items l.leaf) + l._done ≡ length (entries_at l.fn.tables.items l.leaf);
  gone : length (marks (entries_at l.tables.items l.leaf)) + l._done
      ≤ length (marks (entries_at l.fn.tables.items l.leaf));
  flat : HasEqualMeets l.tree → size l.fn.tables.items ≤ size l.tables.items
      + l._done * (1 + steps l.tree.nodes l.leaf (length l.tree.nodes));
  counted : l.tally + 5 * size l.tables.items ≤ l.fn.tally + 5 * size l.fn.tables.items;
}
