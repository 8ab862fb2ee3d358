use Rattle.std.proofs.Common.{◌≡◌, ℕ, ◌+◌, ◌*◌, ◌≤◌, length}
use Rattle.djq_reduct.specs.Tables.{entries_at}
use Rattle.djq_reduct.specs.Marks.{path_at}
use Rattle.djq_propagate.specs.Touches.{HaveMarksUpTo}
use Rattle.djq_propagate.specs.Updates.{HasCleared, steps}
use Rattle.djq_propagate.proofs.path.clear_path.Given as goal

abbrev pub invariant-loop-up : goal.invariant-loop-up
invariant-loop-up g l = record {
  at : l.at ≡ path_at l.tree.nodes l.leaf l.up;
  cleared : HasCleared l.tree l.fn.tables.items l.tables.items l.leaf l.up;
  counted : (n : ℕ) → ((i : ℕ) → length (entries_at l.fn.tables.items i) ≤ n)
      → l.tally ≤ l.fn.tally + (1 + steps l.tree.nodes l.leaf l.up) * (1 + n);
  few : (n : ℕ) → HaveMarksUpTo n l.fn.tables.items → HaveMarksUpTo n l.tables.items;
  flat : (n : ℕ) → HaveMarksUpTo n l.fn.tables.items
      → l.tally ≤ l.fn.tally + (1 + steps l.tree.nodes l.leaf l.up) * (1 + n);
}
