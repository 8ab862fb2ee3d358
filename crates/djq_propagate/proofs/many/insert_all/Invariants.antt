use Rattle.std.proofs.Common.{ℕ, ◌+◌, ◌*◌, ◌≤◌, length, take}
use Rattle.djq_tree.specs.Flat.{HasEqualMeets}
use Rattle.djq_reduct.specs.Tables.{entries_at}
use Rattle.djq_propagate.specs.Batches.{HaveCome}
use Rattle.djq_propagate.specs.Sizes.{size}
use Rattle.djq_propagate.specs.Walks.{CameAs}
use Rattle.djq_propagate.proofs.many.insert_all.Given as goal

abbrev pub invariant-loop-i : goal.invariant-loop-i
invariant-loop-i g l = record {
  come : HaveCome l.tree l.fn.tables.items l.tables.items l.leaf (take l.i l.tuples);
  unchanged : CameAs l.marked l.fn.tables.items l.tables.items;
  grows : HasEqualMeets l.tree → (j : ℕ) → length (entries_at l.tables.items j)
      ≤ length (entries_at l.fn.tables.items j) + l.i;
  counted : l.tally + 4 * size l.fn.tables.items ≤ l.fn.tally + 4 * size l.tables.items;
}
