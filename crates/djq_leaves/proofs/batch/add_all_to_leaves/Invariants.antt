use Rattle.std.proofs.Common.{◌≡◌, ℕ, true, length}
use Rattle.djq_enumeration.specs.Changed.{IsGained}
use Rattle.djq_leaves.specs.Stepping.{HasMore, ChangesBelow, ListsWhere, atoms_below}
use Rattle.djq_leaves.specs.Batching.{batch_tuples, GainsTuples, HasFew, GrowsBy, CountsMany}
use Rattle.djq_leaves.specs.Batching.{CountsFlatMany}
use Rattle.djq_leaves.proofs.batch.add_all_to_leaves.Given as goal

abbrev pub invariant-leaves : goal.invariant-leaves
invariant-leaves g l = record {
  changed : ChangesBelow (λ us old new. GainsTuples us old new) l.relation l.atoms (batch_tuples l.rows l.batch) l.leaf
      l.fn.reducts l.reducts;
  more : HasMore l.fn.reducts l.reducts;
  listed : ListsWhere l.wanted true (IsGained l.reducts l.fn.reducts) (length
      l.fn.reducts.tree.head)
      (atoms_below l.relation l.atoms l.leaf) l.fn.log l.log l.fn.steps.listing l.steps.listing;
  grows : (more : ℕ) → HasFew more (batch_tuples l.rows l.batch) → GrowsBy more l.fn.reducts l.reducts;
  updates : (more : ℕ) → HasFew more (batch_tuples l.rows l.batch) → CountsMany more l.fn.reducts
      (atoms_below l.relation l.atoms l.leaf) l.fn.steps.update l.steps.update;
  flat : (more : ℕ) → HasFew more (batch_tuples l.rows l.batch)
      → CountsFlatMany more l.fn.reducts (atoms_below l.relation l.atoms l.leaf) l.fn.steps.update l.steps.update;
  rows : l.steps.rows ≡ l.fn.steps.rows;
}
