use Rattle.std.proofs.Common.{◌≡◌, false, length}
use Rattle.djq_enumeration.specs.Changed.{IsGained}
use Rattle.djq_leaves.specs.Changes.{LosesAll}
use Rattle.djq_leaves.specs.Stepping.{HasMore, ChangesBelow, ListsWhere, atoms_below}
use Rattle.djq_leaves.specs.Batching.{CountsGone}
use Rattle.djq_leaves.proofs.removing.delete_all_from_leaves.Given as goal

abbrev pub invariant-leaves : goal.invariant-leaves
invariant-leaves g l = record {
  changed : ChangesBelow (λ p old new. LosesAll p l.rows old new) l.relation l.atoms l.patterns l.leaf
      l.fn.reducts l.reducts;
  more : HasMore l.reducts l.fn.reducts;
  listed : ListsWhere l.wanted false (IsGained l.fn.reducts l.reducts) (length l.fn.reducts.tree.head)
      (atoms_below l.relation l.atoms l.leaf) l.fn.log l.log l.fn.steps.listing l.steps.listing;
  updates : CountsGone (length l.rows) l.fn.reducts (atoms_below l.relation l.atoms l.leaf) l.fn.steps.update
      l.steps.update;
  rows : l.steps.rows ≡ l.fn.steps.rows;
}
