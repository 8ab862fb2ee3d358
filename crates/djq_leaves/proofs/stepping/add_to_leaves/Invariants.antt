use Rattle.std.proofs.Common.{◌≡◌, true, length}
use Rattle.djq_enumeration.specs.Changed.{IsGained}
use Rattle.djq_leaves.specs.Changes.{GainsTuple}
use Rattle.djq_leaves.specs.Stepping.{HasMore, ChangesBelow, ListsWhere, GrowsByOne, CountsLeaves, atoms_below}
use Rattle.djq_leaves.proofs.stepping.add_to_leaves.Given as goal

abbrev pub invariant-leaves : goal.invariant-leaves
invariant-leaves g l = record {
  changed : ChangesBelow (λ p old new. GainsTuple p l.cells old new) l.relation l.atoms l.patterns l.leaf
      l.fn.reducts l.reducts;
  more : HasMore l.fn.reducts l.reducts;
  listed : ListsWhere l.wanted true (IsGained l.reducts l.fn.reducts) (length
      l.fn.reducts.tree.head)
      (atoms_below l.relation l.atoms l.leaf) l.fn.log l.log l.fn.steps.listing l.steps.listing;
  grows : GrowsByOne l.fn.reducts l.reducts;
  updates : CountsLeaves l.fn.reducts (atoms_below l.relation l.atoms l.leaf) l.fn.steps.update
      l.steps.update;
  rows : l.steps.rows ≡ l.fn.steps.rows;
}
