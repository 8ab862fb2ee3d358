use Rattle.std.proofs.Common.{◌≡◌}
use Rattle.djq_leaves.specs.Batching.{batch_tuples, LosesTuples, CountsGiven}
use Rattle.djq_leaves.specs.Stepping.{HasMore, ChangesBelow, atoms_below}
use Rattle.djq_leaves.proofs.batch.give_all_from_leaves.Given as goal

abbrev pub invariant-leaves : goal.invariant-leaves
invariant-leaves g l = record {
  changed : ChangesBelow (λ us old new. LosesTuples us old new) l.relation l.atoms (batch_tuples l.rows l.batch) l.leaf
      l.fn.reducts l.reducts;
  more : HasMore l.reducts l.fn.reducts;
  listing : l.steps.listing ≡ l.fn.steps.listing;
  updates : CountsGiven l.fn.reducts (atoms_below l.relation l.atoms l.leaf) l.fn.steps.update
      l.steps.update;
  rows : l.steps.rows ≡ l.fn.steps.rows;
}
