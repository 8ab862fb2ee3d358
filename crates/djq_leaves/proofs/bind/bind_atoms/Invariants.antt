use Rattle.std.proofs.Common.{◌≡◌, length}
use Rattle.djq_leaves.specs.Building.{ArePatternsOf}
use Rattle.djq_leaves.proofs.bind.bind_atoms.Given as goal

abbrev pub invariant-atoms : goal.invariant-atoms
invariant-atoms l = record {
  long : length l.patterns.items ≡ l.j;
  are : ArePatternsOf l.catalog.texts l.tree.labels l.comparisons l.atoms l.patterns.items;
}
