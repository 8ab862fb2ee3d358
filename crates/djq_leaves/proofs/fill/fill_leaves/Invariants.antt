use Rattle.djq_leaves.specs.Building.{AreFilled}
use Rattle.djq_leaves.proofs.fill.fill_leaves.Given as goal

abbrev pub invariant-atoms : goal.invariant-atoms
invariant-atoms g l = AreFilled l.catalog l.atoms l.patterns l.j l.fn.reducts l.reducts
