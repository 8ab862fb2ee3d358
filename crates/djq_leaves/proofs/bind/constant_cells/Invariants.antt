use Rattle.std.proofs.Common.{take}
use Rattle.djq_leaves.specs.Leaves.{AreCellsOfTerms}
use Rattle.djq_leaves.proofs.bind.constant_cells.Given as goal

abbrev pub invariant-terms : goal.invariant-terms
invariant-terms l = AreCellsOfTerms l.catalog.texts (take l.i l.terms) l.cells.items
