use Rattle.std.proofs.Common.{◌≡◌, ◌++◌, drop}
use Rattle.djq_query.specs.Pattern.{bound}
use Rattle.djq_query.proofs.bind.slots_of.Given as goal

abbrev pub invariant-terms : goal.invariant-terms
invariant-terms l = l.slots.items ++ bound l.members (drop l.i l.terms) (drop l.i l.cells) ≡ bound l.members l.terms l.cells
