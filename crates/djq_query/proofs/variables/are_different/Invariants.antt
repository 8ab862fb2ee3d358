use Rattle.std.proofs.Common.{◌≡◌, drop}
use Rattle.djq_value.specs.Literal.{are_different}
use Rattle.djq_query.proofs.variables.are_different.Given as goal

abbrev pub invariant-names : goal.invariant-names
invariant-names l = are_different l.names ≡ are_different (drop l.i l.names)
