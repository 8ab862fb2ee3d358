use Rattle.std.proofs.Common.{◌≡◌, take, false}
use Rattle.djq_value.specs.Literal.{has_name}
use Rattle.djq_query.proofs.variables.has_name.Given as goal

abbrev pub invariant-loop-other : goal.invariant-loop-other
invariant-loop-other l = has_name (take l.other-index l.names) l.name ≡ false
