use Rattle.std.proofs.Common.{◌≡◌, take, false}
use Rattle.std.specs.List.{list_any}
use Rattle.djq_protocol.specs.Variables.{is_variable}
use Rattle.djq_query.proofs.variables.stands_among.Given as goal

abbrev pub invariant-loop-term : goal.invariant-loop-term
invariant-loop-term l = list_any (is_variable l.name) (take l.term-index l.terms) ≡ false
