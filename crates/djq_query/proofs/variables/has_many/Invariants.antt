use Rattle.std.proofs.Common.{◌≡◌, ◌≤◌, take, length}
use Rattle.djq_protocol.specs.declared.limits.TheConstants.{VARIABLES}
use Rattle.djq_protocol.specs.Variables.{variables_of}
use Rattle.djq_query.proofs.variables.has_many.Given as goal

abbrev pub invariant-atoms : goal.invariant-atoms
invariant-atoms l = record {
  few : l.count ≤ VARIABLES;
  counted : l.count ≡ length (variables_of (take l.i l.atoms));
}
