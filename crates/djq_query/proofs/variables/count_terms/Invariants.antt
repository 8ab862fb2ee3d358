use Rattle.std.proofs.Common.{◌≡◌, ◌≤◌, take, length}
use Rattle.djq_protocol.specs.declared.limits.TheConstants.{VARIABLES}
use Rattle.djq_protocol.specs.Variables.{with_terms, variables_of}
use Rattle.djq_query.proofs.variables.count_terms.Given as goal

abbrev pub invariant-terms : goal.invariant-terms
invariant-terms l = record {
  few : l.count ≤ VARIABLES;
  counted : l.count ≡ length (with_terms (variables_of l.before) (take l.i l.terms));
}
