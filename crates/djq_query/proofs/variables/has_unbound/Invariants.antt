use Rattle.std.proofs.Common.{◌≡◌, take, false}
use Rattle.std.specs.Prelude.{not}
use Rattle.std.specs.List.{list_any}
use Rattle.djq_protocol.specs.Variables.{stands_in}
use Rattle.djq_query.proofs.variables.has_unbound.Given as goal

abbrev pub invariant-loop-name : goal.invariant-loop-name
invariant-loop-name l = list_any (λ x. not (stands_in l.atoms x)) (take l.name-index l.head) ≡ false
