use Rattle.std.proofs.Common.{◌≡◌, take, false}
use Rattle.std.specs.Prelude.{not}
use Rattle.std.specs.List.{list_any}
use Rattle.djq_protocol.specs.Variables.{stands_in}
use Rattle.djq_query.proofs.compared.compares_unbound.Given as goal

abbrev pub invariant-loop-comparison : goal.invariant-loop-comparison
invariant-loop-comparison l = list_any (λ c. not (stands_in l.atoms c.variable)) (take l.comparison-index l.comparisons)
    ≡ false
