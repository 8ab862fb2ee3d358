use Rattle.std.proofs.Common.{◌≡◌, take, false}
use Rattle.std.specs.List.{list_any}
use Rattle.djq_protocol.specs.QueryFault.{any_place, is_miscompared}
use Rattle.djq_query.proofs.compared.has_miscompared.Given as goal

abbrev pub invariant-loop-comparison : goal.invariant-loop-comparison
invariant-loop-comparison g l = list_any
    (λ c. any_place (is_miscompared c) (g.R.Relations.relations l.relations) l.atoms)
    (take l.comparison-index l.comparisons) ≡ false
