use Rattle.std.proofs.Common.{◌≡◌, take, false}
use Rattle.djq_protocol.specs.QueryFault.{any_place, is_miscompared}
use Rattle.djq_query.proofs.compared.miscompares.Given as goal

abbrev pub invariant-loop-atom : goal.invariant-loop-atom
invariant-loop-atom g l = any_place (is_miscompared l.comparison) (g.R.Relations.relations l.relations)
    (take l.atom-index l.atoms) ≡ false
