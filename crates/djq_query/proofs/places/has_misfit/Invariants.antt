use Rattle.std.proofs.Common.{◌≡◌, take, false}
use Rattle.djq_protocol.specs.QueryFault.{any_place, is_misfit}
use Rattle.djq_query.proofs.places.has_misfit.Given as goal

abbrev pub invariant-loop-atom : goal.invariant-loop-atom
invariant-loop-atom g l = any_place is_misfit (g.R.Relations.relations l.relations) (take l.atom-index l.atoms) ≡ false
