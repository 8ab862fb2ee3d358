use Rattle.std.proofs.Common.{◌≡◌, take, false}
use Rattle.djq_protocol.specs.QueryFault.{any_place}
use Rattle.djq_query.specs.Clashes.{clashes_with}
use Rattle.djq_query.proofs.places.clashes.Given as goal

abbrev pub invariant-loop-atom : goal.invariant-loop-atom
invariant-loop-atom g l = any_place (clashes_with l.name l.of) (g.R.Relations.relations l.relations)
    (take l.atom-index l.atoms) ≡ false
