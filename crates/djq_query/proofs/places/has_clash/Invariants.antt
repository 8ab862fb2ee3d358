use Rattle.std.proofs.Common.{◌≡◌, take, false}
use Rattle.djq_protocol.specs.QueryFault.{any_place}
use Rattle.djq_query.specs.Clashes.{mixes}
use Rattle.djq_query.proofs.places.has_clash.Given as goal

abbrev pub invariant-loop-atom : goal.invariant-loop-atom
invariant-loop-atom g l = let relations = g.R.Relations.relations l.relations in any_place (mixes relations l.atoms)
    relations (take l.atom-index l.atoms) ≡ false
