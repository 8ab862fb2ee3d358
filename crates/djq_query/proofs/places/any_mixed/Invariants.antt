use Rattle.std.proofs.Common.{◌≡◌, drop}
use Rattle.djq_protocol.specs.QueryFault.{any_column}
use Rattle.djq_query.specs.Clashes.{mixes}
use Rattle.djq_query.proofs.places.any_mixed.Given as goal

abbrev pub invariant-places : goal.invariant-places
invariant-places g l = let p = mixes (g.R.Relations.relations l.relations) l.atoms in any_column p l.terms l.columns
    ≡ any_column p (drop l.i l.terms) (drop l.i l.columns)
