use Rattle.std.proofs.Common.{◌≡◌, drop}
use Rattle.djq_protocol.specs.QueryFault.{any_column}
use Rattle.djq_query.specs.Clashes.{clashes_with}
use Rattle.djq_query.proofs.places.any_clash.Given as goal

abbrev pub invariant-places : goal.invariant-places
invariant-places l = any_column (clashes_with l.name l.of) l.terms l.columns
    ≡ any_column (clashes_with l.name l.of) (drop l.i l.terms) (drop l.i l.columns)
