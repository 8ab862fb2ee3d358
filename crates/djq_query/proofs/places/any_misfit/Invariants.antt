use Rattle.std.proofs.Common.{◌≡◌, drop}
use Rattle.djq_protocol.specs.QueryFault.{any_column, is_misfit}
use Rattle.djq_query.proofs.places.any_misfit.Given as goal

abbrev pub invariant-places : goal.invariant-places
invariant-places l = any_column is_misfit l.terms l.columns
    ≡ any_column is_misfit (drop l.i l.terms) (drop l.i l.columns)
