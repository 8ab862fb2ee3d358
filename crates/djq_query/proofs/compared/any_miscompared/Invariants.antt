use Rattle.std.proofs.Common.{◌≡◌, drop}
use Rattle.djq_protocol.specs.QueryFault.{any_column, is_miscompared}
use Rattle.djq_query.proofs.compared.any_miscompared.Given as goal

abbrev pub invariant-places : goal.invariant-places
invariant-places l = any_column (is_miscompared l.comparison) l.terms l.columns
    ≡ any_column (is_miscompared l.comparison) (drop l.i l.terms) (drop l.i l.columns)
