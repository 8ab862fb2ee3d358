-- The index is past the terms or past the columns, so no place is left where the comparison doesn't suit.
use Rattle.std.proofs.Common.{sym, arith}
use Rattle.djq_protocol.specs.QueryFault.{is_miscompared}
use Rattle.djq_query.proofs.Atoms.{any_over}
use Rattle.djq_query.proofs.compared.any_miscompared.Goals as goal

pub returns : goal.returns
returns c = let over = c.min-i-end.ensures in let end = c.places-test.false in sym
    (any_over (is_miscompared c.args.comparison.now) c.args.terms.now c.args.columns.now c.places.i
    (omega (arith, c.min-i-end.ensures)) c.places.invariant)
