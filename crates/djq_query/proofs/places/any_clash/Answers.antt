-- The index is past the terms or past the columns, so no place is left where the variable clashes.
use Rattle.std.proofs.Common.{sym, arith}
use Rattle.djq_query.specs.Clashes.{clashes_with}
use Rattle.djq_query.proofs.Atoms.{any_over}
use Rattle.djq_query.proofs.places.any_clash.Goals as goal

pub returns : goal.returns
returns c = let over = c.min-i-end.ensures in let end = c.places-test.false in sym
    (any_over (clashes_with c.args.name.now c.args.of) c.args.terms.now c.args.columns.now c.places.i
    (omega (arith, c.min-i-end.ensures)) c.places.invariant)
