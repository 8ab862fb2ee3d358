-- The index is past the terms or past the columns, so no place is left with a variable of two types.
use Rattle.std.proofs.Common.{sym, arith}
use Rattle.djq_query.specs.Clashes.{mixes}
use Rattle.djq_query.proofs.Atoms.{any_over}
use Rattle.djq_query.proofs.places.any_mixed.Goals as goal

pub returns : goal.returns
returns g c = let over = c.min-i-end.ensures in let end = c.places-test.false in sym
    (any_over (mixes (g.R.Relations.relations c.args.relations.now) c.args.atoms.now) c.args.terms.now
    c.args.columns.now c.places.i (omega (arith, c.min-i-end.ensures)) c.places.invariant)
