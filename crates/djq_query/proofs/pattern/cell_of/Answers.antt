-- Which slot stands at the column tells its cell: the tuple's at a place, or the constant's own.
use Rattle.djq_query.proofs.Atoms.{cell_at, cell_fixed}
use Rattle.djq_query.proofs.pattern.cell_of.Goals as goal

pub returns-in-Place : goal.returns-in-Place
returns-in-Place c = cell_at c.args.tuple.now c.args.slot c.in-Place.place c.in-Place.is

pub returns-in-Cell : goal.returns-in-Cell
returns-in-Cell c = cell_fixed c.args.tuple.now c.args.slot c.in-Cell.cell c.in-Cell.is
