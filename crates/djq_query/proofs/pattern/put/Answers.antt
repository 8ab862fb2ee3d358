-- Which slot stands at the column tells what is written: a cell at a place, and nothing for a constant.
use Rattle.std.proofs.Common.{◌∙◌}
use Rattle.djq_query.proofs.Atoms.{put_at, put_fixed}
use Rattle.djq_query.proofs.pattern.put.Goals as goal

pub returns-in-Place : goal.returns-in-Place
returns-in-Place c = c.set.ensures ∙ put_at c.args.tuple.now c.args.slot c.in-Place.place c.args.cell c.in-Place.is

pub returns-in-Cell : goal.returns-in-Cell
returns-in-Cell c = put_fixed c.args.tuple.now c.args.slot c.in-Cell.field-0 c.args.cell c.in-Cell.is
