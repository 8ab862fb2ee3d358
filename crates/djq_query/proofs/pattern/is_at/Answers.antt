-- The slot is a place, which gives the tuple's cell there, and this place has the column's number.
use Rattle.djq_query.proofs.Atoms.{placed_at}
use Rattle.djq_query.proofs.pattern.is_at.Goals as goal

pub returns-in-Place : goal.returns-in-Place
returns-in-Place c u same = placed_at u c.args.slot c.in-Place.place c.args.column c.in-Place.is same
