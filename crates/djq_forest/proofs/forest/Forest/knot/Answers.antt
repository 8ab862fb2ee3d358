-- The knot that is read is the one with the number.
use Rattle.djq_forest.proofs.Rooms.{read_knot}
use Rattle.djq_forest.proofs.forest.Forest.knot.Goals as goal

pub returns : goal.returns
returns c = rw (← c.self.view_is)
    (read_knot c.self.inside.knots.items c.args.knot c.index.result.now (rw (← c.self.view_is) at c.requires)
    c.index.ensures)
