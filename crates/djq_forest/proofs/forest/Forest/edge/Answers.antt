-- The edge that is read is the one with the number.
use Rattle.djq_forest.proofs.Rooms.{read_edge}
use Rattle.djq_forest.proofs.forest.Forest.edge.Goals as goal

pub returns : goal.returns
returns c = rw (← c.self.view_is)
    (read_edge c.self.inside.edges.items c.args.edge c.index.result.now (rw (← c.self.view_is) at c.requires)
    c.index.ensures)
