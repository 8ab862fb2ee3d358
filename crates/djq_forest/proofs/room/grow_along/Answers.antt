-- Both sides of the edge get their places, one after the other.
use Rattle.djq_forest.proofs.Rooms.{roomier_edge_on}
use Rattle.djq_forest.proofs.room.grow_along.Goals as goal

pub returns-clause-roomier : goal.returns-clause-roomier
returns-clause-roomier c = roomier_edge_on c.args.edge.now c.grow_big.new.edge c.grow_small.new.edge
    c.grow_big.ensures.roomier c.grow_small.ensures.roomier
