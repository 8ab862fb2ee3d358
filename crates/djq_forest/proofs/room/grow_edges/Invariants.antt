use Rattle.djq_forest.specs.Room.{AreRoomierEdges, HavePlacesFor}
use Rattle.djq_forest.proofs.room.grow_edges.Given as goal

abbrev pub invariant-loop-at : goal.invariant-loop-at
invariant-loop-at l = record {
  roomier : AreRoomierEdges l.fn.edges.items l.edges.items;
  places : HavePlacesFor l.knot l.count l.edges.items l.at;
}
