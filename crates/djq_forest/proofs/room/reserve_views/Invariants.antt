use Rattle.djq_forest.specs.Room.{AreRoomierKnots, AreRoomierEdges, HaveRoomAsViews}
use Rattle.djq_forest.specs.Shape.{AreAlong}
use Rattle.djq_forest.proofs.room.reserve_views.Given as goal

abbrev pub invariant-loop-at : goal.invariant-loop-at
invariant-loop-at l = record {
  knots : AreRoomierKnots l.fn.knots.items l.knots.items;
  edges : AreRoomierEdges l.fn.edges.items l.edges.items;
  along : AreAlong l.knots.items l.edges.items;
  room : HaveRoomAsViews l.knots.items l.at;
}
