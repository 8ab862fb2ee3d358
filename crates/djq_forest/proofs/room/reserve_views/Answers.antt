-- The views before the index have room, and keep it while the next one gets its own.
use Rattle.djq_forest.proofs.Rooms.{roomier_knots_on, roomier_edges_on, rooms_more}
use Rattle.djq_forest.proofs.room.reserve_views.Goals as goal

pub returns-in_err-reserve_view-clause-knots : goal.returns-in_err-reserve_view-clause-knots
returns-in_err-reserve_view-clause-knots c = roomier_knots_on c.args.knots.now.items c.loop-at.knots.items
    c.reserve_view.new.knots.items c.loop-at.invariant.knots c.reserve_view.ensures.knots

pub returns-in_err-reserve_view-clause-edges : goal.returns-in_err-reserve_view-clause-edges
returns-in_err-reserve_view-clause-edges c = roomier_edges_on c.args.edges.now.items c.loop-at.edges.items
    c.reserve_view.new.edges.items c.loop-at.invariant.edges c.reserve_view.ensures.edges

pub loop-at-preserved : goal.loop-at-preserved
loop-at-preserved c = record {
  knots = roomier_knots_on c.args.knots.now.items c.loop-at.knots.items c.reserve_view.new.knots.items
      c.loop-at.invariant.knots c.reserve_view.ensures.knots;
  edges = roomier_edges_on c.args.edges.now.items c.loop-at.edges.items c.reserve_view.new.edges.items
      c.loop-at.invariant.edges c.reserve_view.ensures.edges;
  along = c.reserve_view.ensures.along;
  room = rooms_more c.loop-at.knots.items c.reserve_view.new.knots.items c.loop-at.at c.reserve_view.ensures.knots
      c.loop-at.invariant.room c.in_ok-reserve_view.ensures.room;
}
