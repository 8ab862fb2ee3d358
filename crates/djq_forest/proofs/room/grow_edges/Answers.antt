-- The edges before the index have their places, and the next one gets its own.
use Rattle.std.proofs.Common.{◌<◌, arith, length}
use Rattle.djq_forest.proofs.Rooms.{edges_next, places_more}
use Rattle.djq_forest.proofs.room.grow_edges.Goals as goal

pub returns-in_err-grow_along-clause-roomier : goal.returns-in_err-grow_along-clause-roomier
returns-in_err-grow_along-clause-roomier c =
    let low : c.loop-at.at < length c.loop-at.edges.items = omega (
      arith,
      c.loop-at-test.true,
      c.len-at-end.ensures,
      c.loop-at.invariant.roomier.long,
      c.args.edges.now.ok.0,
    ) in
    edges_next c.args.edges.now.items c.loop-at.edges.items c.loop-at.at c.index_mut-edge.result.now c.grow_along.new.edge
    c.loop-at.invariant.roomier low c.index_mut-edge.ensures.value c.grow_along.ensures.roomier

pub loop-at-preserved : goal.loop-at-preserved
loop-at-preserved c =
    let low : c.loop-at.at < length c.loop-at.edges.items = omega (
      arith,
      c.loop-at-test.true,
      c.len-at-end.ensures,
      c.loop-at.invariant.roomier.long,
      c.args.edges.now.ok.0,
    ) in
    record {
      roomier = edges_next c.args.edges.now.items c.loop-at.edges.items c.loop-at.at c.index_mut-edge.result.now
          c.grow_along.new.edge c.loop-at.invariant.roomier low c.index_mut-edge.ensures.value
          c.grow_along.ensures.roomier;
      places = places_more c.args.knot c.args.count c.loop-at.edges.items c.loop-at.at c.grow_along.new.edge low
          c.loop-at.invariant.places c.in_ok-grow_along.ensures.places;
    }
