-- The leaf gets its slot, and keeps it while the views get theirs.
use Rattle.djq_forest.proofs.Rooms.{leaf_within, slot_still, roomier_knots_on, roomier_edges_on}
use Rattle.std.proofs.lemmas.Result.{on_ok_weaker}
use Rattle.djq_forest.proofs.room.reserve.Goals as goal

pub reserve_leaf-requires-clause-within : goal.reserve_leaf-requires-clause-within
reserve_leaf-requires-clause-within c = leaf_within c.args.knots.now.items c.args.leaf c.requires.is_leaf

pub returns-clause-knots : goal.returns-clause-knots
returns-clause-knots c = roomier_knots_on c.args.knots.now.items c.reserve_leaf.new.knots.items
    c.reserve_views.new.knots.items c.reserve_leaf.ensures.knots c.reserve_views.ensures.knots

pub returns-clause-edges : goal.returns-clause-edges
returns-clause-edges c = roomier_edges_on c.args.edges.now.items c.reserve_leaf.new.edges.items
    c.reserve_views.new.edges.items c.reserve_leaf.ensures.edges c.reserve_views.ensures.edges

pub returns-clause-room : goal.returns-clause-room
returns-clause-room c = on_ok_weaker c.reserve_views.result
    (λ views. record {
      slot = slot_still c.reserve_leaf.new.knots.items c.reserve_views.new.knots.items c.args.leaf c.args.slot
          c.reserve_views.ensures.knots c.in_ok-reserve_leaf.ensures.room;
      views = views;
    })
    c.reserve_views.ensures.room
