-- The forest has more room, or as much, so it is one over the same tree.
use Rattle.std.proofs.Common.{refl}
use Rattle.djq_forest.proofs.Beginnings.{with_ups_still}
use Rattle.djq_forest.proofs.Roomy.{reducts_alike, leaf_knot_at}
use Rattle.djq_forest.proofs.forest.Forest.reserve.Goals as goal

pub reserve-requires-clause-is_leaf : goal.reserve-requires-clause-is_leaf
reserve-requires-clause-is_leaf c = leaf_knot_at
    (record {
      tree = c.self.inside.tree;
      forest = record {
        knots = c.self.inside.knots.items;
        edges = c.self.inside.edges.items;
        stamp = c.self.inside.stamp;
      };
      fold = record { knots = c.self.inside.node_knots.items; needs = c.self.inside.node_needs.items };
    }) c.args.leaf c.self.invariant.sound (rw (← c.self.view_is) at c.requires)

pub reserve-requires-clause-along : goal.reserve-requires-clause-along
reserve-requires-clause-along c = c.self.invariant.sound.forest.entries.along

pub invariant_of-self : goal.invariant_of-self
invariant_of-self c = with_ups_still c.self.inside.ups.items
    (record {
      tree = c.self.inside.tree;
      forest = record {
        knots = c.self.inside.knots.items;
        edges = c.self.inside.edges.items;
        stamp = c.self.inside.stamp;
      };
      fold = record { knots = c.self.inside.node_knots.items; needs = c.self.inside.node_needs.items };
    })
    (record {
      knots = c.reserve.new.knots.items;
      edges = c.reserve.new.edges.items;
      stamp = c.self.inside.stamp;
    })
    (record { knots = c.reserve.ensures.knots; edges = c.reserve.ensures.edges; stamp = refl })
    c.reserve.ensures.along c.self.invariant

pub returns-clause-roomier : goal.returns-clause-roomier
returns-clause-roomier c = rw (← c.self.view_is)
    (record { knots = c.reserve.ensures.knots; edges = c.reserve.ensures.edges; stamp = refl })

pub returns-clause-reducts : goal.returns-clause-reducts
returns-clause-reducts c = rw (← c.self.view_is)
    (reducts_alike c.self.inside.tree
    (record {
      knots = c.self.inside.knots.items;
      edges = c.self.inside.edges.items;
      stamp = c.self.inside.stamp;
    })
    (record {
      knots = c.reserve.new.knots.items;
      edges = c.reserve.new.edges.items;
      stamp = c.self.inside.stamp;
    })
    (record { knots = c.self.inside.node_knots.items; needs = c.self.inside.node_needs.items })
    (record { knots = c.reserve.ensures.knots; edges = c.reserve.ensures.edges; stamp = refl })
    c.self.invariant.sound.forest.entries.along)
