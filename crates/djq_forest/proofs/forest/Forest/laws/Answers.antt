-- What a forest over a tree stands for are reducts.
use Rattle.djq_forest.proofs.Reduction.{reduction}
use Rattle.djq_forest.proofs.forest.Forest.laws.Goals as goal

pub returns-clause-sound : goal.returns-clause-sound
returns-clause-sound c = rw (← c.self.view_is) c.self.invariant.sound

pub returns-clause-reducts : goal.returns-clause-reducts
returns-clause-reducts c = rw (← c.self.view_is)
    (reduction c.self.inside.tree (record {
      knots = c.self.inside.knots.items;
      edges = c.self.inside.edges.items;
      stamp = c.self.inside.stamp;
    }) (record { knots = c.self.inside.node_knots.items; needs = c.self.inside.node_needs.items })
    c.self.invariant.sound.is_tree c.self.invariant.sound.forest c.self.invariant.sound.fold)
