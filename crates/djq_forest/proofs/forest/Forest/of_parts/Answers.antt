-- Without slots the knots and edges are a forest.
use Rattle.djq_forest.proofs.Beginnings.{none_forest}
use Rattle.djq_forest.proofs.forest.Forest.of_parts.Goals as goal

pub invariant_of-result : goal.invariant_of-result
invariant_of-result c = record {
  sound = record {
    is_tree = c.requires.is_tree;
    forest = none_forest (record { knots = c.args.knots.items; edges = c.args.edges.items; stamp = 0 }) c.requires.shape c.requires.none;
    fold = c.requires.fold;
  };
  ups_are = c.requires.ups;
}
