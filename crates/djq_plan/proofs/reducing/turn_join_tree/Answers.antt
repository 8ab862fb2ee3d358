-- Any edge of a join tree can be made its root, by the turning that djq_hypergraph has in Linking.
use Rattle.djq_hypergraph.proofs.JoinTrees.{join_tree_turned}
use Rattle.djq_plan.proofs.reducing.turn_join_tree.Goals as goal

pub returns : goal.returns
returns c = join_tree_turned c.args.first c.args.edges.now
