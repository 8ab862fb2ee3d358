-- By the invariant children have lower numbers than the nodes that they are children of.
use Rattle.djq_tree.proofs.Paths.{rising_of}
use Rattle.djq_tree.proofs.tree.Tree.path.Goals as goal

pub new-requires-clause-rising : goal.new-requires-clause-rising
new-requires-clause-rising c = rw c.deref.ensures.value (rising_of _ c.self.invariant)
