-- By the invariant each trim loses a variable that no other trim loses, so there are few nodes.
use Rattle.std.proofs.Common.{subst}
use Rattle.djq_tree.specs.Counts.{IsSmall}
use Rattle.djq_tree.proofs.Nodes.{small_of}
use Rattle.djq_tree.proofs.tree.Tree.is_small.Goals as goal

pub returns : goal.returns
returns c = subst IsSmall c.self.view_is (small_of _ c.self.invariant)
