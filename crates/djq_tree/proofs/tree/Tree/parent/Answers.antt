-- By the invariant children have lower numbers than the node above, and each node but the root is a child.
use Rattle.std.proofs.Common.{List, subst, ap, ◌∙◌}
use Rattle.djq_tree.specs.declared.node.Node.{Node}
use Rattle.djq_tree.specs.Tree.{Tree, IsTree, parent}
use Rattle.djq_tree.proofs.Paths.{parent_read, up_within, rising_of}
use Rattle.djq_tree.proofs.tree.Tree.parent.Goals as goal

pub parent_of-requires-clause-rising : goal.parent_of-requires-clause-rising
parent_of-requires-clause-rising c = rw c.deref.ensures.value (rising_of _ c.self.invariant)

pub returns-in-Some-clause-above : goal.returns-in-Some-clause-above
returns-in-Some-clause-above c = up_within c.args.self.now c.args.at c.in-Some.up
    (subst IsTree c.self.view_is c.self.invariant) c.in-Some.ensures

pub returns-in-None-clause-above : goal.returns-in-None-clause-above
returns-in-None-clause-above c =
    parent_read c.args.self.now c.args.at c.parent_of.result (subst IsTree c.self.view_is c.self.invariant)
    (c.parent_of.ensures ∙ ap (λ (ns : List Node). parent ns c.args.at) c.deref.ensures.value
    ∙ ap (λ (t : Tree). parent t.nodes c.args.at) c.self.view_is)
