-- The first node that has it as a child is its parent, and no node below the index has.
use Rattle.std.proofs.Common.{rules, sym, arith}
use Rattle.djq_tree.proofs.Paths.{parent_is, parent_none_is}
use Rattle.djq_tree.proofs.path.parent_of.Goals as goal

pub returns-then-has_child : goal.returns-then-has_child
returns-then-has_child c = sym
    (parent_is c.args.nodes.now c.args.node c.loop-k.k (omega arith) (search rules) c.loop-k.invariant)

pub returns : goal.returns
returns c = sym (parent_none_is c.args.nodes.now c.args.node (λ i h. c.loop-k.invariant i (omega arith)))
