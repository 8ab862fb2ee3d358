-- By the invariant the root is in `out`, so the walk ends, and from the node where it does all are in it.
use Rattle.std.proofs.Common.{◌∙◌, arith, rules}
use Rattle.djq_tree.proofs.Paths.{walk_splits, rising_of, frontier_step}
use Rattle.djq_tree.proofs.tree.Tree.frontier.Goals as goal

pub parent_of-requires-clause-rising : goal.parent_of-requires-clause-rising
parent_of-requires-clause-rising c = rw c.deref.ensures.value (rising_of _ c.self.invariant)

pub loop-self-smaller : goal.loop-self-smaller
loop-self-smaller c =
    let m = frontier_step _ c.args.self.now c.deref.result.now c.parent_of.result c.loop-self.node c.unwrap-node.result
    c.self.view_is c.self.invariant c.deref.ensures.value (search rules) c.parent_of.ensures c.unwrap-node.ensures
    in
    omega arith

pub loop-self-preserved : goal.loop-self-preserved
loop-self-preserved c =
    let m = frontier_step _ c.args.self.now c.deref.result.now c.parent_of.result c.loop-self.node c.unwrap-node.result
    c.self.view_is c.self.invariant c.deref.ensures.value (search rules) c.parent_of.ensures c.unwrap-node.ensures
    in
    record { within = m.1; same = c.loop-self.invariant.same ∙ m.2 }

pub returns-clause-split : goal.returns-clause-split
returns-clause-split c =
    walk_splits _ c.args.self.now c.args.leaf c.loop-self.node c.index.result.now c.self.view_is c.self.invariant
    c.loop-self.invariant.within c.index.ensures c.loop-self-test.false c.loop-self.invariant.same
