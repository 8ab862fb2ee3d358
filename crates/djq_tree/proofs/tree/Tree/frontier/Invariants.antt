use Rattle.std.proofs.Common.{◌≡◌, ◌<◌, ◌-◌, length, find}
use Rattle.djq_tree.specs.Tree.{is_out, path_of}
use Rattle.djq_tree.proofs.tree.Tree.frontier.Given as goal

abbrev pub invariant-loop-self : goal.invariant-loop-self
invariant-loop-self l = record {
  within : l.node < length l.self.nodes;
  same : find (λ k. is_out l.self.out k) (path_of l.self.nodes l.fn.leaf)
      ≡ find (λ k. is_out l.self.out k) (path_of l.self.nodes l.node);
}

abbrev pub decreases-loop-self : goal.decreases-loop-self
decreases-loop-self l = length l.self.nodes - l.node
