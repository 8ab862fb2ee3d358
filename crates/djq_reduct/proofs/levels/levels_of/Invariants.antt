use Rattle.std.proofs.Common.{◌≡◌, ◌≤◌, ◌++◌, length}
use Rattle.djq_tree.specs.Levels.{levels, levels_below}
use Rattle.djq_reduct.proofs.levels.levels_of.Given as goal

abbrev pub invariant-loop-at : goal.invariant-loop-at
invariant-loop-at l = record {
  within : l.at ≤ length l.tree.nodes;
  found : l.all.items ++ levels_below l.tree l.at ≡ levels l.tree;
}

abbrev pub decreases-loop-at : goal.decreases-loop-at
decreases-loop-at l = l.at
