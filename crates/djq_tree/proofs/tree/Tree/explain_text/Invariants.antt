use Rattle.std.proofs.Common.{◌≡◌}
use Rattle.djq_tree.specs.Explaining.{lines_below}
use Rattle.djq_tree.proofs.tree.Tree.explain_text.Given as goal

abbrev pub invariant-loop-at : goal.invariant-loop-at
invariant-loop-at l = l.lines ≡ lines_below l.atoms l.variables l.self l.at
