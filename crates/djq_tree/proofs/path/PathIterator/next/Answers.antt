-- A parent is above its child and within the tree, so what is left of a path is its parent's path.
use Rattle.std.proofs.Common.{rules, sym, ◌∙◌}
use Rattle.djq_tree.proofs.Paths.{parent_above, next_step}
use Rattle.djq_tree.proofs.path.PathIterator.next.Goals as goal

pub invariant_of-self : goal.invariant_of-self
invariant_of-self c =
    (c.self.invariant.0, λ x e. (parent_above _ _ x c.self.invariant.0 (sym c.parent_of-self-inside.ensures ∙ e)).1)

pub returns-clause-steps : goal.returns-clause-steps
returns-clause-steps c = next_step _ _ _ _ _ c.self.invariant.0 c.self.view_is (search rules)
    c.parent_of-self-inside.ensures

pub returns-clause-goes : goal.returns-clause-goes
returns-clause-goes c =
    let s = next_step _ _ _ _ _ c.self.invariant.0 c.self.view_is (search rules) c.parent_of-self-inside.ensures in
    search rules
