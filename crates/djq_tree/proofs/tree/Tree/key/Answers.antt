-- By the invariant a trim's label lies within its child's, and a side's within its guard's.
use Rattle.std.proofs.Common.{subst, sym, ◌∙◌}
use Rattle.djq_tree.specs.Tree.{IsTree}
use Rattle.djq_tree.proofs.Paths.{key_within, side_within, key_read_trim, key_read_guard, key_read_own}
use Rattle.djq_tree.proofs.tree.Tree.key.Goals as goal

pub label-requires-in-Meet : goal.label-requires-in-Meet
label-requires-in-Meet c =
    side_within c.args.self.now c.in-Some.parent c.in-Meet.guard c.in-Meet.side
    (subst IsTree c.self.view_is c.self.invariant) c.in-Some.ensures.above.1 (sym c.in-Meet.is ∙ c.node.ensures)

pub returns-in-Trim-clause-within : goal.returns-in-Trim-clause-within
returns-in-Trim-clause-within c =
    key_within c.args.self.now c.args.at _ (subst IsTree c.self.view_is c.self.invariant)
    (key_read_trim c.args.self.now c.args.at c.in-Some.parent c.in-Trim.child c.parent.result c.node.result _
    c.parent.ensures.parent c.in-Some.is c.node.ensures c.in-Trim.is c.label-in-Trim.ensures)

pub returns-in-Meet-clause-within : goal.returns-in-Meet-clause-within
returns-in-Meet-clause-within c =
    key_within c.args.self.now c.args.at _ (subst IsTree c.self.view_is c.self.invariant)
    (key_read_guard c.args.self.now c.args.at c.in-Some.parent c.in-Meet.guard c.in-Meet.side c.parent.result
    c.node.result _ c.parent.ensures.parent c.in-Some.is c.node.ensures c.in-Meet.is c.if-guard-at.true
    c.label-in-Meet.ensures)

pub returns-in_default-clause-within : goal.returns-in_default-clause-within
returns-in_default-clause-within c = key_read_own c.args.self.now c.args.at _ c.label-in_default.ensures
