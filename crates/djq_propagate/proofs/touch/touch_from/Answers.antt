-- What a tuple reaches above is told by the node's kind: its projection, itself, or the guard's group.
use Rattle.std.proofs.Common.{sym, ◌∙◌, arith}
use Rattle.djq_index.specs.Tuple.{same, one_if}
use Rattle.djq_index.specs.Entries.{count_of, group_of}
use Rattle.djq_tree.specs.declared.node.Node.TheVariants.{Trim}
use Rattle.djq_tree.specs.Tree.{node_at}
use Rattle.djq_reduct.specs.Tables.{entries_at, key_at}
use Rattle.djq_propagate.specs.Touches.{reach_one}
use Rattle.djq_propagate.proofs.Touches.{touched_none, touched_as, reach_leaf, reach_trim, reach_guard, reach_side}
use Rattle.djq_propagate.proofs.Touches.{cost_trim, cost_guard, cost_side, step_trim, step_lower, guard_lower}
use Rattle.djq_propagate.proofs.touch.touch_from.Goals as goal

pub node-requires : goal.node-requires
node-requires g c =
    c.requires.step.within

pub touch_part-requires-clause-family : goal.touch_part-requires-clause-family
touch_part-requires-clause-family g c =
    c.requires.step.family

pub touch_part-requires-clause-within : goal.touch_part-requires-clause-within
touch_part-requires-clause-within g c =
    let low = step_lower c.args.tree.now c.args.tables.now.items c.args.at c.args.up c.requires.step in
    let within = c.requires.step.within in
    omega arith

pub touch_part-requires-clause-wide : goal.touch_part-requires-clause-wide
touch_part-requires-clause-wide g c =
    c.requires.wide

pub touch_part-requires-clause-under : goal.touch_part-requires-clause-under
touch_part-requires-clause-under g c =
    step_trim c.args.tree.now c.args.at c.args.up c.in-Trim.child c.node.result c.requires.step.child
    c.requires.step.within c.node.ensures c.in-Trim.is

pub touch_tuple-requires-clause-family : goal.touch_tuple-requires-clause-family
touch_tuple-requires-clause-family g c =
    c.requires.step.family

pub touch_tuple-requires-clause-within : goal.touch_tuple-requires-clause-within
touch_tuple-requires-clause-within g c =
    c.requires.step.within

pub touch_group-requires-clause-family : goal.touch_group-requires-clause-family
touch_group-requires-clause-family g c =
    c.requires.step.family

pub touch_group-requires-clause-within : goal.touch_group-requires-clause-within
touch_group-requires-clause-within g c =
    c.requires.step.within

pub touch_group-requires-clause-lower : goal.touch_group-requires-clause-lower
touch_group-requires-clause-lower g c =
    guard_lower c.args.tree.now c.args.up c.in-Meet.guard c.in-Meet.side c.node.result c.requires.step.family.is_tree
    c.node.ensures c.in-Meet.is

pub returns-in-Leaf-clause-touched : goal.returns-in-Leaf-clause-touched
returns-in-Leaf-clause-touched g c =
    touched_none c.args.tree.now c.args.tables.now.items c.args.up
    (λ v. reach_one (node_at c.args.tree.now.nodes c.args.up) c.args.going c.args.at c.args.tables.now.items
    c.args.tuple.now v) c.requires.step.family
    (λ v there some. absurd
    (omega (
      arith,
      reach_leaf (node_at c.args.tree.now.nodes c.args.up) _ c.args.going c.args.at
          c.args.tables.now.items c.args.tuple.now v (sym c.node.ensures ∙ c.in-Leaf.is),
    )))

pub returns-in-Leaf-clause-counted : goal.returns-in-Leaf-clause-counted
returns-in-Leaf-clause-counted g c =
    omega arith

pub returns-in-Trim-clause-touched : goal.returns-in-Trim-clause-touched
returns-in-Trim-clause-touched g c =
    let x = step_trim c.args.tree.now c.args.at c.args.up c.in-Trim.child c.node.result c.requires.step.child
    c.requires.step.within c.node.ensures c.in-Trim.is in
    touched_as c.args.tree.now c.args.tables.now.items c.touch_part.new.tables.items c.args.up
    (λ v. reach_one (Trim c.args.at) c.args.going c.args.at c.args.tables.now.items c.args.tuple.now v)
    (λ v. reach_one (node_at c.args.tree.now.nodes c.args.up) c.args.going c.args.at c.args.tables.now.items
    c.args.tuple.now v) c.touch_part.ensures.touched
    (λ v. reach_trim (node_at c.args.tree.now.nodes c.args.up) c.args.at c.args.going c.args.at
    c.args.tables.now.items c.args.tuple.now v x.node)

pub returns-in-Trim-clause-counted : goal.returns-in-Trim-clause-counted
returns-in-Trim-clause-counted g c =
    let x = step_trim c.args.tree.now c.args.at c.args.up c.in-Trim.child c.node.result c.requires.step.child
    c.requires.step.within c.node.ensures c.in-Trim.is in
    omega (
      arith,
      c.touch_part.ensures.counted,
      cost_trim (node_at c.args.tree.now.nodes c.args.up) c.args.at c.args.at
          c.args.tables.now.items c.args.tuple.now x.node,
    )

pub returns-then-guard-at-clause-touched : goal.returns-then-guard-at-clause-touched
returns-then-guard-at-clause-touched g c =
    touched_as c.args.tree.now c.args.tables.now.items c.touch_tuple.new.tables.items c.args.up
    (λ v. one_if (same c.args.tuple.now v))
    (λ v. reach_one (node_at c.args.tree.now.nodes c.args.up) c.args.going c.args.at c.args.tables.now.items
    c.args.tuple.now v) c.touch_tuple.ensures.touched
    (λ v. reach_guard (node_at c.args.tree.now.nodes c.args.up) c.in-Meet.guard c.in-Meet.side c.args.going
    c.args.at c.args.tables.now.items c.args.tuple.now v (sym c.node.ensures ∙ c.in-Meet.is) c.if-guard-at.true)

pub returns-then-guard-at-clause-counted : goal.returns-then-guard-at-clause-counted
returns-then-guard-at-clause-counted g c =
    omega (
      arith,
      c.touch_tuple.ensures.counted,
      cost_guard (node_at c.args.tree.now.nodes c.args.up) c.in-Meet.guard
          c.in-Meet.side c.args.at c.args.tables.now.items c.args.tuple.now (sym c.node.ensures ∙ c.in-Meet.is)
          c.if-guard-at.true,
    )

pub returns-else-guard-at-clause-touched : goal.returns-else-guard-at-clause-touched
returns-else-guard-at-clause-touched g c =
    touched_as c.args.tree.now c.args.tables.now.items c.touch_group.new.tables.items c.args.up
    (λ v. count_of (group_of (key_at c.args.tables.now.items c.in-Meet.guard)
    (entries_at c.args.tables.now.items c.in-Meet.guard) c.args.tuple.now) v)
    (λ v. reach_one (node_at c.args.tree.now.nodes c.args.up) c.args.going c.args.at c.args.tables.now.items
    c.args.tuple.now v) c.touch_group.ensures.touched
    (λ v. reach_side (node_at c.args.tree.now.nodes c.args.up) c.in-Meet.guard c.in-Meet.side c.args.going c.args.at
    c.args.tables.now.items c.args.tuple.now v (sym c.node.ensures ∙ c.in-Meet.is) c.if-guard-at.false)

pub returns-else-guard-at-clause-counted : goal.returns-else-guard-at-clause-counted
returns-else-guard-at-clause-counted g c =
    omega (
      arith,
      c.touch_group.ensures.counted,
      cost_side (node_at c.args.tree.now.nodes c.args.up) c.in-Meet.guard
          c.in-Meet.side c.args.at c.args.tables.now.items c.args.tuple.now (sym c.node.ensures ∙ c.in-Meet.is)
          c.if-guard-at.false,
    )
