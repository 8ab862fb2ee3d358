-- The first stage makes no more nodes of `out` than leaves, and a tuple on all of those is on all of `out`.
use Rattle.std.proofs.Common.{◌≤◌, refl, arith}
use Rattle.djq_enumeration.proofs.States.{few_all, few_more, answer_upto}
use Rattle.djq_enumeration.proofs.lookup.has.Goals as goal

pub returns-then-not-allows-clause-counted : goal.returns-then-not-allows-clause-counted
returns-then-not-allows-clause-counted g c =
    let t = c.args.reducts.now.tree in
    let few = few_more t c.tree-tree.result.now c.second_stage-node-end.result c.loop-node.node
    c.laws.ensures.sound.family.is_tree c.tree-tree.ensures c.is_small.ensures
    c.second_stage-node-end.ensures c.loop-node-test.true in
    let one = c.allows.ensures.counted in
    omega (arith, c.loop-node.invariant.counted)

pub returns-clause-exact : goal.returns-clause-exact
returns-clause-exact g c =
    let r = c.args.reducts.now in
    let end : c.second_stage-node-end.result ≤ c.loop-node.node =
    (let test = c.loop-node-test.false in omega arith) in (
      λ _. answer_upto r c.tree-tree.result.now c.args.answer.now c.second_stage-node-end.result
          c.loop-node.node c.laws.ensures.sound c.requires c.tree-tree.ensures
          c.second_stage-node-end.ensures end c.loop-node.invariant.found,
      λ _. refl,
    )

pub returns-clause-counted : goal.returns-clause-counted
returns-clause-counted g c =
    let t = c.args.reducts.now.tree in
    let end = c.loop-node.auto.node-end in
    let few = few_all t c.tree-tree.result.now c.second_stage-node-end.result c.loop-node.node
    c.laws.ensures.sound.family.is_tree c.tree-tree.ensures c.is_small.ensures
    c.second_stage-node-end.ensures end in
    omega (arith, c.loop-node.invariant.counted)
