-- A node is current where its number is among the current ones, and the nodes before it are told already.
use Rattle.std.proofs.Common.{◌∙◌, ap, arith}
use Rattle.djq_tree.specs.Growing.{Growth}
use Rattle.djq_plan.proofs.GrowthSteps.{mark_more}
use Rattle.djq_plan.proofs.growing.Growing.marks.Goals as goal

pub loop-node-preserved : goal.loop-node-preserved
loop-node-preserved c =
    mark_more c.args.self.now c.loop-node.node-counter c.loop-node.marks.items c.push.new.self.items c.contains.result
    c.deref.result.now (omega arith)
    (c.deref.ensures.value ∙ ap (λ (g : Growth). g.numbers) c.self.view_is) c.contains.ensures.value
    c.loop-node.invariant c.in_ok-push.ensures.items
