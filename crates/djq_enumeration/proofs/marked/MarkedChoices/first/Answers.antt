-- In a group the marked tuples come last, so its last tuple is where the part that changed begins.
use Rattle.djq_enumeration.proofs.LevelChoices.{node_is}
use Rattle.djq_enumeration.proofs.BackwardWalks.{if_first, if_empty}
use Rattle.djq_enumeration.proofs.marked.MarkedChoices.first.Goals as goal

pub returns-clause-some : goal.returns-clause-some
returns-clause-some g c =
    let r = c.args.reducts.now in
    if_first r c.args.level c.source-node.result c.table.result.now.key c.table.result.now.entries
    c.args.key.now c.last.result c.laws.ensures.sound
    (node_is r.tree c.tree.result.now c.args.level c.source-node.result c.tree.ensures
    c.source-node.ensures.source)
    c.table.ensures.key c.table.ensures.entries c.last.ensures.found

pub returns-clause-none : goal.returns-clause-none
returns-clause-none g c =
    let r = c.args.reducts.now in
    if_empty r c.args.level c.source-node.result c.table.result.now.key c.table.result.now.entries
    c.args.key.now c.last.result c.laws.ensures.sound
    (node_is r.tree c.tree.result.now c.args.level c.source-node.result c.tree.ensures
    c.source-node.ensures.source)
    c.table.ensures.key c.table.ensures.entries c.last.ensures.found
