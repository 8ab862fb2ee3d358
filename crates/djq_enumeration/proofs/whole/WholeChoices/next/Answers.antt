-- What the child's table gives behind a place is what the level's menu has behind the chosen tuple.
use Rattle.djq_enumeration.proofs.LevelChoices.{node_is}
use Rattle.djq_enumeration.proofs.MarkedGroups.{if_next, if_last}
use Rattle.djq_enumeration.proofs.whole.WholeChoices.next.Goals as goal

pub returns-clause-some : goal.returns-clause-some
returns-clause-some g c =
    let r = c.args.reducts.now in
    if_next r c.args.choice c.source-node.result c.table.result.now.key c.table.result.now.entries
    c.next.result c.laws.ensures.sound c.requires
    (node_is r.tree c.tree.result.now c.args.choice.level c.source-node.result c.tree.ensures
    c.source-node.ensures.source)
    c.table.ensures.key c.table.ensures.entries c.next.ensures.found

pub returns-clause-none : goal.returns-clause-none
returns-clause-none g c =
    let r = c.args.reducts.now in
    if_last r c.args.choice c.source-node.result c.table.result.now.key c.table.result.now.entries
    c.next.result c.laws.ensures.sound c.requires
    (node_is r.tree c.tree.result.now c.args.choice.level c.source-node.result c.tree.ensures
    c.source-node.ensures.source)
    c.table.ensures.key c.table.ensures.entries c.next.ensures.found
