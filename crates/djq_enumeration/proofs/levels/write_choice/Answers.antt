-- The tuple at a live place is the chosen one; it is as wide as its node's label, which lies within the head.
use Rattle.std.proofs.Common.{◌∙◌, List, ℕ, length, ap, sym}
use Rattle.djq_tree.specs.Labels.{label_at}
use Rattle.djq_enumeration.specs.Levels.{source}
use Rattle.djq_enumeration.proofs.Cells.{label_columns, length_columns}
use Rattle.djq_enumeration.proofs.LevelChoices.{read_chosen, chosen_wide, put_chosen, node_is, columns_are}
use Rattle.djq_enumeration.proofs.LevelChoices.{source_subset}
use Rattle.djq_enumeration.proofs.levels.write_choice.Goals as goal

pub write_tuple-requires-clause-long : goal.write_tuple-requires-clause-long
write_tuple-requires-clause-long c =
    let r = c.args.reducts.now in
    let h = c.laws.ensures.sound in
    let at = node_is r.tree c.tree.result.now c.args.choice.level c.source-node.result
    c.tree.ensures c.source-node.ensures.source in
    ap (λ (u : List ℕ). length u)
    (read_chosen r c.args.choice c.table.result.now.entries c.source-node.result
    c.tuple-tuple.result.now c.requires.alive h c.table.ensures.entries at
    c.tuple-tuple.ensures)
    ∙ chosen_wide r c.args.choice c.requires.alive h
    ∙ sym (length_columns r.tree.head (label_at r.tree.labels (source r.tree c.args.choice.level))
    c.columns.result.now
    (columns_are r.tree c.args.choice.level c.source-node.result c.columns.result.now at
    c.columns.ensures))

pub write_tuple-requires-clause-within : goal.write_tuple-requires-clause-within
write_tuple-requires-clause-within c =
    let t = c.args.reducts.now.tree in
    let at = node_is t c.tree.result.now c.args.choice.level c.source-node.result
    c.tree.ensures c.source-node.ensures.source in
    label_columns t.head (label_at t.labels (source t c.args.choice.level)) c.columns.result.now
    c.args.answer.now
    (columns_are t c.args.choice.level c.source-node.result c.columns.result.now at
    c.columns.ensures)
    (source_subset t c.args.choice.level c.laws.ensures.sound.family.is_tree
    c.requires.alive.level) c.requires.wide

pub returns : goal.returns
returns c =
    let r = c.args.reducts.now in
    let at = node_is r.tree c.tree.result.now c.args.choice.level c.source-node.result
    c.tree.ensures c.source-node.ensures.source in
    put_chosen r c.args.choice c.columns.result.now c.tuple-tuple.result.now
    c.args.answer.now c.write_tuple.new.answer
    (columns_are r.tree c.args.choice.level c.source-node.result c.columns.result.now at
    c.columns.ensures)
    (read_chosen r c.args.choice c.table.result.now.entries c.source-node.result
    c.tuple-tuple.result.now c.requires.alive c.laws.ensures.sound c.table.ensures.entries at
    c.tuple-tuple.ensures)
    c.write_tuple.ensures
