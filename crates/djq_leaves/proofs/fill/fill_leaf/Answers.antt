-- What is taken in and what the walk has left are the relation's rows, of which none stands twice.
use Rattle.std.proofs.Common.{sym, ◌∙◌}
use Rattle.djq_leaves.proofs.Fills.{absent_row, end_taken, few_row, start_taken, step_taken, wide_row}
use Rattle.djq_leaves.proofs.fill.fill_leaf.Goals as goal

pub rows-init : goal.rows-init
rows-init g c =
    start_taken c.args.catalog.now c.args.relation c.args.pattern.now c.args.leaf
    c.rows-walk.result c.args.reducts.now c.rows-walk.ensures.rest c.requires.empty
    c.requires.bare

pub insert_row-requires-clause-columns : goal.insert_row-requires-clause-columns
insert_row-requires-clause-columns g c =
    wide_row c.args.catalog.now c.args.relation c.args.pattern.now c.args.leaf
    c.in-Some.row.now c.rows.walk c.next.new.self c.args.reducts.now c.rows.reducts
    c.laws.ensures c.requires.suits.there c.rows.invariant c.in-Some.ensures.tells
    ∙ sym c.requires.suits.columns

pub insert_row-requires-clause-absent : goal.insert_row-requires-clause-absent
insert_row-requires-clause-absent g c =
    absent_row c.args.catalog.now c.args.relation c.args.pattern.now c.args.leaf
    c.in-Some.row.now c.rows.walk c.next.new.self c.args.reducts.now c.rows.reducts
    c.laws.ensures c.requires.suits.there c.rows.invariant c.in-Some.ensures.tells

pub insert_row-requires-clause-few : goal.insert_row-requires-clause-few
insert_row-requires-clause-few g c =
    few_row c.args.catalog.now c.args.relation c.args.pattern.now c.args.leaf
    c.in-Some.row.now c.rows.walk c.next.new.self c.args.reducts.now c.rows.reducts
    c.laws.ensures c.requires.suits.there c.rows.invariant c.in-Some.ensures.tells

pub rows-preserved : goal.rows-preserved
rows-preserved g c =
    step_taken c.args.catalog.now c.args.relation c.args.pattern.now c.args.leaf
    c.in-Some.row.now c.rows.walk c.next.new.self c.args.reducts.now c.rows.reducts
    c.insert_row.new.reducts c.rows.invariant c.in-Some.ensures.tells
    c.in_ok-insert_row.ensures

pub returns : goal.returns
returns g c =
    end_taken c.args.catalog.now c.args.relation c.args.pattern.now c.args.leaf
    c.rows.walk c.args.reducts.now c.rows.reducts c.rows.invariant c.in_default.ensures.tells.0
