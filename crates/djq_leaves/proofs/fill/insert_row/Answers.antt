-- The lent tuple is the only one that gives the row, so a leaf that gained it has taken the row in.
use Rattle.djq_leaves.proofs.LeafUpdates.{only_lent}
use Rattle.djq_leaves.proofs.Fills.{took_row}
use Rattle.djq_leaves.proofs.fill.insert_row.Goals as goal

pub returns : goal.returns
returns g c =
    took_row c.args.pattern.now c.args.leaf c.args.row.now c.in-Some.tuple.now
    c.args.reducts.now c.add_leaf.new.reducts c.in_ok-add_leaf.ensures.gained
    (only_lent c.args.pattern.now c.args.row.now c.in-Some.tuple.now
    c.in-Some.ensures.exact)
