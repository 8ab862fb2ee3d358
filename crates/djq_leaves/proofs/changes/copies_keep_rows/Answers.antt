-- With another number of copies a relation has the same rows in the same order, and so have the others.
use Rattle.djq_leaves.proofs.LeafRows.{copies_keep_rows}
use Rattle.djq_leaves.proofs.changes.copies_keep_rows.Goals as goal

pub returns : goal.returns
returns c = copies_keep_rows
