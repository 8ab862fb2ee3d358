-- A node's key lies within its label, as the tree's law says, so its columns are columns of the table.
use Rattle.djq_reduct.proofs.Assignments.{columns_within}
use Rattle.djq_reduct.proofs.columns.empty_table.Goals as goal

pub new-requires : goal.new-requires
new-requires c =
    rw (c.len.ensures, c.deref.ensures.value, c.in_ok-columns.ensures)
    (columns_within c.label-label.result c.key.result (rw c.label-label.ensures c.key.ensures.within))
