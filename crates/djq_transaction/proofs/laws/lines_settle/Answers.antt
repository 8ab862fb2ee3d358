-- By the law of changes by which rows come and others go at once.
use Rattle.djq_store_spec.specs.Lines.{relations_between, relations_after}
use Rattle.djq_transaction.proofs.SettledLines.{lines_insert, lines_remove}
use Rattle.djq_transaction.proofs.InsertedRows.{rows_inserted}
use Rattle.djq_transaction.proofs.RemovedRows.{rows_removed}
use Rattle.djq_transaction.proofs.laws.lines_settle.Goals as goal

pub returns-clause-insert : goal.returns-clause-insert
returns-clause-insert c = lines_insert

pub returns-clause-inserted : goal.returns-clause-inserted
returns-clause-inserted c = rows_inserted

pub returns-clause-remove : goal.returns-clause-remove
returns-clause-remove c = lines_remove

pub returns-clause-removed : goal.returns-clause-removed
returns-clause-removed c = rows_removed

pub returns-clause-delta : goal.returns-clause-delta
returns-clause-delta c = λ relations lines q come gone new d e s.
    c.net_deltas.ensures relations (relations_between relations lines) (relations_after relations lines) q
    (lines_insert relations lines) (lines_remove relations lines) come gone new d e s
