-- A relation has a row at most once. `add` and `del` change the copies of their row alone, lines those of their rows.
use Rattle.djq_run_laws.proofs.Copies.{rows_have_copies, adds_copy, takes_copy, lines_leave_copies}
use Rattle.djq_run_laws.proofs.copies_are_counted.Goals as goal

pub returns-clause-there : goal.returns-clause-there
returns-clause-there c = rows_have_copies

pub returns-clause-added : goal.returns-clause-added
returns-clause-added c = adds_copy

pub returns-clause-taken : goal.returns-clause-taken
returns-clause-taken c = takes_copy

pub returns-clause-lines : goal.returns-clause-lines
returns-clause-lines c = lines_leave_copies
