-- Where a batch is open, `abandon` is never refused and leaves the rows as they were before the batch.
use Rattle.djq_log_laws.proofs.Reloads.{abandon_runs, abandoned_are_loaded}
use Rattle.djq_log_laws.proofs.abandoned_are_loaded.Goals as goal

pub returns-clause-runs : goal.returns-clause-runs
returns-clause-runs c = abandon_runs

pub returns-clause-loads : goal.returns-clause-loads
returns-clause-loads c = abandoned_are_loaded
