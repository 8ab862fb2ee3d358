-- Behind the writes of a course that went well stands at most one that failed, so it is the last.
use Rattle.djq_run.proofs.Runs.{failed_write_is_last}
use Rattle.djq_run.proofs.laws.failed_write_is_last.Goals as goal

pub returns : goal.returns
returns c = failed_write_is_last
