-- What was restored follows the store, and the lines that a run logged load into what follows its start.
use Rattle.djq_snapshot.proofs.Restored.{rewritten_logs_load}
use Rattle.djq_snapshot.proofs.rewritten_logs_load.Goals as goal

pub returns : goal.returns
returns c = rewritten_logs_load
