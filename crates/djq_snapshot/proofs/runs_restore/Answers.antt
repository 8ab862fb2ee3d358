-- A run comes to sound stores that their snapshots restore.
use Rattle.djq_snapshot.proofs.Runs.{runs_restore}
use Rattle.djq_snapshot.proofs.runs_restore.Goals as goal

pub returns : goal.returns
returns c = runs_restore
