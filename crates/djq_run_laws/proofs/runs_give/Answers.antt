-- By induction over the steps: a change makes stale the cursors whose answers it may change, and no other.
use Rattle.djq_run_laws.proofs.Cursors.{runs_give}
use Rattle.djq_run_laws.proofs.runs_give.Goals as goal

pub returns : goal.returns
returns c = runs_give
