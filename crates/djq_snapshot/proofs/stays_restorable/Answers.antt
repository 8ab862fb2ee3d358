-- The lines that a run logged load again, and each line that is loaded leaves it so.
use Rattle.djq_snapshot.proofs.Runs.{opening_is_restorable, runs_stay_restorable, loads_stay_restorable}
use Rattle.djq_snapshot.proofs.stays_restorable.Goals as goal

pub returns-clause-opening : goal.returns-clause-opening
returns-clause-opening c = opening_is_restorable

pub returns-clause-runs : goal.returns-clause-runs
returns-clause-runs c = runs_stay_restorable

pub returns-clause-loads : goal.returns-clause-loads
returns-clause-loads c = loads_stay_restorable
