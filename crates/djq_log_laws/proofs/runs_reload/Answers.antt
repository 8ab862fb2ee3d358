-- Lines that were found load again, and what the run kept loads behind them, where its start is followed.
use Rattle.djq_log_laws.proofs.Reloads.{runs_reload}
use Rattle.djq_log_laws.proofs.runs_reload.Goals as goal

pub returns : goal.returns
returns c = runs_reload
