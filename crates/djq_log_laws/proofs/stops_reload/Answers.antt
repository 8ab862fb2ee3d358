-- The step that kept the last of these groups ends a run of its own, and what that kept loads.
use Rattle.djq_log_laws.proofs.Reloads.{stops_reload}
use Rattle.djq_log_laws.proofs.stops_reload.Goals as goal

pub returns : goal.returns
returns c = stops_reload
