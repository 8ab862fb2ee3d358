-- What a session becomes is said for each event, and only the event that closes it takes it away.
use Rattle.djq_run_laws.proofs.Events.{step_open}
use Rattle.djq_run_laws.proofs.stays_open.Goals as goal

pub returns : goal.returns
returns c = step_open
