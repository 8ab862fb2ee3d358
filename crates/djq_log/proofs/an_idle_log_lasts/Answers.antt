-- A crash leaves what was synced, and all of an idle log was.
use Rattle.djq_log.proofs.Keeps.{idle_log_lasts}
use Rattle.djq_log.proofs.an_idle_log_lasts.Goals as goal

pub returns : goal.returns
returns c = idle_log_lasts
