-- Loading begins with the empty store, and each line that is loaded leaves a sound store and a sound batch.
use Rattle.djq_log_laws.proofs.Commands.{found_is_start}
use Rattle.djq_log_laws.proofs.found_is_start.Goals as goal

pub returns : goal.returns
returns c = found_is_start
