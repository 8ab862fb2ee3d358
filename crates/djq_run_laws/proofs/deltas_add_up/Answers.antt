-- Whether a tuple is an answer behind the change is decided, so a listed one that didn't go still is one.
use Rattle.djq_run_laws.proofs.DeltaSums.{deltas_add_up}
use Rattle.djq_run_laws.proofs.deltas_add_up.Goals as goal

pub returns : goal.returns
returns c = deltas_add_up
