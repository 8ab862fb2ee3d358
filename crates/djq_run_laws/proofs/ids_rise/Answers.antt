-- By induction over the steps: a session that opens has the greatest id, and one that closes only goes.
use Rattle.djq_run_laws.proofs.Sessions.{ids_rise}
use Rattle.djq_run_laws.proofs.ids_rise.Goals as goal

pub returns : goal.returns
returns c = ids_rise
