-- It is computed.
use Rattle.djq_log_format.proofs.Worked.{example_holds}
use Rattle.djq_log_format.proofs.the_example_is_closed_whole.Goals as goal

pub returns : goal.returns
returns c = example_holds
