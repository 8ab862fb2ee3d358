-- By induction over the steps: bytes that come change nothing of a whole line that is held before them.
use Rattle.djq_run_laws.proofs.TakenLines.{in_order}
use Rattle.djq_run_laws.proofs.lines_in_order.Goals as goal

pub returns : goal.returns
returns c = in_order
