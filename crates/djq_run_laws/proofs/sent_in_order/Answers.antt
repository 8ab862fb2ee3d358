-- Sessions that open have greater ids than all before, so nothing more is taken of one that was closed.
use Rattle.djq_run_laws.proofs.TakenLines.{sent_in_order}
use Rattle.djq_run_laws.proofs.sent_in_order.Goals as goal

pub returns : goal.returns
returns c = sent_in_order
