-- By induction over the steps: what was taken or dropped stood first, and what is queued comes last.
use Rattle.djq_run_laws.proofs.Events.{run_bytes}
use Rattle.djq_run_laws.proofs.sent_bytes.Goals as goal

pub returns : goal.returns
returns c = run_bytes
