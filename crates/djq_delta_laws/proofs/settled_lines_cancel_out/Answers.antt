use Rattle.djq_delta_laws.proofs.Read.{cancel_out}
use Rattle.djq_delta_laws.proofs.settled_lines_cancel_out.Goals as goal

pub returns : goal.returns
returns c = cancel_out
