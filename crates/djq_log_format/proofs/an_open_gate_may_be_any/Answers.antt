-- What stands behind the gate is the same.
use Rattle.djq_log_format.proofs.Once.{gate_free}
use Rattle.djq_log_format.proofs.an_open_gate_may_be_any.Goals as goal

pub returns : goal.returns
returns c = gate_free
