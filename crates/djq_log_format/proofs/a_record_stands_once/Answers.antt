-- A record is known from its bytes, and its gate isn't closed.
use Rattle.djq_log_format.proofs.Once.{stands_once}
use Rattle.djq_log_format.proofs.a_record_stands_once.Goals as goal

pub returns : goal.returns
returns c = stands_once
