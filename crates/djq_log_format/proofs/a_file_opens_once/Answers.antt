-- A stored length says where a record ends, and the records are known one after another.
use Rattle.djq_log_format.proofs.Once.{opens_once}
use Rattle.djq_log_format.proofs.a_file_opens_once.Goals as goal

pub returns : goal.returns
returns c = opens_once
