-- The headers differ, and a file that isn't begun is no longer than one.
use Rattle.djq_log_file.proofs.Opens.{one_log}
use Rattle.djq_log_file.proofs.a_file_is_one_log.Goals as goal

pub returns : goal.returns
returns c = one_log
