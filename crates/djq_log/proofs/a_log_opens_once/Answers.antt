-- A header is of one format, and of each format a file opens to one list of lines.
use Rattle.djq_log.proofs.Keeps.{opens_once}
use Rattle.djq_log.proofs.a_log_opens_once.Goals as goal

pub returns : goal.returns
returns c = opens_once
