-- A crash leaves whole groups, all answered ones among them, and a run's groups load to where it stood.
use Rattle.djq_program_laws.proofs.Logs.{logs_reopen}
use Rattle.djq_program_laws.proofs.laws.logs_reopen.Goals as goal

pub returns : goal.returns
returns c = logs_reopen
