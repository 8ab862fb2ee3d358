-- A line that is run is neither empty nor too long, and all that a batch holds are such lines.
use Rattle.djq_log_laws.proofs.LoggedLines.{kept_are_lines}
use Rattle.djq_log_laws.proofs.kept_are_lines.Goals as goal

pub returns : goal.returns
returns c = kept_are_lines
