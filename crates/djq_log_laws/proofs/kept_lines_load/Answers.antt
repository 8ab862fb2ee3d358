-- By induction over the steps: a group that is kept loads where the store is followed, and gives a follower.
use Rattle.djq_log_laws.proofs.Reloads.{kept_lines_load}
use Rattle.djq_log_laws.proofs.kept_lines_load.Goals as goal

pub returns : goal.returns
returns c = kept_lines_load
