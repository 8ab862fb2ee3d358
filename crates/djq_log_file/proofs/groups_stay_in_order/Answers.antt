-- Each append leaves the groups before it, or those and its own.
use Rattle.djq_log_file.proofs.Keeps.{keeps_groups}
use Rattle.djq_log_file.proofs.groups_stay_in_order.Goals as goal

pub returns : goal.returns
returns c = keeps_groups
