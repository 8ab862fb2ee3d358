-- Each append leaves the lines before it or those with its whole group, so stretches of appends do too.
use Rattle.djq_log.proofs.Keeps.{keeps_on}
use Rattle.djq_log.proofs.groups_are_kept_in_order.Goals as goal

pub returns : goal.returns
returns c = keeps_on
