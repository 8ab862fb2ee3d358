use Rattle.djq_abstract.proofs.Sound.{finished_cursors_listed}
use Rattle.djq_abstract.proofs.finished_cursors_listed.Goals as goal

pub returns : goal.returns
returns c = finished_cursors_listed
