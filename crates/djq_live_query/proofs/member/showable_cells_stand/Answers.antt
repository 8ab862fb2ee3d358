-- What can be shown has a cell for each variable of the head that stands for the value shown there.
use Rattle.djq_live_query.proofs.HeadAnswers.{showable_stand}
use Rattle.djq_live_query.proofs.member.showable_cells_stand.Goals as goal

pub returns : goal.returns
returns c = showable_stand
