-- Place by place the cell stands for the value shown, and the head's variables have the answers' types.
use Rattle.djq_live_query.proofs.HeadAnswers.{cells_stand}
use Rattle.djq_live_query.proofs.member.cells_in_head_stand.Goals as goal

pub returns : goal.returns
returns c = cells_stand
