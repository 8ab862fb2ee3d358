-- An answer in values is shown by one of the tree, whose cells in the head's order stand for it.
use Rattle.djq_live_query.proofs.HeadAnswers.{have_cells}
use Rattle.djq_live_query.proofs.member.answers_have_cells.Goals as goal

pub returns : goal.returns
returns c = have_cells
