-- Cells that are had are those of some answer of the tree, and these stand for the values that it shows.
use Rattle.djq_live_query.proofs.HeadAnswers.{had_stand}
use Rattle.djq_live_query.proofs.member.had_cells_stand.Goals as goal

pub returns : goal.returns
returns c = had_stand
