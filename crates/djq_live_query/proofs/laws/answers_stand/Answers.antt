-- The value that an answer shows for a variable of the head is the one that its cell stands for.
use Rattle.djq_live_query.proofs.TreeAnswers.{stand}
use Rattle.djq_live_query.proofs.laws.answers_stand.Goals as goal

pub returns : goal.returns
returns c = stand
