-- The cell of each variable of the head stands for the value that is shown, as said of answers in Showing.
use Rattle.djq_live_query.proofs.ShownAnswers.{answer_showable}
use Rattle.djq_live_query.proofs.laws.answers_are_showable.Goals as goal

pub returns : goal.returns
returns c = answer_showable
