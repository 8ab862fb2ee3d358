-- An assignment is in all leaves exactly where it satisfies all atoms and passes all comparisons, in Showing.
use Rattle.djq_live_query.proofs.TreeAnswers.{are_shown}
use Rattle.djq_live_query.proofs.laws.answers_are_shown.Goals as goal

pub returns : goal.returns
returns c = are_shown
