-- What an answer shows is an answer, each answer is shown, and different ones show different tuples.
use Rattle.djq_live_query.proofs.TreeAnswers.{listed}
use Rattle.djq_live_query.proofs.laws.answers_are_listed.Goals as goal

pub returns : goal.returns
returns c = listed
