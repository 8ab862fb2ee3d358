-- For each variable of the head, two cells that stand for the same value of its type are the same.
use Rattle.djq_live_query.proofs.TreeAnswers.{differ}
use Rattle.djq_live_query.proofs.laws.answers_differ.Goals as goal

pub returns : goal.returns
returns c = differ
