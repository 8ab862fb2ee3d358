-- An answer in values is shown by one of the tree, and the same cells stand for one tuple only.
use Rattle.djq_live_query.proofs.HeadAnswers.{are_had}
use Rattle.djq_live_query.proofs.member.answers_are_had.Goals as goal

pub returns : goal.returns
returns c = are_had
