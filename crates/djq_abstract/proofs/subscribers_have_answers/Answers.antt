use Rattle.djq_abstract.proofs.Live.{subscribers_have_answers}
use Rattle.djq_abstract.proofs.subscribers_have_answers.Goals as goal

pub returns : goal.returns
returns c = subscribers_have_answers
