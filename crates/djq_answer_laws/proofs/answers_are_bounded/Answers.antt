-- Each answer is that of some choice of a row for each atom, so different answers are no more than choices.
use Rattle.djq_answer_laws.proofs.Choices.{answers_are_bounded}
use Rattle.djq_answer_laws.proofs.answers_are_bounded.Goals as goal

pub returns : goal.returns
returns c = answers_are_bounded
