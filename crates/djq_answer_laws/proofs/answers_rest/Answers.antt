-- A relation that isn't touched is found as before, so a query that reads no other has the same answers.
use Rattle.djq_answer_laws.proofs.Choices.{answers_rest, one_spares}
use Rattle.djq_answer_laws.proofs.answers_rest.Goals as goal

pub returns-clause-rest : goal.returns-clause-rest
returns-clause-rest c = answers_rest

pub returns-clause-changes : goal.returns-clause-changes
returns-clause-changes c = one_spares
