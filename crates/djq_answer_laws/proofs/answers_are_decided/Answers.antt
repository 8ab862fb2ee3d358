-- Finitely many choices of rows are to be tried, and what only comparisons bind takes a value that passes.
use Rattle.djq_answer_laws.proofs.Decisions.{answers_are_decided}
use Rattle.djq_answer_laws.proofs.answers_are_decided.Goals as goal

pub returns : goal.returns
returns c = answers_are_decided
