-- The answers are among the tuples of the values that the relations have, and each of these is decided.
use Rattle.djq_answer_laws.proofs.Listings.{answers_are_finite}
use Rattle.djq_answer_laws.proofs.answers_are_finite.Goals as goal

pub returns : goal.returns
returns c = answers_are_finite
