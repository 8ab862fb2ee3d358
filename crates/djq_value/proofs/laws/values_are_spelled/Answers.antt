-- That a value that is read was spelled there, behind spaces, is a law of its own, in Literals.
use Rattle.djq_value.proofs.Literals.{spelled_back}
use Rattle.djq_value.proofs.laws.values_are_spelled.Goals as goal

pub returns : goal.returns
returns c = spelled_back
