-- That a printed value is read back in front of what may follow it is a law of its own, in Literals.
use Rattle.djq_value.proofs.Literals.{read_back}
use Rattle.djq_value.proofs.laws.values_are_read_back.Goals as goal

pub returns : goal.returns
returns c = read_back
