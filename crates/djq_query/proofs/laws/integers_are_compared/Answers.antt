-- The bits of two integers of 64 bits, read with their sign, stand to each other as the integers do.
use Rattle.djq_query.proofs.Atoms.{integers_compare}
use Rattle.djq_query.proofs.laws.integers_are_compared.Goals as goal

pub returns : goal.returns
returns c = integers_compare
