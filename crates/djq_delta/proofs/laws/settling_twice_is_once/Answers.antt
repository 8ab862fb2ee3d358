use Rattle.djq_delta.proofs.Alone.{settles_twice}
use Rattle.djq_delta.proofs.laws.settling_twice_is_once.Goals as goal

pub returns : goal.returns
returns c = settles_twice
