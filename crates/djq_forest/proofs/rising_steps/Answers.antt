-- What came to live by a step is pending then, until it has risen.
use Rattle.djq_forest.proofs.Sides.{risings}
use Rattle.djq_forest.proofs.rising_steps.Goals as goal

pub returns : goal.returns
returns c = risings
