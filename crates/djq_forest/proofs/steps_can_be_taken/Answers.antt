-- What isn't told is a need that isn't met, or an entry that isn't listed.
use Rattle.djq_forest.proofs.StepChanges.{steps}
use Rattle.djq_forest.proofs.steps_can_be_taken.Goals as goal

pub returns : goal.returns
returns c = steps
