use Rattle.djq_determinacy.proofs.Steps.{is_determined}
use Rattle.djq_determinacy.proofs.steps_are_determined.Goals as goal

pub returns : goal.returns
returns c = is_determined
