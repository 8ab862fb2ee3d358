-- One more telling moves one slot in a list, and one count.
use Rattle.djq_forest.proofs.Tellings.{tellings}
use Rattle.djq_forest.proofs.telling_keeps.Goals as goal

pub returns : goal.returns
returns c = tellings
