-- The same is read of a forest with more room.
use Rattle.djq_forest.proofs.Roomy.{room_keeps}
use Rattle.djq_forest.proofs.room_keeps.Goals as goal

pub returns : goal.returns
returns c = room_keeps
