-- Each line takes a store that follows the one that it was restored in to one that follows what it gave.
use Rattle.djq_snapshot.proofs.Steps.{restored_again}
use Rattle.djq_snapshot.proofs.restored_again.Goals as goal

pub returns : goal.returns
returns c = restored_again
