-- A step tells what was pending, and what came to live by it is pending then.
use Rattle.djq_forest.proofs.Pendings.{pendings}
use Rattle.djq_forest.proofs.pending_moves.Goals as goal

pub returns : goal.returns
returns c = pendings
