-- Line after line, each brings the part of the store that the lines up to it say.
use Rattle.djq_snapshot.proofs.Parts.{snapshot_restores}
use Rattle.djq_snapshot.proofs.snapshot_restores.Goals as goal

pub returns : goal.returns
returns c = snapshot_restores
