-- Its snapshot is that of the store with the follower's relations, which is as sound.
use Rattle.djq_snapshot.proofs.Runs.{followers_restore}
use Rattle.djq_snapshot.proofs.followers_restore.Goals as goal

pub returns : goal.returns
returns c = followers_restore
