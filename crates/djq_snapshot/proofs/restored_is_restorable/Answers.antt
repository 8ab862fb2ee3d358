-- What follows a sound store is sound, and each line that is restored leaves what is restorable so.
use Rattle.djq_snapshot.proofs.Restored.{followers_are_sound, restored_is_restorable}
use Rattle.djq_snapshot.proofs.restored_is_restorable.Goals as goal

pub returns-clause-followers : goal.returns-clause-followers
returns-clause-followers c = followers_are_sound

pub returns-clause-restored : goal.returns-clause-restored
returns-clause-restored c = restored_is_restorable
