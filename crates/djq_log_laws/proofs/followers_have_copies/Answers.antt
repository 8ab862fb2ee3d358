-- A store that follows another has the same relations by name, with the same rows, each with its copies.
use Rattle.djq_log_laws.proofs.Stores.{followers_have_copies}
use Rattle.djq_log_laws.proofs.followers_have_copies.Goals as goal

pub returns : goal.returns
returns c = followers_have_copies
