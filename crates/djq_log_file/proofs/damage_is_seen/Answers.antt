-- A record would be as long as it says, and have lines and their digest.
use Rattle.djq_log_file.proofs.Damages.{damage_seen}
use Rattle.djq_log_file.proofs.damage_is_seen.Goals as goal

pub returns : goal.returns
returns c = damage_seen
