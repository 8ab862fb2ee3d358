-- A change makes another word, a step is one to one, and so it stays seen.
use Rattle.djq_log_format.proofs.Seen.{byte_seen}
use Rattle.djq_log_format.proofs.a_changed_byte_is_seen.Goals as goal

pub returns : goal.returns
returns c = byte_seen
