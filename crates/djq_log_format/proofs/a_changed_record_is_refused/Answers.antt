-- A length would be no multiple, and a digest or a body would belong to another.
use Rattle.djq_log_format.proofs.Changed.{change_seen}
use Rattle.djq_log_format.proofs.a_changed_record_is_refused.Goals as goal

pub returns : goal.returns
returns c = change_seen
