-- The records before the cut are whole, and the one that is cut isn't one.
use Rattle.djq_log_format.proofs.Cut.{cut_seen}
use Rattle.djq_log_format.proofs.a_cut_log_is_refused.Goals as goal

pub returns : goal.returns
returns c = cut_seen
