-- What came and what went, without what did both, by the relations between.
use Rattle.djq_answer_laws.proofs.Net.{net_delta}
use Rattle.djq_answer_laws.proofs.net_deltas.Goals as goal

pub returns : goal.returns
returns c = net_delta
