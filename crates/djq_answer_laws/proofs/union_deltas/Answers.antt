-- A member that agrees with what came hadn't it, and one that agrees with what went hasn't it.
use Rattle.djq_answer_laws.proofs.Net.{unions_report}
use Rattle.djq_answer_laws.proofs.union_deltas.Goals as goal

pub returns : goal.returns
returns c = unions_report
