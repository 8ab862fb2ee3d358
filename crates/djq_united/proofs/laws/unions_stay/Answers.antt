-- With the same tables each member has the same answers, and the same states have given the same of them.
use Rattle.djq_united.proofs.Cursors.{unions_stayed}
use Rattle.djq_united.proofs.laws.unions_stay.Goals as goal

pub returns : goal.returns
returns c = unions_stayed
